-- The fixed rows of a network's programme with their makers, from the three passes that add them. Assumes nothing.
use mathlib.Core.Path.{◌≡◌, refl, sym, ◌∙◌, ap, subst}
use Prim.Native.Nat.{ℕ}
use Rattle.std.specs.Prelude.{Result, Ok, Err}
use mathlib.Core.List.{List, ◌++◌, append_assoc}
use lib.Ieee.{Float}
use Rattle.pywr.specs.declared.Sentinel.{Sentinel}
use Rattle.pywr.specs.Network.{Network}
use Rattle.pywr.specs.Rows.{column_map}
use Rattle.pywr.specs.Programme.{Row, Maker}
use Rattle.pywr.specs.FixedRows.{mass_rows_from, constant_rows_from, exclusivity_rows}
use Rattle.pywr.specs.Makers.{mass_makers, constant_makers, exclusivity_makers, fixed_makers}
use Rattle.pywr.specs.Build.{assemble, programme_of}
use Rattle.build_append.specs.declared.Filled.{Filled}
use Rattle.build_exclusive_sets.specs.declared.ProgrammeFull.{ProgrammeFull}
use Rattle.build_append.specs.LpBuilder.{within_ceilings}
use Rattle.build_append.proofs.RowsHeldLaws.{over_more}
use Rattle.build_makers.specs.MadeRows.{MadeHeld, MadeHolding}
use Rattle.build_makers.proofs.Making.{Makes}

module _ (new more : List Row) (theirs others : List Maker) (words words₁ : List ℕ) (numbers numbers₁ : List Float) (f : Filled) where
  -- rows added behind rows that were added
  makes_then : (g : Filled) (r : Result Filled ProgrammeFull) (words₂ : List ℕ) (numbers₂ : List Float) → Makes new theirs words numbers f (Ok g) words₁ numbers₁
      → Makes more others words₁ numbers₁ g r words₂ numbers₂ → Makes (new ++ more) (theirs ++ others) words numbers f r words₂ numbers₂
  makes_then g r words₂ numbers₂ a b rows makers h =
      let first = a rows makers h in
      let second = b (rows ++ new) (makers ++ theirs) (first.held g refl) in
      let e : (rows ++ new) ++ more ≡ rows ++ (new ++ more) = append_assoc rows new more in
      let m : (makers ++ theirs) ++ others ≡ makers ++ (theirs ++ others) = append_assoc makers theirs others in
      record {
        held = λ k q. subst (λ (y : List Maker). MadeHeld (rows ++ (new ++ more)) y words₂ numbers₂ k) m
            (subst (λ (x : List Row). MadeHeld x ((makers ++ theirs) ++ others) words₂ numbers₂ k) e (second.held k q));
        full = λ full q. ap within_ceilings (sym e) ∙ second.full full q;
        kept = second.kept ∙ first.kept;
      }

  -- rows that are over the ceilings, whatever comes behind them
  makes_full : (full : ProgrammeFull) → Makes new theirs words numbers f (Err full) words₁ numbers₁ → Makes (new ++ more) (theirs ++ others) words numbers f (Err full) words₁ numbers₁
  makes_full full a rows makers h =
      let first = a rows makers h in
      record {
        held = λ k q. absurd (cc);
        full = λ full' q. ap within_ceilings (sym (append_assoc rows new more)) ∙ over_more (rows ++ new) more (first.full full refl);
        kept = first.kept;
      }

-- the rows that are held once rows were added
makes_holding : (new : List Row) (theirs : List Maker) (words words₁ : List ℕ) (numbers numbers₁ : List Float) (f g : Filled)
    → Makes new theirs words numbers f (Ok g) words₁ numbers₁ → MadeHolding words numbers f → MadeHolding words₁ numbers₁ g
makes_holding new theirs words words₁ numbers numbers₁ f g a h =
    record { rows = h.rows ++ new; makers = h.makers ++ theirs; held = (a h.rows h.makers h.held).held g refl }

module _ (s : Sentinel) (net : Network) where
  abbrev mass : List Row
  mass = mass_rows_from (column_map net) 0 net.nodes

  abbrev constant : List Row
  constant = constant_rows_from s (column_map net) 0 net.nodes

  abbrev exclusive : List Row
  exclusive = exclusivity_rows (column_map net) net.aggregates

  abbrev by_masses : List Maker
  by_masses = mass_makers (column_map net) 0 net.nodes

  abbrev by_constants : List Maker
  by_constants = constant_makers s (column_map net) 0 net.nodes

  abbrev by_exclusives : List Maker
  by_exclusives = exclusivity_makers (column_map net) 0 net.aggregates

  -- what the three passes make together
  abbrev AllMade : List ℕ → List Float → Filled → Result Filled ProgrammeFull → List ℕ → List Float → Type 0
  AllMade words numbers f r words' numbers' = Makes (programme_of s net).programme.fixed (fixed_makers s (column_map net) net) words numbers f r words' numbers'

  fixed_is : (words : List ℕ) (numbers : List Float) (f : Filled) (r : Result Filled ProgrammeFull) (words' : List ℕ) (numbers' : List Float)
      → Makes ((mass ++ constant) ++ exclusive) ((by_masses ++ by_constants) ++ by_exclusives) words numbers f r words' numbers' → AllMade words numbers f r words' numbers'
  unfolding programme_of assemble fixed_makers
  fixed_is words numbers f r words' numbers' made = made

  module _ (words words₁ : List ℕ) (numbers numbers₁ : List Float) (f : Filled) (r₁ : Result Filled ProgrammeFull) (a : Makes mass by_masses words numbers f r₁ words₁ numbers₁) where
    pub mass_full : (full : ProgrammeFull) → r₁ ≡ Err full → AllMade words numbers f (Err full) words₁ numbers₁
    mass_full full e =
        let a' = subst (λ (x : Result Filled ProgrammeFull). Makes mass by_masses words numbers f x words₁ numbers₁) e a in
        let b' = makes_full mass constant by_masses by_constants words words₁ numbers numbers₁ f full a' in
        fixed_is words numbers f (Err full) words₁ numbers₁ (makes_full (mass ++ constant) exclusive (by_masses ++ by_constants) by_exclusives words words₁ numbers numbers₁ f full b')

    module _ (g : Filled) (e₁ : r₁ ≡ Ok g) where
      done : Makes mass by_masses words numbers f (Ok g) words₁ numbers₁
      done = subst (λ (x : Result Filled ProgrammeFull). Makes mass by_masses words numbers f x words₁ numbers₁) e₁ a

      pub mass_holding : MadeHolding words numbers f → MadeHolding words₁ numbers₁ g
      mass_holding = makes_holding mass by_masses words words₁ numbers numbers₁ f g done

      module _ (words₂ : List ℕ) (numbers₂ : List Float) (r₂ : Result Filled ProgrammeFull) (b : Makes constant by_constants words₁ numbers₁ g r₂ words₂ numbers₂) where
        both : Makes (mass ++ constant) (by_masses ++ by_constants) words numbers f r₂ words₂ numbers₂
        both = makes_then mass constant by_masses by_constants words words₁ numbers numbers₁ f g r₂ words₂ numbers₂ done b

        pub constant_full : (full : ProgrammeFull) → r₂ ≡ Err full → AllMade words numbers f (Err full) words₂ numbers₂
        constant_full full e =
            let b' = subst (λ (x : Result Filled ProgrammeFull). Makes (mass ++ constant) (by_masses ++ by_constants) words numbers f x words₂ numbers₂) e both in
            fixed_is words numbers f (Err full) words₂ numbers₂ (makes_full (mass ++ constant) exclusive (by_masses ++ by_constants) by_exclusives words words₂ numbers numbers₂ f full b')

        module _ (h : Filled) (e₂ : r₂ ≡ Ok h) where
          both_done : Makes (mass ++ constant) (by_masses ++ by_constants) words numbers f (Ok h) words₂ numbers₂
          both_done = subst (λ (x : Result Filled ProgrammeFull). Makes (mass ++ constant) (by_masses ++ by_constants) words numbers f x words₂ numbers₂) e₂ both

          pub constant_holding : MadeHolding words numbers f → MadeHolding words₂ numbers₂ h
          constant_holding = makes_holding (mass ++ constant) (by_masses ++ by_constants) words words₂ numbers numbers₂ f h both_done

          pub all_fixed : (r₃ : Result Filled ProgrammeFull) (words₃ : List ℕ) (numbers₃ : List Float) → Makes exclusive by_exclusives words₂ numbers₂ h r₃ words₃ numbers₃
              → AllMade words numbers f r₃ words₃ numbers₃
          all_fixed r₃ words₃ numbers₃ x =
              fixed_is words numbers f r₃ words₃ numbers₃
              (makes_then (mass ++ constant) exclusive (by_masses ++ by_constants) by_exclusives words words₂ numbers numbers₂ f h r₃ words₃ numbers₃ both_done x)
