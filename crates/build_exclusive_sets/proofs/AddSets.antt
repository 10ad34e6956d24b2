-- The loop over the sets of an aggregate: a set that is known, one that is new, and one too many. Assumes nothing.
use Prim.Native.Nat.{ℕ, suc, ◌+◌, ◌-◌, ◌<◌, ◌≤◌}
use Rattle.std.specs.Prelude.{Ok, Err}
use mathlib.Core.Path.{◌≡◌, refl, sym, ap, ◌∙◌, subst}
use mathlib.Core.Logic.{⊎_elim, ◌≢◌}
use mathlib.Core.List.{List, [], ◌∷◌, ◌++◌}
use mathlib.Core.Bool.{Bool, true, false, cond, ◌||◌}
use native.Mathlib.Omega.{arith}
use native.Mathlib.Numerals.{add-one}
use native.Mathlib.Nat.{eq-or-lt_of_le}
use lib.ListN.{length, get_or, take, set, length-append, length-set}
use lib.Seq.{take-suc-set, get_or-set_same, get_or-set_other}
use Rattle.laws.proofs.Runs.{map_snoc}
use Rattle.pywr.specs.Bytes.{byte}
use Rattle.pywr.specs.ExclusiveSets.{same_set, has_set, add_sets, set_number}
use Rattle.fields.specs.Records.{records_at, records_end}
use Rattle.network_aggregate.specs.AggregatedNode.{aggregate_set_at, set_end}
use Rattle.network_laws.specs.Passed.{SetPassed, AggregatePassed}
use Rattle.fields.proofs.RecordLaws.{end_more, records_left, records_over}
use Rattle.build_exclusive_sets.specs.Sets.{SetsFit, sets_at, Collected}
use Rattle.build_exclusive_sets.specs.declared.ProgrammeFull.{ProgrammeFull}
use Rattle.build_exclusive_sets.proofs.SetNumber.{sets_length}

-- ---- one set more

number_known : (s : List ℕ) (known : List (List ℕ)) → set_number s known < length known → has_set s known ≡ true
unfolding set_number has_set
number_known s [] h = absurd (omega arith)
number_known s (t ∷ ts) h = go (same_set t s) (λ l. number_known s ts l) h
  where
    go : (b : Bool) → (set_number s ts < length ts → has_set s ts ≡ true) → cond b 0 (suc (set_number s ts)) < suc (length ts) → (b || has_set s ts) ≡ true
    go true ih l = refl
    go false ih l = ih (omega arith)

number_most : (s : List ℕ) (known : List (List ℕ)) → set_number s known ≤ length known
unfolding set_number
number_most s [] = omega arith
number_most s (t ∷ ts) = go (same_set t s) (number_most s ts)
  where
    go : (b : Bool) → set_number s ts ≤ length ts → cond b 0 (suc (set_number s ts)) ≤ suc (length ts)
    go true h = omega arith
    go false h = omega arith

number_new : (s : List ℕ) (known : List (List ℕ)) → length known ≤ set_number s known → has_set s known ≡ false
unfolding set_number has_set
number_new s [] h = refl
number_new s (t ∷ ts) h = go (same_set t s) (λ l. number_new s ts l) h
  where
    go : (b : Bool) → (length ts ≤ set_number s ts → has_set s ts ≡ false) → suc (length ts) ≤ cond b 0 (suc (set_number s ts)) → (b || has_set s ts) ≡ false
    go true ih l = absurd (omega arith)
    go false ih l = ih (omega arith)

module _ (s : List ℕ) (ss known : List (List ℕ)) where
  add_known : set_number s known < length known → add_sets known (s ∷ ss) ≡ add_sets known ss
  unfolding add_sets
  add_known h = rw (number_known s known h)

  add_new : length known ≤ set_number s known → add_sets known (s ∷ ss) ≡ add_sets (known ++ (s ∷ [])) ss
  unfolding add_sets
  add_new h = rw (number_new s known h)

pub adds_longer : (ss known : List (List ℕ)) → length known ≤ length (add_sets known ss)
unfolding add_sets
adds_longer [] known = omega arith
adds_longer (s ∷ ss) known = go (has_set s known) (λ k. adds_longer ss k)
  where
    go : (b : Bool) → ((k : List (List ℕ)) → length k ≤ length (add_sets k ss)) → length known ≤ length (add_sets (cond b known (known ++ (s ∷ []))) ss)
    go true ih = ih known
    go false ih = let a = length-append known (s ∷ []) in let b = ih (known ++ (s ∷ [])) in omega arith

-- ---- one offset more

module _ (file places : List ℕ) (count at : ℕ) where
  sets_snoc : count < length places → sets_at file (set places count at) (count + 1) ≡ sets_at file places count ++ (aggregate_set_at file at ∷ [])
  sets_snoc h = rw (add-one count, take-suc-set places count at h, map_snoc (aggregate_set_at file) (take count places) at)

  fit_more : SetsFit file places count → count < 128 → SetPassed file 256 at → SetsFit file (set places count at) (count + 1)
  fit_more h l f = record {
    long = length-set places count at ∙ h.long;
    few = omega arith;
    fit = λ k m. ⊎_elim
        (λ (e : k ≡ count). subst (SetPassed file 256) (sym (ap (λ (j : ℕ). get_or (set places count at) j 0) e ∙ get_or-set_same places count at 0 (omega (arith, h.long)))) f)
        (λ (lt : k < count). subst (SetPassed file 256) (sym (get_or-set_other places count k at 0 (λ q. omega arith))) (h.fit k lt))
        (eq-or-lt_of_le (let w : k ≤ count = omega arith in w));
  }

-- ---- the loop

-- the first i sets were gone over
pub record Adding (file : List ℕ) (at : ℕ) (places₀ : List ℕ) (known sets : ℕ) (places : List ℕ) (count here i : ℕ) : Type 0 where
  pub within : i ≤ sets
  pub size : sets ≡ byte file (at + 3)
  pub stands : here ≡ records_end (set_end file) i (at + 12)
  pub fit : SetsFit file places count
  pub from : add_sets (sets_at file places₀ known) (records_at (aggregate_set_at file) (set_end file) (byte file (at + 3)) (at + 12))
      ≡ add_sets (sets_at file places count) (records_at (aggregate_set_at file) (set_end file) (sets - i) here)

module _ (file : List ℕ) (at : ℕ) (places₀ : List ℕ) (known sets : ℕ) where
  abbrev all : List (List ℕ)
  all = add_sets (sets_at file places₀ known) (records_at (aggregate_set_at file) (set_end file) (byte file (at + 3)) (at + 12))

  pub adding_first : sets ≡ byte file (at + 3) → SetsFit file places₀ known → Adding file at places₀ known sets places₀ known (at + 12) 0
  unfolding records_end
  adding_first e h = record {
    within = omega arith;
    size = e;
    stands = refl;
    fit = h;
    from = let q : byte file (at + 3) ≡ sets - 0 = omega arith in ap (λ (n : ℕ). add_sets (sets_at file places₀ known) (records_at (aggregate_set_at file) (set_end file) n (at + 12))) q;
  }

  module _ (places : List ℕ) (count here i : ℕ) (h : Adding file at places₀ known sets places count here i) where
    abbrev rest : List (List ℕ)
    rest = records_at (aggregate_set_at file) (set_end file) (sets - (i + 1)) (set_end file here)

    counted : length (sets_at file places count) ≡ count
    counted = sets_length file places count (omega (arith, h.fit.long, h.fit.few))

    next_stands : set_end file here ≡ records_end (set_end file) (i + 1) (at + 12)
    next_stands = ap (set_end file) h.stands ∙ sym (end_more (set_end file) i (at + 12))

    module _ (lt : i < sets) where
      -- the set that stands next
      pub next_fits : AggregatePassed file 256 at → SetPassed file 256 here
      next_fits p = subst (SetPassed file 256) (sym h.stands) (p.sets i (omega (arith, h.size)))

      pub adding_known : set_number (aggregate_set_at file here) (sets_at file places count) ≢ count → Adding file at places₀ known sets places count (set_end file here) (i + 1)
      adding_known l = record {
        within = omega arith;
        size = h.size;
        stands = next_stands;
        fit = h.fit;
        from = h.from ∙ rw (records_left (set_end file) sets i here lt (aggregate_set_at file)) (add_known (aggregate_set_at file here) rest (sets_at file places count) (omega (arith, counted, number_most (aggregate_set_at file here) (sets_at file places count))));
      }

      added : set_number (aggregate_set_at file here) (sets_at file places count) ≡ count → all ≡ add_sets (sets_at file places count ++ (aggregate_set_at file here ∷ [])) rest
      added l = h.from ∙ rw (records_left (set_end file) sets i here lt (aggregate_set_at file)) (add_new (aggregate_set_at file here) rest (sets_at file places count) (omega (arith, counted)))

      pub adding_new : set_number (aggregate_set_at file here) (sets_at file places count) ≡ count → (count ≡ 128 → ⊥) → SetPassed file 256 here
          → Adding file at places₀ known sets (set places count here) (count + 1) (set_end file here) (i + 1)
      adding_new l ne f =
          let few : count < 128 = omega (arith, h.fit.few) in
          record {
            within = omega arith;
            size = h.size;
            stands = next_stands;
            fit = fit_more file places count here h.fit few f;
            from = added l ∙ rw (← (sets_snoc file places count here (omega (arith, h.fit.long))));
          }

      pub adding_over : set_number (aggregate_set_at file here) (sets_at file places count) ≡ count → count ≡ 128 → (full : ProgrammeFull) → Collected file all (Err full)
      adding_over l e full = record {
        held = λ k q. absurd (let z : ◌≡◌ {A = ℕ} 0 1 = cc in omega arith);
        over = λ f q. rw (added l) (let a = adds_longer rest (sets_at file places count ++ (aggregate_set_at file here ∷ [])) in let b = length-append
            (sets_at file places count) (aggregate_set_at file here ∷ []) in omega (arith, counted));
      }

    pub adding_done : sets ≤ i → Collected file all (Ok (record { at = places; count = count }))
    unfolding add_sets
    adding_done l =
        let e : all ≡ sets_at file places count = h.from ∙ rw (records_over (set_end file) sets i here l (aggregate_set_at file)) in
        record {
          held = λ x q. let w : record { at = places; count = count } ≡ x = cc in rw (← w) (sym e, h.fit);
          over = λ f q. absurd (let z : ◌≡◌ {A = ℕ} 0 1 = cc in omega arith);
        }
