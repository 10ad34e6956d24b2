-- The loop over the aggregates: a plain one, an exclusive one, and sets over the ceiling. Assumes nothing.
use Prim.Native.Nat.{ℕ, ◌+◌, ◌-◌, ◌*◌, ◌<◌, ◌≤◌}
use Rattle.std.specs.Prelude.{Result, Ok, Err}
use mathlib.Core.Path.{◌≡◌, refl, sym, ap, ◌∙◌, subst}
use mathlib.Core.List.{List, [], ◌∷◌}
use mathlib.Core.Bool.{Bool, true, false, cond}
use native.Mathlib.Omega.{arith}
use native.Mathlib.Nat.{sub-zero}
use lib.ListN.{length}
use Rattle.pywr.specs.Network.{Aggregate}
use Rattle.pywr.specs.ExclusiveSets.{add_sets, sets_from, exclusive_sets}
use Rattle.fields.specs.Records.{records_at, records_end}
use Rattle.fields.proofs.RecordLaws.{end_more, records_left, records_over}
use Rattle.network_aggregate.specs.AggregatedNode.{aggregate_at, aggregate_end}
use Rattle.network_laws.specs.NetworkAt.{network_at}
use Rattle.network_laws.specs.Passed.{AggregatePassed}
use Rattle.build_exclusive_sets.specs.Sets.{SetsFit, sets_at, Collected}
use Rattle.build_exclusive_sets.specs.declared.ExclusiveSets.{ExclusiveSets}
use Rattle.build_exclusive_sets.specs.declared.ProgrammeFull.{ProgrammeFull}
use Rattle.build_exclusive_sets.proofs.AddSets.{adds_longer}

froms_longer : (ags : List Aggregate) (known : List (List ℕ)) → length known ≤ length (sets_from known ags)
unfolding sets_from
froms_longer [] known = omega arith
froms_longer (a ∷ ags) known = go a.exclusive (λ k. froms_longer ags k)
  where
    go : (b : Bool) → ((k : List (List ℕ)) → length k ≤ length (sets_from k ags)) → length known ≤ length (sets_from (cond b (add_sets known a.sets) known) ags)
    go true ih = let l = ih (add_sets known a.sets) in let m = adds_longer a.sets known in omega arith
    go false ih = ih known

-- the first i of `count` aggregates, which stand from `start`, were gone over
pub record Collecting (file : List ℕ) (start count : ℕ) (places : List ℕ) (known at i : ℕ) : Type 0 where
  pub within : i ≤ count
  pub stands : at ≡ records_end (aggregate_end file) i start
  pub fit : SetsFit file places known
  pub from : sets_from [] (records_at (aggregate_at file) (aggregate_end file) count start)
      ≡ sets_from (sets_at file places known) (records_at (aggregate_at file) (aggregate_end file) (count - i) at)

module _ (file : List ℕ) (start count : ℕ) where
  abbrev all : List (List ℕ)
  all = sets_from [] (records_at (aggregate_at file) (aggregate_end file) count start)

  pub collecting_first : (places : List ℕ) → length places ≡ 128 → Collecting file start count places 0 start 0
  unfolding records_end
  collecting_first places l = record {
    within = omega arith;
    stands = refl;
    fit = record { long = l; few = omega arith; fit = λ k m. absurd (omega arith) };
    from = rw (sub-zero count);
  }

  module _ (places : List ℕ) (known at i : ℕ) (h : Collecting file start count places known at i) where
    abbrev rest : List Aggregate
    rest = records_at (aggregate_at file) (aggregate_end file) (count - (i + 1)) (aggregate_end file at)

    abbrev added : List (List ℕ)
    added = add_sets (sets_at file places known) (aggregate_at file at).sets

    next_stands : aggregate_end file at ≡ records_end (aggregate_end file) (i + 1) start
    next_stands = ap (aggregate_end file) h.stands ∙ sym (end_more (aggregate_end file) i start)

    module _ (lt : i < count) where
      -- the aggregate that stands next
      pub next_passes : ((k : ℕ) → k < count → AggregatePassed file 256 (records_end (aggregate_end file) k start)) → AggregatePassed file 256 at
      next_passes p = subst (AggregatePassed file 256) (sym h.stands) (p i lt)

      pub collecting_plain : (aggregate_at file at).exclusive ≡ false → Collecting file start count places known (aggregate_end file at) (i + 1)
      unfolding sets_from
      collecting_plain q = record {
        within = omega arith;
        stands = next_stands;
        fit = h.fit;
        from = h.from ∙ rw (records_left (aggregate_end file) count i at lt (aggregate_at file), q);
      }

      exclusive : (aggregate_at file at).exclusive ≡ true → all ≡ sets_from added rest
      unfolding sets_from
      exclusive q = h.from ∙ rw (records_left (aggregate_end file) count i at lt (aggregate_at file), q)

      module _ (q : (aggregate_at file at).exclusive ≡ true) (r : Result ExclusiveSets ProgrammeFull) (c : Collected file added r) where
        pub collecting_more : (x : ExclusiveSets) → r ≡ Ok x → Collecting file start count x.at x.count (aggregate_end file at) (i + 1)
        collecting_more x w =
            let g = c.held x w in
            record {
              within = omega arith;
              stands = next_stands;
              fit = g.1;
              from = exclusive q ∙ rw (← g.0);
            }

        pub collecting_over : (full : ProgrammeFull) → r ≡ Err full → Collected file all (Err full)
        collecting_over full w = record {
          held = λ k z. absurd (let y : ◌≡◌ {A = ℕ} 0 1 = cc in omega arith);
          over = λ f z. rw (exclusive q) (let l = c.over full w in let m = froms_longer rest added in omega arith);
        }

    pub collecting_done : count ≤ i → Collected file all (Ok (record { at = places; count = known }))
    unfolding sets_from
    collecting_done l =
        let w : all ≡ sets_at file places known = h.from ∙ rw (records_over (aggregate_end file) count i at l (aggregate_at file)) in
        record {
          held = λ x z. let y : record { at = places; count = known } ≡ x = cc in rw (← y) (sym w, h.fit);
          over = λ f z. absurd (let y : ◌≡◌ {A = ℕ} 0 1 = cc in omega arith);
        }

-- the aggregates of the whole file
pub of_network_lem : (file : List ℕ) (n e a v : ℕ) (r : Result ExclusiveSets ProgrammeFull)
    → Collected file (sets_from [] (records_at (aggregate_at file) (aggregate_end file) a (20 * n + 6 * e))) r → Collected file (exclusive_sets (network_at file n e a v)) r
unfolding exclusive_sets network_at
of_network_lem file n e a v r c = c
