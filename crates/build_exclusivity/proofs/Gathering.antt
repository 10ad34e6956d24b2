-- The loop over the sets of an aggregate: what is left of its row. Assumes nothing.
use mathlib.Core.Path.{◌≡◌, refl, sym, ap, ◌∙◌}
use Prim.Native.Nat.{ℕ, ◌+◌, ◌-◌, ◌<◌, ◌≤◌}
use native.Mathlib.Omega.{arith}
use mathlib.Core.List.{List, []}
use lib.ListN.{length}
use lib.Ieee.{Float}
use Rattle.pywr.specs.Bytes.{byte}
use Rattle.pywr.specs.Numbers.{one64}
use Rattle.pywr.specs.Misshapen.{columns_rise}
use Rattle.pywr.specs.Store.{elements_of}
use Rattle.pywr.specs.ExclusiveSets.{set_number}
use Rattle.pywr.specs.Rows.{ColumnMap, add_element, add_active, exclusivity_row}
use Rattle.fields.specs.Records.{records_at, records_end}
use Rattle.fields.proofs.RecordLaws.{end_more, records_left, records_over}
use Rattle.network_aggregate.specs.AggregatedNode.{aggregate_set_at, set_end, aggregate_at}
use Rattle.build_exclusive_sets.specs.Sets.{sets_at}
use Rattle.build_row.specs.RowBuilder.{gathered, Rising, ElementAdded}
use Rattle.build_exclusivity.specs.ExclusivityRow.{KnownSets, MapOf, ExclusivityRow}

-- the first i of an aggregate's sets were added, and the next one stands at `here`
pub record Gathering (file places : List ℕ) (count edge_columns at sets : ℕ) (columns : List ℕ) (elements : List Float) (n here i : ℕ) : Type 0 where
  pub within : i ≤ sets
  pub size : sets ≡ byte file (at + 3)
  pub stands : here ≡ records_end (set_end file) i (at + 12)
  pub row : (map : ColumnMap) → MapOf file places count edge_columns map
      → exclusivity_row map (aggregate_at file at) ≡ add_active map (records_at (aggregate_set_at file) (set_end file) (sets - i) here) (gathered columns elements n)
  pub rising : Rising columns n
  pub few : n ≤ 640

module _ (file places : List ℕ) (count edge_columns at sets : ℕ) where
  pub gathering_first : sets ≡ byte file (at + 3) → (columns : List ℕ) (elements : List Float) → Gathering file places count edge_columns at sets columns elements 0 (at + 12) 0
  unfolding records_end exclusivity_row gathered elements_of columns_rise
  gathering_first e columns elements =
      let q : byte file (at + 3) ≡ sets - 0 = omega arith in
      record {
        within = omega arith;
        size = e;
        stands = refl;
        row = λ map m. ap (λ (j : ℕ). add_active map (records_at (aggregate_set_at file) (set_end file) j (at + 12)) []) q;
        rising = refl;
        few = omega arith;
      }

  module _ (columns : List ℕ) (elements : List Float) (n here i : ℕ) (h : Gathering file places count edge_columns at sets columns elements n here i) where
    module _ (lt : i < sets) where
      pub next_known : KnownSets file places count at → (set_end file here ≤ length file) × (set_number (aggregate_set_at file here) (sets_at file places count) < count)
      next_known k = let l : i < byte file (at + 3) = omega (arith, h.size) in rw h.stands (k.within i l, k.numbered i l)

      pub gathering_next : (k c : ℕ) (x : Float) (columns' : List ℕ) (elements' : List Float) (r : ℕ) → k ≡ set_number (aggregate_set_at file here) (sets_at file places count) → c ≡ edge_columns + k → x ≡ one64
          → ElementAdded columns elements n c x columns' elements' r
          → Gathering file places count edge_columns at sets columns' elements' r (set_end file here) (i + 1)
      unfolding add_active
      gathering_next k c x columns' elements' r ek ec ex a =
          let rest = records_at (aggregate_set_at file) (set_end file) (sets - (i + 1)) (set_end file here) in
          let same : add_element (edge_columns + set_number (aggregate_set_at file here) (sets_at file places count)) one64 (gathered columns elements n) ≡ gathered columns' elements' r =
          sym (a.row ∙ rw (ex, ec, ek)) in
          record {
            within = omega arith;
            size = h.size;
            stands = ap (set_end file) h.stands ∙ sym (end_more (set_end file) i (at + 12));
            row = λ map m.
                h.row map m
                ∙ ap (λ (l : List (List ℕ)). add_active map l (gathered columns elements n)) (records_left (set_end file) sets i here lt (aggregate_set_at file))
                ∙ ap (add_active map rest) (rw (m.edges, m.sets) same);
            rising = a.rising;
            few = a.few;
          }

    pub gathering_done : sets ≤ i → ExclusivityRow file places count edge_columns at columns elements n
    unfolding add_active
    gathering_done l =
        record {
          row = λ map m. sym (h.row map m ∙ ap (λ (l : List (List ℕ)). add_active map l (gathered columns elements n)) (records_over (set_end file) sets i here l (aggregate_set_at file)));
          rising = h.rising;
          few = h.few;
        }
