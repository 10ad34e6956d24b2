-- The walk over a node's memberships: each gives the node's rows in one set. Assumes nothing.
use mathlib.Core.Path.{◌≡◌}
use Prim.Native.Nat.{ℕ, ◌-◌, ◌<◌, ◌≤◌}
use native.Mathlib.Omega.{arith}
use mathlib.Core.Bool.{cond}
use mathlib.Core.Logic.{inl, inr, ◌≢◌}
use Rattle.std.specs.Prelude.{Result, Ok, Err}
use mathlib.Core.List.{List, [], ◌∷◌, ◌++◌, map, append-nil}
use lib.ListN.{get_or}
use lib.Dec.{eqb}
use lib.Ieee.{Float, eq}
use borrow.Author.Tests.{eq-eqb, ne_eqb}
use Rattle.laws.specs.Linked.{Later, Linked}
use Rattle.laws.proofs.LinkedLaws.{Walk, walk, walk_end, first_most}
use Rattle.pywr.specs.declared.Sentinel.{Sentinel}
use Rattle.pywr.specs.Numbers.{zero64, high}
use Rattle.pywr.specs.Network.{Node}
use Rattle.pywr.specs.ExclusiveSets.{sets_with_node}
use Rattle.pywr.specs.Rows.{ColumnMap, column_map, lower_row}
use Rattle.pywr.specs.FixedRows.{lower_coefficient, exclusive_rows}
use Rattle.pywr.specs.Programme.{Row}
use Rattle.network_record.specs.declared.Counts.{Counts}
use Rattle.build_append.specs.LpBuilder.{RowsHeld}
use Rattle.build_append.specs.declared.Filled.{Filled}
use Rattle.build_exclusive_sets.specs.declared.ProgrammeFull.{ProgrammeFull}
use Rattle.build_exclusive_sets.specs.declared.Memberships.{Memberships}
use Rattle.build_exclusive_sets.specs.Sets.{sets_at, memberships_of}
use Rattle.build_exclusive_sets.proofs.MembershipLaws.{set_of, node_sets}
use Rattle.build_node_row.specs.Tables.{network_of, MembershipTables}
use Rattle.build_append.proofs.AddingRows.{Adding, Adds, adding_first, adding_more, adding_over, adding_done}

-- the loop's measure: what is left above the membership's number
abbrev pub above : ℕ → ℕ
above link = cond (eqb link 0) 0 (2049 - link)

above_falls : (link then : ℕ) → link ≢ 0 → link ≤ 2048 → Later (link - 1) then → above then < above link
above_falls link then ne h (inl z) = rw (eq-eqb then 0 z, ne_eqb link 0 ne) (omega arith)
above_falls link then ne h (inr g) =
    let ne' : then ≢ 0 = λ z. omega arith in
    rw (ne_eqb then 0 ne', ne_eqb link 0 ne) (omega arith)

module _ (s : Sentinel) (f : ColumnMap) (n : ℕ) (x : Node) where
  -- one set more
  set_more : (k : ℕ) (ks : List ℕ) → exclusive_rows s f n x (k ∷ ks) ≡ exclusive_rows s f n x (k ∷ []) ++ exclusive_rows s f n x ks
  unfolding exclusive_rows
  set_more k ks = rw (append-nil {A = Row} (cond (eq x.min zero64) [] (record { lower = zero64; upper = high s; elements = lower_row f n k (lower_coefficient x.min) } ∷ [])))

  -- the memberships from `link` on are left; `sets` are those of all the node's memberships
  pub record Walking (next sets words₀ : List ℕ) (numbers₀ : List Float) (f₀ : Filled) (words : List ℕ) (numbers : List Float) (filled : Filled) (link : ℕ) : Type 0 where
    pub memberships : List ℕ
    pub linked : Linked 2048 next link memberships
    pub adding : (rows : List Row) → RowsHeld rows words₀ numbers₀ f₀ → Adding (rows ++ exclusive_rows s f n x sets) (exclusive_rows s f n x (map set_of memberships)) words₀ words numbers filled

  module _ (next sets words₀ : List ℕ) (numbers₀ : List Float) (f₀ : Filled) (words : List ℕ) (numbers : List Float) (filled : Filled) (link : ℕ)
      (w : Walking next sets words₀ numbers₀ f₀ words numbers filled link) where
    pub walked : link ≡ 0 → Adds (exclusive_rows s f n x sets) words₀ numbers₀ f₀ (Ok filled) words numbers
    unfolding exclusive_rows
    walked z rows h =
        let none : w.memberships ≡ [] = walk_end 2048 next link w.memberships w.linked z in
        adding_done _ _ words₀ words numbers filled (w.adding rows h) (rw none)

    module _ (ne : link ≢ 0) where
      step : Walk 2048 next link w.memberships
      step = walk 2048 next link w.memberships w.linked ne

      pub membership_under : link - 1 < 2048
      membership_under = step.under

      pub membership_falls : (then : ℕ) → then ≡ get_or next (link - 1) 0 → above then < above link
      membership_falls then q = rw q (above_falls link (get_or next (link - 1) 0) ne (first_most 2048 next link w.memberships w.linked) step.later)

      here : (rows : List Row) → RowsHeld rows words₀ numbers₀ f₀
          → Adding (rows ++ exclusive_rows s f n x sets) (exclusive_rows s f n x (set_of (link - 1) ∷ []) ++ exclusive_rows s f n x (map set_of step.rest)) words₀ words numbers filled
      here rows h = rw (step.is, set_more (set_of (link - 1)) (map set_of step.rest)) at (w.adding rows h)

      module _ (r : Result Filled ProgrammeFull) (words' : List ℕ) (numbers' : List Float) (added : Adds (exclusive_rows s f n x (set_of (link - 1) ∷ [])) words numbers filled r words' numbers') where
        pub walk_over : (full : ProgrammeFull) → r ≡ Err full → Adds (exclusive_rows s f n x sets) words₀ numbers₀ f₀ (Err full) words' numbers'
        walk_over full e rows h = adding_over _ _ _ words₀ words numbers filled (here rows h) r words' numbers' added full e

        pub walk_next : (g : Filled) (then : ℕ) → r ≡ Ok g → then ≡ get_or next (link - 1) 0 → Walking next sets words₀ numbers₀ f₀ words' numbers' g then
        walk_next g then e q = record {
          memberships = step.rest;
          linked = rw q step.linked;
          adding = λ rows h. adding_more _ _ _ words₀ words numbers filled (here rows h) r words' numbers' added g e;
        }

-- the walk starts at the node's first membership
module _ (s : Sentinel) (n : ℕ) (x : Node) (file : List ℕ) (c : Counts) (memberships : Memberships) (k link : ℕ) (words : List ℕ) (numbers : List Float) (filled : Filled)
    (t : MembershipTables file c memberships) (e : k ≡ n) (under : n < 256) (el : link ≡ get_or memberships.first k 0) where
  sets_are : map set_of (memberships_of n 0 (sets_at file t.aggregate_set_at t.sets)) ≡ sets_with_node n 0 (column_map (network_of file c)).sets
  unfolding column_map
  sets_are = node_sets file t.aggregate_set_at t.sets t.tables.fit (network_of file c) t.tables.held n

  pub walk_first : Walking s (column_map (network_of file c)) n x memberships.next (sets_with_node n 0 (column_map (network_of file c)).sets) words numbers filled words numbers filled link
  walk_first = record {
    memberships = memberships_of n 0 (sets_at file t.aggregate_set_at t.sets);
    linked = rw (el, e) (t.tables.listed n under);
    adding = λ rows h. rw sets_are (adding_first rows _ words numbers filled h);
  }
