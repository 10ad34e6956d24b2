-- The walk over a node's memberships: each asks for two rows, of the set numbered membership / 16. Assumes nothing.
use mathlib.Core.Path.{◌≡◌, refl, sym, ap, ◌∙◌}
use Prim.Native.Nat.{ℕ, ◌+◌, ◌-◌, ◌<◌, ◌≤◌}
use native.Mathlib.Omega.{arith}
use mathlib.Core.Bool.{cond}
use mathlib.Core.Logic.{inl, inr, ◌≢◌}
use Rattle.std.specs.Prelude.{Result, Ok, Err}
use mathlib.Core.List.{List, [], ◌∷◌, ◌++◌, map, append-nil, append_assoc}
use lib.ListN.{length, get_or, length-append}
use lib.Dec.{eqb}
use lib.Ieee.{Float}
use borrow.Author.Tests.{eq-eqb, ne_eqb}
use Rattle.layout.specs.Layout.{node_row_ceiling}
use Rattle.laws.specs.Linked.{Later, Linked}
use Rattle.laws.proofs.LinkedLaws.{Walk, walk, walk_end, first_most}
use Rattle.pywr.specs.declared.Sentinel.{Sentinel}
use Rattle.pywr.specs.Rows.{ColumnMap, column_map}
use Rattle.pywr.specs.VaryingRows.{RowRequest, exclusive_requests}
use Rattle.network_record.specs.declared.Counts.{Counts}
use Rattle.build_exclusive_sets.specs.Sets.{sets_at, memberships_of}
use Rattle.build_exclusive_sets.proofs.MembershipLaws.{set_of, node_sets}
use Rattle.build_node_row.specs.Tables.{network_of, MembershipTables}
use Rattle.build_node_table.specs.NodeTable.{NodeRowsHeld, AfterRequests, requests_before, listed_requests}
use Rattle.build_node_table.specs.NodeTable.{NodeRows}
use Rattle.build_exclusive_sets.specs.declared.Memberships.{Memberships}
use Rattle.build_exclusive_sets.specs.declared.ProgrammeFull.{ProgrammeFull}
use Rattle.build_node_table.proofs.Table.{requests_done, full_later}

-- the loop's measure: what is left above the membership's number
abbrev pub above : ℕ → ℕ
above link = cond (eqb link 0) 0 (2049 - link)

above_falls : (link then : ℕ) → link ≢ 0 → link ≤ 2048 → Later (link - 1) then → above then < above link
above_falls link then ne h (inl z) = rw (eq-eqb then 0 z, ne_eqb link 0 ne) (omega arith)
above_falls link then ne h (inr g) =
    let ne' : then ≢ 0 = λ z. omega arith in
    rw (ne_eqb then 0 ne', ne_eqb link 0 ne) (omega arith)

-- one set more
exclusive_more : (f : ColumnMap) (n k : ℕ) (ks : List ℕ) → exclusive_requests f n (k ∷ ks) ≡ exclusive_requests f n (k ∷ []) ++ exclusive_requests f n ks
unfolding exclusive_requests
exclusive_more f n k ks = refl

exclusive_two : (f : ColumnMap) (n k : ℕ) → length (exclusive_requests f n (k ∷ [])) ≡ 2
unfolding exclusive_requests
exclusive_two f n k = refl

module _ (f : ColumnMap) (n : ℕ) (next : List ℕ) (s : Sentinel) where
  -- what the node asks for, behind those before it
  abbrev whole : List RowRequest
  whole = requests_before f n ++ listed_requests f n

  -- the memberships from `link` on are left
  pub record Walking (words : List ℕ) (numbers : List Float) (r : NodeRows) (link : ℕ) : Type 0 where
    pub asks : List RowRequest
    pub memberships : List ℕ
    pub linked : Linked 2048 next link memberships
    pub rest : whole ≡ asks ++ exclusive_requests f n (map set_of memberships)
    pub rows : NodeRowsHeld s asks words numbers r

  module _ (words : List ℕ) (numbers : List Float) (r : NodeRows) (link : ℕ) (w : Walking words numbers r link) where
    pub walked : link ≡ 0 → AfterRequests s whole (Ok r) words numbers
    unfolding exclusive_requests
    walked z =
        let none : w.memberships ≡ [] = walk_end 2048 next link w.memberships w.linked z in
        let all : whole ≡ w.asks = w.rest ∙ ap (λ (js : List ℕ). w.asks ++ exclusive_requests f n (map set_of js)) none ∙ append-nil w.asks in
        requests_done s whole words numbers r (rw all w.rows)

    module _ (ne : link ≢ 0) where
      step : Walk 2048 next link w.memberships
      step = walk 2048 next link w.memberships w.linked ne

      pub membership_under : link - 1 < 2048
      membership_under = step.under

      pub membership_falls : (j : ℕ) → j ≡ link - 1 → above (get_or next j 0) < above link
      membership_falls j e = rw e (above_falls link (get_or next (link - 1) 0) ne (first_most 2048 next link w.memberships w.linked) step.later)

      abbrev two : List RowRequest
      two = exclusive_requests f n (set_of (link - 1) ∷ [])

      rest_is : whole ≡ (w.asks ++ two) ++ exclusive_requests f n (map set_of step.rest)
      rest_is =
          w.rest
          ∙ ap (λ (js : List ℕ). w.asks ++ exclusive_requests f n (map set_of js)) step.is
          ∙ ap (λ (l : List RowRequest). w.asks ++ l) (exclusive_more f n (set_of (link - 1)) (map set_of step.rest))
          ∙ sym (append_assoc w.asks two (exclusive_requests f n (map set_of step.rest)))

      -- there is room for two node rows
      pub room : length whole ≤ node_row_ceiling → r.count + 2 ≤ node_row_ceiling
      room h =
          omega (
            arith,
            ap (λ (l : List RowRequest). length l) rest_is,
            length-append (w.asks ++ two) (exclusive_requests f n (map set_of step.rest)),
            length-append w.asks two,
            exclusive_two f n (set_of (link - 1)),
            w.rows.counted,
          )

      module _ (v : Result NodeRows ProgrammeFull) (words' : List ℕ) (numbers' : List Float) (a : AfterRequests s (w.asks ++ two) v words' numbers') where
        pub walk_full : (full : ProgrammeFull) → v ≡ Err full → AfterRequests s whole (Err full) words' numbers'
        walk_full full e = rw rest_is (full_later s (w.asks ++ two) (exclusive_requests f n (map set_of step.rest)) v words' numbers' a full e)

        pub walk_next : (r' : NodeRows) (j : ℕ) → v ≡ Ok r' → j ≡ link - 1 → Walking words' numbers' r' (get_or next j 0)
        walk_next r' j e ej = record { asks = w.asks ++ two; memberships = step.rest; linked = rw ej step.linked; rest = rest_is; rows = a.done r' e }

-- the walk starts at the node's first membership
pub walk_first : (file : List ℕ) (c : Counts) (memberships : Memberships) (n k : ℕ) (s : Sentinel) (words : List ℕ) (numbers : List Float) (r : NodeRows)
    → MembershipTables file c memberships → k ≡ n → n < 256 → NodeRowsHeld s (requests_before (column_map (network_of file c)) n) words numbers r
    → Walking (column_map (network_of file c)) n memberships.next s words numbers r (get_or memberships.first k 0)
unfolding column_map
walk_first file c memberships n k s words numbers r t e under h =
    let f : ColumnMap = column_map (network_of file c) in
    let sets = node_sets file t.aggregate_set_at t.sets t.tables.fit (network_of file c) t.tables.held n in
    record {
      asks = requests_before f n;
      memberships = memberships_of n 0 (sets_at file t.aggregate_set_at t.sets);
      linked = rw e (t.tables.listed n under);
      rest = ap (λ (ks : List ℕ). requests_before f n ++ exclusive_requests f n ks) (sym sets);
      rows = h;
    }
