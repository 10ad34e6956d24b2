-- The varying rows of a network's programme, from the three passes over nodes, aggregates and virtual storages. Assumes nothing.
use mathlib.Core.Path.{◌≡◌, refl, sym, ◌∙◌, ap, subst}
use Prim.Native.Nat.{ℕ, ◌+◌, ◌*◌, ◌-◌, ◌≤◌}
use Rattle.std.specs.Prelude.{Result, Ok, Err}
use mathlib.Core.List.{List, [], map, map-append, flat_map}
use mathlib.Core.Bool.{false}
use native.Mathlib.Omega.{arith}
use lib.ListN.{length, take, drop, length-drop, length-map}
use lib.Seq.{take-add, drop_at, length-take-le, take-take, drop-drop}
use lib.Ieee.{Float}
use Rattle.layout.specs.Layout.{aggregates_at, aggregates_made_at, node_row_ceiling, node_rows_made_at, shape_made_at, virtual_storages_at, virtual_storages_made_at, words_length}
use Rattle.laws.specs.Part.{part}
use Rattle.pywr.specs.declared.Sentinel.{Sentinel}
use Rattle.pywr.specs.Network.{Network}
use Rattle.pywr.specs.Rows.{Element, column_map, aggregate_row, virtual_storage_row}
use Rattle.pywr.specs.VariableRows.{add_variable_rows}
use Rattle.pywr.specs.VaryingRows.{RowRequest, requests_from, fresh_row}
use Rattle.pywr.specs.Build.{requested_row, placed_virtual_storages, assemble, programme_of}
use Rattle.pywr.specs.Written.{virtual_storage_words}
use Rattle.build_append.specs.declared.Filled.{Filled}
use Rattle.build_exclusive_sets.specs.declared.ProgrammeFull.{ProgrammeFull}
use Rattle.build_append.specs.LpBuilder.{within_ceilings}
use Rattle.build_append.proofs.RowsHeldLaws.{over_more}
use Rattle.pywr.specs.ExclusiveSets.{exclusive_sets}
use Rattle.pywr.proofs.CountLaws.{requests_few}
use Rattle.pywr.proofs.ReadLaws.{read_sound}
use Rattle.build_exclusive_sets.specs.Sets.{sets_at}
use Rattle.network_record.specs.declared.Counts.{Counts}
use Rattle.build_node_row.specs.declared.EdgeTables.{EdgeTables}
use Rattle.build_node_row.specs.Tables.{network_of, TablesOf, MembershipTables}
use Rattle.build_join.specs.JoinedRows.{joined, HoldingVarying, AfterVariableRows}
use Rattle.build_join.proofs.JoinedLaws.{longer}
use Rattle.build_node_table.specs.NodeTable.{NodeRows}
use Rattle.build_exclusive_sets.specs.declared.Memberships.{Memberships}
use Rattle.build_node_table.specs.NodeTable.{NodeRowsHeld}
use Rattle.build_varying.specs.VaryingLaid.{VaryingLaid, AfterVarying}

-- a part that lies inside a part that stayed
pub inside : {A : Type 0} (l l' : List A) (b m a n : ℕ) → b ≤ a → a + n ≤ b + m → a ≤ length l → a ≤ length l' → part b m l' ≡ part b m l → part a n l' ≡ part a n l
inside {A} l l' b m a n h k long long' e = of l' long' ∙ ap (λ (x : List A). take n (drop (a - b) x)) e ∙ sym (of l long)
  where
    of : (x : List A) → a ≤ length x → part a n x ≡ take n (drop (a - b) (part b m x))
    of x hx =
        let y : List A = drop b x in
        let r : ℕ = m - (a - b) in
        let em : m ≡ (a - b) + r = omega arith in
        let ly : a - b ≤ length y = omega (arith, length-drop b x) in
        let ab : b + (a - b) ≡ a = omega arith in
        let there : drop (a - b) (take m y) ≡ take r (drop (a - b) y) =
        ap (λ (j : ℕ). drop (a - b) (take j y)) em ∙ ap (drop (a - b)) (take-add (a - b) r y) ∙ drop_at (take (a - b) y) (take r (drop (a - b) y)) (a - b) (length-take-le (a - b) y ly) in
        sym (ap (take n) there ∙ take-take n r (drop (a - b) y) (omega arith) ∙ ap (take n) (drop-drop (a - b) b x) ∙ ap (λ (j : ℕ). take n (drop j x)) ab)

-- rows over the ceilings stay over them as more are asked for
over_joined : (s : Sentinel) (rows asked : List (List Element)) → within_ceilings (map (fresh_row s) rows) ≡ false → within_ceilings (map (fresh_row s) (joined asked rows).rows) ≡ false
over_joined s rows asked e =
    let l = longer asked (record { rows = rows; places = [] }) in
    ap (λ (x : List (List Element)). within_ceilings (map (fresh_row s) x)) l.is ∙ ap within_ceilings (map-append (fresh_row s) rows l.new) ∙ over_more (map
    (fresh_row s) rows) (map (fresh_row s) l.new) e

module _ (s : Sentinel) (net : Network) where
  abbrev pub asks : List RowRequest
  asks = requests_from (column_map net) 0 net.nodes

  abbrev pub rows₁ : List (List Element)
  rows₁ = (add_variable_rows (map requested_row asks) (record { rows = []; places = [] })).rows

  abbrev pub for_aggregates : List (List Element)
  for_aggregates = map (aggregate_row (column_map net)) net.aggregates

  abbrev pub rows₂ : List (List Element)
  rows₂ = (joined for_aggregates rows₁).rows

  abbrev pub for_virtual_storages : List (List Element)
  for_virtual_storages = map (virtual_storage_row (column_map net)) net.virtual_storages

  varying_is : (programme_of s net).programme.varying ≡ map (fresh_row s) (joined for_virtual_storages rows₂).rows
  unfolding programme_of assemble
  varying_is = refl

  -- each pass that is over the ceilings
  pub nodes_full : within_ceilings (map (fresh_row s) rows₁) ≡ false → within_ceilings (programme_of s net).programme.varying ≡ false
  nodes_full e = ap within_ceilings varying_is ∙ over_joined s rows₂ for_virtual_storages (over_joined s rows₁ for_aggregates e)

  pub aggregates_full : within_ceilings (map (fresh_row s) rows₂) ≡ false → within_ceilings (programme_of s net).programme.varying ≡ false
  aggregates_full e = ap within_ceilings varying_is ∙ over_joined s rows₂ for_virtual_storages e

  pub virtual_storages_full : within_ceilings (map (fresh_row s) (joined for_virtual_storages rows₂).rows) ≡ false → within_ceilings (programme_of s net).programme.varying ≡ false
  virtual_storages_full e = ap within_ceilings varying_is ∙ e

  -- an answer of one case is not the other
  pub full_only : (words : List ℕ) (numbers : List Float) → within_ceilings (programme_of s net).programme.varying ≡ false → (full : ProgrammeFull) → AfterVarying s net (Err full) words numbers
  full_only words numbers e full = record { done = λ n q. absurd (cc); full = λ full q. e }

  -- what each pass leaves for the next one
  pub nodes_holding : (n : NodeRows) (words : List ℕ) (numbers : List Float) → NodeRowsHeld s asks words numbers n → HoldingVarying s words numbers n.filled
  nodes_holding n words numbers h = record { rows = rows₁; held = h.held }

  module _ (size : ℕ) (words words₁ : List ℕ) (numbers₁ : List Float) (r : Result Filled ProgrammeFull) where
    pub aggregates_holding : AfterVariableRows s rows₁ for_aggregates aggregates_made_at size (λ places. places) words r words₁ numbers₁ → (g : Filled) → r ≡ Ok g → HoldingVarying s words₁ numbers₁ g
    aggregates_holding a g e = record { rows = rows₂; held = a.held g e }

  module _ (aggregates virtual_storages : ℕ) (ca : aggregates ≡ length net.aggregates) (cs : virtual_storages ≡ length net.virtual_storages) where
    pub all_laid : (n : NodeRows) (g f : Filled) (ra rv : Result Filled ProgrammeFull) (words₁ words₂ words₃ : List ℕ) (numbers₁ numbers₂ numbers₃ : List Float)
        → 4 * n.count ≤ 17408 → words_length ≤ length words₁ → words_length ≤ length words₂ → words_length ≤ length words₃ → aggregates ≤ 64
        → NodeRowsHeld s asks words₁ numbers₁ n
        → AfterVariableRows s rows₁ for_aggregates aggregates_made_at aggregates (λ places. places) words₁ ra words₂ numbers₂
        → ra ≡ Ok g
        → AfterVariableRows s rows₂ for_virtual_storages virtual_storages_made_at (6 * virtual_storages)
        (λ places. flat_map virtual_storage_words (placed_virtual_storages net.virtual_storages places)) words₂ rv words₃ numbers₃
        → rv ≡ Ok f
        → AfterVarying s net (Ok (record { filled = f; count = n.count })) words₃ numbers₃
    unfolding programme_of assemble
    all_laid n g f ra rv words₁ words₂ words₃ numbers₁ numbers₂ numbers₃ few l₁ l₂ l₃ fa h a ea v ev =
        let node-table : part node_rows_made_at (4 * n.count) words₃ ≡ part node_rows_made_at (4 * n.count) words₁ =
        inside words₂ words₃ shape_made_at virtual_storages_at node_rows_made_at (4 * n.count) (omega arith) (omega arith) (omega arith) (omega arith) v.kept
        ∙ inside words₁ words₂ shape_made_at aggregates_at node_rows_made_at (4 * n.count) (omega arith) (omega arith) (omega arith) (omega arith) a.kept in
        let aggregate-table : part aggregates_made_at aggregates words₃ ≡ part aggregates_made_at aggregates words₂ =
        inside words₂ words₃ shape_made_at virtual_storages_at aggregates_made_at aggregates (omega arith) (omega arith) (omega arith) (omega arith) v.kept in
        let laid : VaryingLaid s net (record { filled = f; count = n.count }) words₃ numbers₃ =
        record {
          held = v.held f ev;
          counted = h.counted;
          node_rows = node-table ∙ h.table;
          aggregates = ap (λ (k : ℕ). part aggregates_made_at k words₃) (sym ca) ∙ aggregate-table ∙ a.placed g ea;
          virtual_storages = ap (λ (k : ℕ). part virtual_storages_made_at (6 * k) words₃) (sym cs) ∙ v.placed f ev;
        } in
        record {
          done = λ m q. let e : record { filled = f; count = n.count } ≡ m = cc in subst (λ (x : NodeRows). VaryingLaid s net x words₃ numbers₃) e laid;
          full = λ full q. absurd (cc);
        }

-- at most 128 exclusive sets
pub sets_few : (file : List ℕ) (c : Counts) (memberships : Memberships) → MembershipTables file c memberships → length (exclusive_sets (network_of file c)) ≤ 128
sets_few file c memberships l =
    let long : length (sets_at file l.aggregate_set_at l.sets) ≡ length (take l.sets l.aggregate_set_at) = simp length-map in
    omega (arith, long, ap (λ (x : List (List ℕ)). length x) l.tables.held, length-take-le l.sets l.aggregate_set_at (omega (arith, l.tables.fit.long, l.tables.fit.few)), l.tables.fit.few)

-- the nodes of an accepted network ask for at most 4,352 rows
pub asks_few : (file : List ℕ) (c : Counts) (tables : EdgeTables) (memberships : Memberships)
    → TablesOf file c tables → MembershipTables file c memberships
    → length (requests_from (column_map (network_of file c)) 0 (network_of file c).nodes) ≤ node_row_ceiling
asks_few file c tables memberships t l =
    requests_few (network_of file c) (read_sound file (network_of file c) t.parsed).good (sets_few file c memberships l)
