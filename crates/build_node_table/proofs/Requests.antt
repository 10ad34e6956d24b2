-- Rows asked for in turn, equal ones joined: one request more, requests behind others, and rows over the ceilings. Assumes nothing.
use mathlib.Core.Path.{◌≡◌, refl, sym, ap, ◌∙◌}
use Prim.Native.Nat.{ℕ, ◌+◌}
use native.Mathlib.Nat.{add-zero}
use native.Mathlib.Omega.{arith}
use mathlib.Core.Bool.{Bool, true, false, cond}
use mathlib.Core.List.{List, [], ◌∷◌, ◌++◌, map, map-append, append-nil, append_assoc}
use lib.ListN.{length, length-append, length-map}
use lib.Dec.{ltb}
use Rattle.pywr.specs.declared.Sentinel.{Sentinel}
use Rattle.pywr.specs.Rows.{Element}
use Rattle.pywr.specs.VariableRows.{Joined, position, add_variable_row, add_variable_rows}
use Rattle.pywr.specs.VaryingRows.{RowRequest, fresh_row}
use Rattle.pywr.specs.Programme.{NodeRow}
use Rattle.pywr.specs.Build.{requested_row, placed_node_rows}
use Rattle.build_append.specs.LpBuilder.{within_ceilings}
use Rattle.build_append.proofs.RowsHeldLaws.{over_more}
use Rattle.build_node_table.specs.NodeTable.{joined}

-- ---- requests behind others

add_append : (asked more : List (List Element)) (j : Joined) → add_variable_rows (asked ++ more) j ≡ add_variable_rows more (add_variable_rows asked j)
unfolding add_variable_rows
add_append [] more j = refl
add_append (r ∷ rs) more j = add_append rs more (add_variable_row r j)

joined_append : (asks more : List RowRequest) → joined (asks ++ more) ≡ add_variable_rows (map requested_row more) (joined asks)
joined_append asks more =
    ap (λ (l : List (List Element)). add_variable_rows l (record { rows = []; places = [] })) (map-append requested_row asks more)
    ∙ add_append (map requested_row asks) (map requested_row more) (record { rows = []; places = [] })

pub joined_more : (asks : List RowRequest) (a : RowRequest) → joined (asks ++ (a ∷ [])) ≡ add_variable_row a.row (joined asks)
unfolding add_variable_rows requested_row
joined_more asks a = joined_append asks (a ∷ [])

-- ---- each request has a place

places_count : (asked : List (List Element)) (j : Joined) → length (add_variable_rows asked j).places ≡ length j.places + length asked
unfolding add_variable_rows add_variable_row
places_count [] j = sym (add-zero (length j.places))
places_count (r ∷ rs) j =
    let n = length-append j.places (position r j.rows ∷ []) in
    let m = places_count rs (add_variable_row r j) in
    omega (arith, n, m)

pub joined_places : (asks : List RowRequest) → length (joined asks).places ≡ length asks
joined_places asks = places_count (map requested_row asks) (record { rows = []; places = [] }) ∙ omega (arith, length-map asks requested_row)

-- the node row of a request whose row is row p
abbrev pub placed_at : RowRequest → ℕ → NodeRow
placed_at a p = record { node = a.node; row = p; row_type = a.row_type; set = a.set }

pub placed_snoc : (asks : List RowRequest) (places : List ℕ) (a : RowRequest) (p : ℕ) → length places ≡ length asks
    → placed_node_rows (asks ++ (a ∷ [])) (places ++ (p ∷ [])) ≡ placed_node_rows asks places ++ (placed_at a p ∷ [])
unfolding placed_node_rows
placed_snoc [] [] a p e = refl
placed_snoc [] (q ∷ qs) a p e = absurd (omega arith)
placed_snoc (b ∷ bs) [] a p e = absurd (omega arith)
placed_snoc (b ∷ bs) (q ∷ qs) a p e = ap (λ (l : List NodeRow). placed_at b q ∷ l) (placed_snoc bs qs a p (omega arith))

-- ---- the ceilings

-- rows are only added, behind those that stand
record Longer (rows more : List (List Element)) : Type 0 where
  pub new : List (List Element)
  pub is : more ≡ rows ++ new

longer_or_same : (b : Bool) (rows : List (List Element)) (row : List Element) → Longer rows (cond b rows (rows ++ (row ∷ [])))
longer_or_same true rows row = record { new = []; is = sym (append-nil rows) }
longer_or_same false rows row = record { new = row ∷ []; is = refl }

longer : (asked : List (List Element)) (j : Joined) → Longer j.rows (add_variable_rows asked j).rows
unfolding add_variable_rows add_variable_row
longer [] j = record { new = []; is = sym (append-nil j.rows) }
longer (r ∷ rs) j =
    let one = longer_or_same (ltb (position r j.rows) (length j.rows)) j.rows r in
    let more = longer rs (add_variable_row r j) in
    record { new = one.new ++ more.new; is = more.is ∙ ap (λ (l : List (List Element)). l ++ more.new) one.is ∙ append_assoc j.rows one.new more.new }

-- rows that are over the ceilings stay over
pub over_later : (s : Sentinel) (asks more : List RowRequest) → within_ceilings (map (fresh_row s) (joined asks).rows) ≡ false
    → within_ceilings (map (fresh_row s) (joined (asks ++ more)).rows) ≡ false
over_later s asks more over =
    let l = longer (map requested_row more) (joined asks) in
    let is : (joined (asks ++ more)).rows ≡ (joined asks).rows ++ l.new = ap (λ (j : Joined). j.rows) (joined_append asks more) ∙ l.is in
    rw (is, map-append (fresh_row s) (joined asks).rows l.new) (over_more (map (fresh_row s) (joined asks).rows) (map (fresh_row s) l.new) over)
