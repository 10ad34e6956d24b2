-- The rows that two column maps make, where the edges of the one are those of the other with new columns and in another order: row for row alike. Assumes nothing.
use mathlib.Core.Path.{◌≡◌, refl, sym, ap, ap₂, ◌∙◌, subst, subst₂}
use Prim.Native.Nat.{ℕ, ◌+◌}
use mathlib.Core.Bool.{Bool, true, false, cond}
use mathlib.Core.List.{List, [], ◌∷◌, map, Permᴰ}
use lib.Dec.{eqb}
use lib.Ieee.{Float, neg}
use Rattle.pywr.specs.Numbers.{one64}
use Rattle.pywr.specs.Network.{output, storage, Aggregate, Part, VirtualStorage, kind_of, keep_if}
use Rattle.pywr.specs.ColEdgeMap.{MappedEdge}
use Rattle.pywr.specs.ExclusiveSets.{set_number}
use Rattle.pywr.specs.Rows.{Element, add_element, add_on, ColumnMap, columns_with, columns_into, columns_out_of, add_node, node_row, mass_row}
use Rattle.pywr.specs.Rows.{add_nodes, add_sets_of, aggregate_row, add_parts, virtual_storage_row, upper_row, lower_row, add_active, exclusivity_row}
use Rattle.theorem_file_order.proofs.Lookup.{Rises, rises_add, either_order}
use Rattle.theorem_file_order.proofs.Renumbering.{Renumbering, Alike, none_alike, add_alike}

-- ---- the edges with one end at a node, one after another

module _ (end : MappedEdge → ℕ) (n : ℕ) (x : Float) where
  add_edge : MappedEdge → List Element → List Element
  add_edge e row = cond (eqb (end e) n) (add_element e.column x row) row

  add_edges : List MappedEdge → List Element → List Element
  add_edges [] row = row
  add_edges (e ∷ es) row = add_edges es (add_edge e row)

  on_keep : (b : Bool) (c : ℕ) (cs : List ℕ) (row : List Element) → add_on (keep_if b c cs) x row ≡ add_on cs x (cond b (add_element c x row) row)
  unfolding add_on keep_if
  on_keep true c cs row = refl
  on_keep false c cs row = refl

  edges_on : (es : List MappedEdge) (row : List Element) → add_on (columns_with end n es) x row ≡ add_edges es row
  unfolding add_on columns_with add_edges add_edge
  edges_on [] row = refl
  edges_on (e ∷ es) row = on_keep (eqb (end e) n) e.column (columns_with end n es) row ∙ edges_on es (add_edge e row)

  edge_rises : (e : MappedEdge) (row : List Element) → Rises row → Rises (add_edge e row)
  unfolding add_edge
  edge_rises e row h = go (eqb (end e) n)
    where
      go : (b : Bool) → Rises (cond b (add_element e.column x row) row)
      go true = rises_add e.column x row h
      go false = h

  two_edges : (d e : MappedEdge) (row : List Element) → Rises row → add_edge e (add_edge d row) ≡ add_edge d (add_edge e row)
  unfolding add_edge
  two_edges d e row h = go (eqb (end d) n) (eqb (end e) n)
    where
      go : (b c : Bool) → cond c (add_element e.column x (cond b (add_element d.column x row) row)) (cond b (add_element d.column x row) row)
          ≡ cond b (add_element d.column x (cond c (add_element e.column x row) row)) (cond c (add_element e.column x row) row)
      go true true = either_order e.column d.column x row h
      go true false = refl
      go false true = refl
      go false false = refl

  -- their order does not matter
  any_order : {es fs : List MappedEdge} → Permᴰ es fs → (row : List Element) → Rises row → add_edges es row ≡ add_edges fs row
  unfolding add_edges
  any_order Permᴰ.nil row h = refl
  any_order (Permᴰ.cons {a = d} {l₂ = l} e p) row h = any_order p (add_edge d row) (edge_rises d row h) ∙ ap (λ (b : MappedEdge). add_edges l (add_edge b row)) e
  any_order (Permᴰ.swap {a = a} {b = b} {l = l} e f) row h =
      ap (add_edges l) (two_edges a b row h) ∙ ap₂ (λ (c d : MappedEdge). add_edges l (add_edge d (add_edge c row))) f e
  any_order (Permᴰ.trans p q) row h = any_order p row h ∙ any_order q row h

-- ---- rows alike

-- the edge with the new number of its column
unfoldable pub renumbered : Renumbering → MappedEdge → MappedEdge
renumbered new e = record { from = e.from; to = e.to; column = new.to e.column }

-- the same nodes, sets and count of columns, and other edges
unfoldable pub with_edges : ColumnMap → List MappedEdge → ColumnMap
with_edges f es = record { nodes = f.nodes; mapped_edges = es; edge_columns = f.edge_columns; sets = f.sets }

-- the edges have the new numbers and any order, and the sets' columns keep theirs
pub record MovedEdges (new : Renumbering) (f : ColumnMap) (es : List MappedEdge) : Type 0 where
  pub order : Permᴰ (map (renumbered new) f.mapped_edges) es
  pub stay : (k : ℕ) → new.to (f.edge_columns + k) ≡ f.edge_columns + k

module _ {new : Renumbering} {f : ColumnMap} {es : List MappedEdge} (moved : MovedEdges new f es) where
  abbrev g : ColumnMap
  g = with_edges f es

  -- the edges at one side of a node
  module _ (end : MappedEdge → ℕ) (same : (e : MappedEdge) → end (renumbered new e) ≡ end e) (n : ℕ) (x : Float) where
    edge_alike : (e : MappedEdge) {r s : List Element} → Alike new r s → Alike new (add_edge end n x e r) (add_edge end n x (renumbered new e) s)
    unfolding add_edge renumbered
    edge_alike e {r} {s} h = rw (same e) (go (eqb (end e) n))
      where
        go : (b : Bool) → Alike new (cond b (add_element e.column x r) r) (cond b (add_element (new.to e.column) x s) s)
        go true = add_alike e.column x h
        go false = h

    edges_alike : (ds : List MappedEdge) {r s : List Element} → Alike new r s → Alike new (add_edges end n x ds r) (add_edges end n x (map (renumbered new) ds) s)
    unfolding add_edges
    edges_alike [] h = h
    edges_alike (d ∷ ds) h = edges_alike ds (edge_alike d h)

    side_alike : {r s : List Element} → Alike new r s → Alike new (add_on (columns_with end n f.mapped_edges) x r) (add_on (columns_with end n es) x s)
    side_alike {r} {s} h =
        subst₂ (Alike new) (sym (edges_on end n x f.mapped_edges r)) (any_order end n x moved.order s h.second ∙ sym (edges_on end n x es s))
        (edges_alike f.mapped_edges h)

  into_alike : (n : ℕ) (x : Float) {r s : List Element} → Alike new r s → Alike new (add_on (columns_into n f.mapped_edges) x r) (add_on (columns_into n es) x s)
  unfolding columns_into renumbered
  into_alike n x h = side_alike (λ e. e.to) (λ e. refl) n x h

  out_alike : (n : ℕ) (x : Float) {r s : List Element} → Alike new r s → Alike new (add_on (columns_out_of n f.mapped_edges) x r) (add_on (columns_out_of n es) x s)
  unfolding columns_out_of renumbered
  out_alike n x h = side_alike (λ e. e.from) (λ e. refl) n x h

  node_alike : (n : ℕ) (x : Float) {r s : List Element} → Alike new r s → Alike new (add_node f n x r) (add_node g n x s)
  unfolding add_node with_edges
  node_alike n x {r} {s} h = go (eqb (kind_of f.nodes n) output) (eqb (kind_of f.nodes n) storage)
    where
      go : (b c : Bool) → Alike new
          (cond b (add_on (columns_into n f.mapped_edges) x r)
          (cond c (add_on (columns_out_of n f.mapped_edges) (neg x) (add_on (columns_into n f.mapped_edges) x r)) (add_on (columns_out_of n f.mapped_edges) x r)))
          (cond b (add_on (columns_into n es) x s) (cond c (add_on (columns_out_of n es) (neg x) (add_on (columns_into n es) x s)) (add_on (columns_out_of n es) x s)))
      go true c = into_alike n x h
      go false true = out_alike n (neg x) (into_alike n x h)
      go false false = out_alike n x h

  -- a set's column keeps its number
  set_alike : (k : ℕ) (x : Float) {r s : List Element} → Alike new r s → Alike new (add_element (f.edge_columns + k) x r) (add_element (f.edge_columns + k) x s)
  set_alike k x {r} {s} h =
      subst (λ (c : ℕ). Alike new (add_element (f.edge_columns + k) x r) (add_element c x s)) (moved.stay k) (add_alike (f.edge_columns + k) x h)

  -- ---- each kind of row

  pub node_row_alike : (n : ℕ) → Alike new (node_row f n) (node_row g n)
  unfolding node_row
  node_row_alike n = node_alike n one64 none_alike

  pub mass_row_alike : (n : ℕ) → Alike new (mass_row f n) (mass_row g n)
  unfolding mass_row with_edges
  mass_row_alike n = out_alike n (neg one64) (into_alike n one64 none_alike)

  nodes_alike : (ns : List ℕ) {r s : List Element} → Alike new r s → Alike new (add_nodes f ns r) (add_nodes g ns s)
  unfolding add_nodes
  nodes_alike [] h = h
  nodes_alike (n ∷ ns) h = nodes_alike ns (node_alike n one64 h)

  sets_alike : (sets : List (List ℕ)) {r s : List Element} → Alike new r s → Alike new (add_sets_of f sets r) (add_sets_of g sets s)
  unfolding add_sets_of
  sets_alike [] h = h
  sets_alike (set ∷ sets) h = sets_alike sets (nodes_alike set h)

  pub aggregate_row_alike : (a : Aggregate) → Alike new (aggregate_row f a) (aggregate_row g a)
  unfolding aggregate_row
  aggregate_row_alike a = sets_alike a.sets none_alike

  parts_alike : (ps : List Part) {r s : List Element} → Alike new r s → Alike new (add_parts f ps r) (add_parts g ps s)
  unfolding add_parts
  parts_alike [] h = h
  parts_alike (p ∷ ps) h = parts_alike ps (node_alike p.node (neg p.factor) h)

  pub virtual_storage_row_alike : (v : VirtualStorage) → Alike new (virtual_storage_row f v) (virtual_storage_row g v)
  unfolding virtual_storage_row
  virtual_storage_row_alike v = parts_alike v.parts none_alike

  pub upper_row_alike : (n k : ℕ) (x : Float) → Alike new (upper_row f n k x) (upper_row g n k x)
  unfolding upper_row with_edges
  upper_row_alike n k x = set_alike k x (node_alike n (neg one64) none_alike)

  pub lower_row_alike : (n k : ℕ) (x : Float) → Alike new (lower_row f n k x) (lower_row g n k x)
  unfolding lower_row with_edges
  lower_row_alike n k x = set_alike k x (node_alike n one64 none_alike)

  active_alike : (sets : List (List ℕ)) {r s : List Element} → Alike new r s → Alike new (add_active f sets r) (add_active g sets s)
  unfolding add_active with_edges
  active_alike [] h = h
  active_alike (set ∷ sets) h = active_alike sets (set_alike (set_number set f.sets) one64 h)

  pub exclusivity_row_alike : (a : Aggregate) → Alike new (exclusivity_row f a) (exclusivity_row g a)
  unfolding exclusivity_row
  exclusivity_row_alike a = active_alike a.sets none_alike
