-- A row's sum over its columns is the network's sum over its edges, where edges of a column carry equal amounts. Assumes nothing.
use mathlib.Core.Path.{◌≡◌, refl, sym, ap, ap₂, ◌∙◌}
use Prim.Native.Nat.{ℕ, suc, ◌+◌, ◌*◌, ◌/◌, ◌^◌, ◌<◌}
use native.Mathlib.Nat.{add-zero, add-suc, suc-add, zero-add, le_refl, one-mul, div-one, suc-mul, add-mul}
use native.Mathlib.Omega.{arith}
use mathlib.Core.Bool.{Bool, true, false, cond}
use mathlib.Core.List.{List, [], ◌∷◌}
use mathlib.Core.Option.{Option, some, get_or}
use lib.ListN.{length, get_elem?}
use lib.IntN.{ℤ, pos, neg_ℤ, ◌+ℤ◌, ◌-ℤ◌, ◌*ℤ◌, +ℤ_assoc, +ℤ_comm, *ℤ_comm, *ℤ-zero, +ℤ_idl, +ℤ_idr}
use lib.Dec.{eqb}
use lib.Ieee.{Float, neg}
use Rattle.doubles.specs.Units.{mag}
use Rattle.doubles.proofs.Integers.{mul-addℤ}
use Rattle.doubles.proofs.Sums.{one_grain}
use Rattle.pywr.specs.Numbers.{one64}
use Rattle.pywr.specs.Network.{output, storage, Edge, Aggregate, Part, VirtualStorage, Network, kind_of, keep_if, source, target}
use Rattle.pywr.specs.ColEdgeMap.{columns, MappedEdge, with_columns, mapped_edges}
use Rattle.pywr.specs.Rows.{Element, add_on, ColumnMap, column_map, columns_with, columns_into, columns_out_of, add_node}
use Rattle.pywr.specs.Rows.{node_row, mass_row, add_nodes, add_sets_of, aggregate_row, add_parts, virtual_storage_row}
use Rattle.pywr.specs.Plans.{exact, Plan, units_in_one, signed, times_one}
use Rattle.pywr.specs.Allows.{flow_with, inflow, outflow, node_amount, nodes_amount, sets_amount, parts_sum}
use Rattle.pywr.specs.Admits.{on_column, row_sum}
use Rattle.pywr.proofs.SumLaws.{Upto, AllUpto, weighed, row_weighed, on_columns, all_wider}
use Rattle.pywr.proofs.WeightLaws.{Factors, node_room, node_weight, parts_weight, node_upto, node_weighed, both_weighed, parts_weighed}

-- ---- 1.0

pub one_upto : Upto 0 1 one64
unfolding one64 mag
one_upto = record { grain = one_grain false; most = le_refl (1 * 2 ^ 1074) }

pub one_exact : exact one64 ≡ pos units_in_one
unfolding exact one64 signed
one_exact = ap pos (ap (λ (k : ℕ). k / 1) (one-mul units_in_one) ∙ div-one units_in_one)

-- ---- the columns of a node's edges carry the flow of those edges

with_end : (b : Bool) (weight : ℕ → ℕ) (c a : ℕ) (cs : List ℕ) → weight c ≡ a → on_columns weight (keep_if b c cs) ≡ cond b a 0 + on_columns weight cs
unfolding keep_if on_columns
with_end true weight c a cs e = ap (λ (n : ℕ). n + on_columns weight cs) e
with_end false weight c a cs e = sym (zero-add (on_columns weight cs))

module _ (f : ColumnMap) (plan : Plan) where
  pub flow_columns : (pe : MappedEdge → ℕ) (ee : Edge → ℕ) → ((x : Edge) (c : ℕ) → pe (record { from = x.from; to = x.to; column = c }) ≡ ee x)
      → (n : ℕ) (es : List Edge) (cs : List (Option ℕ)) (e : ℕ) → length es ≡ length cs
      → ((i : ℕ) (p : MappedEdge) → get_elem? (with_columns es cs) i ≡ some p → on_column f plan p.column ≡ plan.amount (e + i))
      → on_columns (on_column f plan) (columns_with pe n (with_columns es cs)) ≡ flow_with ee plan n e es
  unfolding with_columns columns_with flow_with on_columns
  flow_columns pe ee same n [] cs e l h = refl
  flow_columns pe ee same n (x ∷ xs) [] e l h = let z : suc (length xs) ≡ 0 = l in absurd (omega arith)
  flow_columns pe ee same n (x ∷ xs) (c ∷ cs) e l h =
      let k : ℕ = get_or c 0 in
      let p : MappedEdge = record { from = x.from; to = x.to; column = k } in
      let l' : length xs ≡ length cs = (let m : suc (length xs) ≡ suc (length cs) = l in omega arith) in
      let ih = flow_columns pe ee same n xs cs (suc e) l' (λ i q r. h (suc i) q r ∙ ap plan.amount (add-suc e i ∙ sym (suc-add e i))) in
      with_end (eqb (pe p) n) (on_column f plan) k (plan.amount e) (columns_with pe n (with_columns xs cs)) (h 0 p refl ∙ ap plan.amount (add-zero e))
      ∙ ap₂ (λ (t : Bool) (m : ℕ). cond t (plan.amount e) 0 + m) (ap (λ (m : ℕ). eqb m n) (same x k)) ih

-- how many nodes the sets list
unfoldable pub memberships : List (List ℕ) → ℕ
memberships [] = 0
memberships (s ∷ ss) = length s + memberships ss

-- each edge's column carries the edge's amount
abbrev pub Carries : Network → Plan → Type 0
Carries net plan = (i : ℕ) (p : MappedEdge) → get_elem? (mapped_edges net) i ≡ some p → on_column (column_map net) plan p.column ≡ plan.amount i

module _ (net : Network) (plan : Plan) (long : length net.edges ≡ length (columns net).of) (carries : Carries net plan) where
  abbrev f : ColumnMap
  f = column_map net

  into_flow : (n : ℕ) → on_columns (on_column f plan) (columns_into n (mapped_edges net)) ≡ inflow net plan n
  unfolding columns_into inflow mapped_edges
  into_flow n =
      flow_columns f plan (λ p. p.to) target (λ x c. refl) n net.edges (columns net).of 0 long (λ i p h. carries i p h ∙ ap plan.amount (sym (zero-add i)))

  out_flow : (n : ℕ) → on_columns (on_column f plan) (columns_out_of n (mapped_edges net)) ≡ outflow net plan n
  unfolding columns_out_of outflow mapped_edges
  out_flow n =
      flow_columns f plan (λ p. p.from) source (λ x c. refl) n net.edges (columns net).of 0 long (λ i p h. carries i p h ∙ ap plan.amount (sym (zero-add i)))

  -- a node's row is weighed by the node's amount
  node_weight_lem : (n : ℕ) → node_weight (on_column f plan) f n ≡ node_amount net plan n
  unfolding node_weight node_amount column_map
  node_weight_lem n =
      ap₂ (λ (i o : ℕ). cond (eqb (kind_of net.nodes n) output) (pos i) (cond (eqb (kind_of net.nodes n) storage) (pos i -ℤ pos o) (pos o))) (into_flow n) (out_flow n)

  module _ {g : ℕ} (n : ℕ) (x : Float) (m : ℕ) (u : Upto g m x) (b : ℕ) (row : List Element) (us : AllUpto g b row) (room : b + node_room net m < 2 ^ 53) where
    pub node_sum : row_sum f plan (add_node f n x row) ≡ exact x *ℤ node_amount net plan n +ℤ row_sum f plan row
    node_sum =
        row_weighed f plan (add_node f n x row)
        ∙ node_weighed net long n x m u b row us room (on_column f plan)
        ∙ ap₂ (λ (a r : ℤ). exact x *ℤ a +ℤ r) (node_weight_lem n) (sym (row_weighed f plan row))

    both_sum : row_sum f plan (add_on (columns_out_of n (mapped_edges net)) (neg x) (add_on (columns_into n (mapped_edges net)) x row))
        ≡ exact x *ℤ (pos (inflow net plan n) -ℤ pos (outflow net plan n)) +ℤ row_sum f plan row
    both_sum =
        row_weighed f plan (add_on (columns_out_of n (mapped_edges net)) (neg x) (add_on (columns_into n (mapped_edges net)) x row))
        ∙ both_weighed net long n x m u b row us room (on_column f plan)
        ∙ ap₂ (λ (a r : ℤ). exact x *ℤ a +ℤ r) (ap₂ (λ (i o : ℕ). pos i -ℤ pos o) (into_flow n) (out_flow n)) (sym (row_weighed f plan row))

  -- ---- lists of nodes, and of sets

  pub nodes_sum : (ns : List ℕ) (b : ℕ) (row : List Element) → AllUpto 0 b row → b + length ns * node_room net 1 < 2 ^ 53
      → row_sum f plan (add_nodes f ns row) ≡ pos units_in_one *ℤ nodes_amount net plan ns +ℤ row_sum f plan row
  unfolding add_nodes nodes_amount
  nodes_sum [] b row us h = sym (ap (λ (z : ℤ). z +ℤ row_sum f plan row) (*ℤ-zero (pos units_in_one)) ∙ +ℤ_idl (row_sum f plan row))
  nodes_sum (n ∷ ns) b row us h =
      let t : suc (length ns) * node_room net 1 ≡ length ns * node_room net 1 + node_room net 1 = suc-mul (length ns) (node_room net 1) in
      let r : ℤ = row_sum f plan row in
      let one = node_sum n one64 1 one_upto b row us (omega arith) in
      nodes_sum ns (b + node_room net 1) (add_node f n one64 row) (node_upto net long n one64 1 one_upto b row us (omega arith)) (omega arith)
      ∙ ap (λ (z : ℤ). pos units_in_one *ℤ nodes_amount net plan ns +ℤ z) (one ∙ ap (λ (z : ℤ). z *ℤ node_amount net plan n +ℤ r) one_exact)
      ∙ sym (+ℤ_assoc (pos units_in_one *ℤ nodes_amount net plan ns) (pos units_in_one *ℤ node_amount net plan n) r)
      ∙ ap (λ (z : ℤ). z +ℤ r)
      (+ℤ_comm (pos units_in_one *ℤ nodes_amount net plan ns) (pos units_in_one *ℤ node_amount net plan n) ∙ sym (mul-addℤ (pos units_in_one) (node_amount net plan n) (nodes_amount net plan ns)))

  pub nodes_upto : (ns : List ℕ) (b : ℕ) (row : List Element) → AllUpto 0 b row → b + length ns * node_room net 1 < 2 ^ 53 → AllUpto 0 (b + length ns * node_room net 1) (add_nodes f ns row)
  unfolding add_nodes
  nodes_upto [] b row us h = all_wider b (b + 0 * node_room net 1) row (omega arith) us
  nodes_upto (n ∷ ns) b row us h =
      let t : suc (length ns) * node_room net 1 ≡ length ns * node_room net 1 + node_room net 1 = suc-mul (length ns) (node_room net 1) in
      all_wider (b + node_room net 1 + length ns * node_room net 1) (b + suc (length ns) * node_room net 1) (add_nodes f ns (add_node f n one64 row)) (omega arith)
      (nodes_upto ns (b + node_room net 1) (add_node f n one64 row) (node_upto net long n one64 1 one_upto b row us (omega arith)) (omega arith))

  pub sets_sum : (ss : List (List ℕ)) (b : ℕ) (row : List Element) → AllUpto 0 b row → b + memberships ss * node_room net 1 < 2 ^ 53
      → row_sum f plan (add_sets_of f ss row) ≡ pos units_in_one *ℤ sets_amount net plan ss +ℤ row_sum f plan row
  unfolding add_sets_of sets_amount memberships
  sets_sum [] b row us h = sym (ap (λ (z : ℤ). z +ℤ row_sum f plan row) (*ℤ-zero (pos units_in_one)) ∙ +ℤ_idl (row_sum f plan row))
  sets_sum (s ∷ ss) b row us h =
      let k : ℕ = node_room net 1 in
      let t : (length s + memberships ss) * k ≡ length s * k + memberships ss * k = add-mul (length s) (memberships ss) k in
      let r : ℤ = row_sum f plan row in
      sets_sum ss (b + length s * k) (add_nodes f s row) (nodes_upto s b row us (omega arith)) (omega arith)
      ∙ ap (λ (z : ℤ). pos units_in_one *ℤ sets_amount net plan ss +ℤ z) (nodes_sum s b row us (omega arith))
      ∙ sym (+ℤ_assoc (pos units_in_one *ℤ sets_amount net plan ss) (pos units_in_one *ℤ nodes_amount net plan s) r)
      ∙ ap (λ (z : ℤ). z +ℤ r)
      (+ℤ_comm (pos units_in_one *ℤ sets_amount net plan ss) (pos units_in_one *ℤ nodes_amount net plan s) ∙ sym (mul-addℤ (pos units_in_one) (nodes_amount net plan s) (sets_amount net plan ss)))

  -- ---- a virtual storage's parts

  parts_weight_lem : (ps : List Part) → parts_weight (on_column f plan) f ps ≡ parts_sum net plan ps
  unfolding parts_weight parts_sum
  parts_weight_lem [] = refl
  parts_weight_lem (p ∷ ps) = ap₂ (λ (a r : ℤ). neg_ℤ (exact p.factor) *ℤ a +ℤ r) (node_weight_lem p.node) (parts_weight_lem ps)

  -- ---- the rows

  pub aggregate_sum : (a : Aggregate) → memberships a.sets * node_room net 1 < 2 ^ 53 → row_sum f plan (aggregate_row f a) ≡ times_one (sets_amount net plan a.sets)
  unfolding aggregate_row times_one row_sum
  aggregate_sum a h = sets_sum a.sets 0 [] AllUpto.none (omega arith) ∙ +ℤ_idr (pos units_in_one *ℤ sets_amount net plan a.sets) ∙ *ℤ_comm (pos units_in_one) (sets_amount net plan a.sets)

  pub virtual_storage_sum : {g : ℕ} (m : ℕ) (v : VirtualStorage) → Factors g m v.parts → length v.parts * node_room net m < 2 ^ 53
      → row_sum f plan (virtual_storage_row f v) ≡ parts_sum net plan v.parts
  unfolding virtual_storage_row weighed
  virtual_storage_sum m v fs h =
      row_weighed f plan (add_parts f v.parts [])
      ∙ parts_weighed net long (on_column f plan) m v.parts fs 0 [] AllUpto.none (omega arith)
      ∙ +ℤ_idr (parts_weight (on_column f plan) f v.parts)
      ∙ parts_weight_lem v.parts

  pub node_row_sum : (n : ℕ) → node_room net 1 < 2 ^ 53 → row_sum f plan (node_row f n) ≡ times_one (node_amount net plan n)
  unfolding node_row times_one row_sum
  node_row_sum n h =
      node_sum n one64 1 one_upto 0 [] AllUpto.none (omega arith)
      ∙ +ℤ_idr (exact one64 *ℤ node_amount net plan n)
      ∙ ap (λ (z : ℤ). z *ℤ node_amount net plan n) one_exact
      ∙ *ℤ_comm (pos units_in_one) (node_amount net plan n)

  -- a mass row: inflow less outflow
  pub mass_sum : (n : ℕ) → node_room net 1 < 2 ^ 53 → row_sum f plan (mass_row f n) ≡ times_one (pos (inflow net plan n) -ℤ pos (outflow net plan n))
  unfolding mass_row times_one row_sum column_map
  mass_sum n h =
      both_sum n one64 1 one_upto 0 [] AllUpto.none (omega arith)
      ∙ +ℤ_idr (exact one64 *ℤ (pos (inflow net plan n) -ℤ pos (outflow net plan n)))
      ∙ ap (λ (z : ℤ). z *ℤ (pos (inflow net plan n) -ℤ pos (outflow net plan n))) one_exact
      ∙ *ℤ_comm (pos units_in_one) (pos (inflow net plan n) -ℤ pos (outflow net plan n))
