-- What a node and a virtual storage's parts add to a row, each element times a weight of its column, where every sum is exact. Assumes nothing.
use mathlib.Core.Path.{◌≡◌, refl, sym, ap, ap₂, ◌∙◌}
use Prim.Native.Nat.{ℕ, zero, suc, ◌+◌, ◌*◌, ◌^◌, ◌<◌, ◌≤◌, suc-le-suc, zero-le}
use native.Mathlib.Nat.{le_trans, le_of_eq, mul-le-mul_right, suc-mul}
use native.Mathlib.Omega.{arith}
use mathlib.Core.Bool.{Bool, true, false, cond}
use mathlib.Core.List.{List, [], ◌∷◌}
use mathlib.Core.Option
use mathlib.Core.Option.{Option, none}
use lib.ListN.{length, get_or}
use lib.IntN.{ℤ, pos, neg_ℤ, ◌+ℤ◌, ◌-ℤ◌, ◌*ℤ◌, +ℤ_assoc, +ℤ_comm, +ℤ_idl}
use lib.Dec.{eqb}
use lib.Ieee.{Float, binary64, neg}
use Rattle.doubles.proofs.Integers.{mul-addℤ, neg-mulℤ, mul-negℤ}
use Rattle.doubles.proofs.Units.{neg_mag}
use Rattle.doubles.proofs.Sums.{neg_grain}
use Rattle.pywr.specs.Network.{output, storage, Edge, Part, Network, kind_of, keep_if}
use Rattle.pywr.specs.ColEdgeMap.{columns, MappedEdge, with_columns, mapped_edges}
use Rattle.pywr.specs.Rows.{Element, add_on, ColumnMap, column_map, columns_with, columns_into, columns_out_of, add_node, add_parts}
use Rattle.pywr.specs.Plans.{exact}
use Rattle.pywr.proofs.ExactLaws.{exact_neg}
use Rattle.pywr.proofs.SumLaws.{grid, Upto, AllUpto, weighed, on_columns, add_on_lem, add_on_upto, all_wider}

-- ---- factors

pub neg_upto : {g : ℕ} (n : ℕ) (x : Float) → Upto g n x → Upto g n (neg x)
neg_upto {g} n x u = record { grain = neg_grain binary64 (grid g) x u.grain; most = le_trans (le_of_eq (neg_mag binary64 x)) u.most }

-- every factor is a multiple of 1 / 2 ^ g, at most m of these from 0
pub data Factors (g m : ℕ) : List Part → Type 0 where
  no_more : Factors g m []
  one_more : {p : Part} {ps : List Part} → Upto g m p.factor → Factors g m ps → Factors g m (p ∷ ps)

-- ---- how many columns a node's row has

pub columns_few : (pe : MappedEdge → ℕ) (n : ℕ) (ps : List MappedEdge) → length (columns_with pe n ps) ≤ length ps
unfolding columns_with keep_if
columns_few pe n [] = zero-le
columns_few pe n (p ∷ ps) = go (eqb (pe p) n) (columns_few pe n ps)
  where
    go : (b : Bool) → length (columns_with pe n ps) ≤ length ps → length (keep_if b p.column (columns_with pe n ps)) ≤ suc (length ps)
    go true h = suc-le-suc h
    go false h = omega arith

pub pipes_length : (es : List Edge) (cs : List (Option ℕ)) → length es ≡ length cs → length (with_columns es cs) ≡ length es
unfolding with_columns
pipes_length [] cs l = refl
pipes_length (x ∷ xs) [] l = let z : suc (length xs) ≡ 0 = l in absurd (omega arith)
pipes_length (x ∷ xs) (c ∷ cs) l = ap suc (pipes_length xs cs (let m : suc (length xs) ≡ suc (length cs) = l in omega arith))

-- an edge with its column, by its number
pub pipe_at : (d : MappedEdge) (e : Edge) (es : List Edge) (cs : List (Option ℕ)) (i : ℕ) → length es ≡ length cs → i < length es
    → get_or (with_columns es cs) i d ≡ record { from = (get_or es i e).from; to = (get_or es i e).to; column = Option.get_or (get_or cs i none) 0 }
unfolding with_columns
pipe_at d e [] cs i l h = absurd (omega arith)
pipe_at d e (x ∷ xs) [] i l h = let m : suc (length xs) ≡ 0 = l in absurd (omega arith)
pipe_at d e (x ∷ xs) (c ∷ cs) zero l h = refl
pipe_at d e (x ∷ xs) (c ∷ cs) (suc i) l h = pipe_at d e xs cs i (let m : suc (length xs) ≡ suc (length cs) = l in omega arith) (omega arith)

-- ---- weights of a node's row and of parts

unfoldable pub node_weight : (ℕ → ℕ) → ColumnMap → ℕ → ℤ
node_weight weight mapping node =
    let into : ℤ = pos (on_columns weight (columns_into node mapping.mapped_edges)) in
    let out : ℤ = pos (on_columns weight (columns_out_of node mapping.mapped_edges)) in
    cond (eqb (kind_of mapping.nodes node) output) into
    (cond (eqb (kind_of mapping.nodes node) storage) (into -ℤ out) out)

unfoldable pub parts_weight : (ℕ → ℕ) → ColumnMap → List Part → ℤ
parts_weight weight mapping [] = pos 0
parts_weight weight mapping (p ∷ ps) = neg_ℤ (exact p.factor) *ℤ node_weight weight mapping p.node +ℤ parts_weight weight mapping ps

-- the room that one node takes at most
abbrev pub node_room : Network → ℕ → ℕ
node_room net m = length net.edges * m + length net.edges * m

module _ (net : Network) (long : length net.edges ≡ length (columns net).of) where
  abbrev f : ColumnMap
  f = column_map net

  into_few : (n m : ℕ) → length (columns_into n (mapped_edges net)) * m ≤ length net.edges * m
  unfolding columns_into mapped_edges
  into_few n m = mul-le-mul_right m (le_trans (columns_few (λ p. p.to) n (mapped_edges net)) (le_of_eq (pipes_length net.edges (columns net).of long)))

  out_few : (n m : ℕ) → length (columns_out_of n (mapped_edges net)) * m ≤ length net.edges * m
  unfolding columns_out_of mapped_edges
  out_few n m = mul-le-mul_right m (le_trans (columns_few (λ p. p.from) n (mapped_edges net)) (le_of_eq (pipes_length net.edges (columns net).of long)))

  -- ---- a node's row

  module _ {g : ℕ} (n : ℕ) (x : Float) (m : ℕ) (u : Upto g m x) (b : ℕ) (row : List Element) (us : AllUpto g b row) (room : b + node_room net m < 2 ^ 53) where
    abbrev into : List ℕ
    into = columns_into n (mapped_edges net)

    abbrev out : List ℕ
    out = columns_out_of n (mapped_edges net)

    in_room : b + length into * m < 2 ^ 53
    in_room = let h = into_few n m in omega arith

    out_room : b + length out * m < 2 ^ 53
    out_room = let h = out_few n m in omega arith

    both_room : b + length into * m + length out * m < 2 ^ 53
    both_room = let h = out_few n m in let k = into_few n m in omega arith

    us_in : AllUpto g (b + length into * m) (add_on into x row)
    us_in = add_on_upto into x m u b row us in_room

    pub node_upto : AllUpto g (b + node_room net m) (add_node f n x row)
    unfolding add_node column_map
    node_upto = go (eqb (kind_of net.nodes n) output) (eqb (kind_of net.nodes n) storage)
      where
        us_out : AllUpto g (b + length out * m) (add_on out x row)
        us_out = add_on_upto out x m u b row us out_room

        us_both : AllUpto g (b + length into * m + length out * m) (add_on out (neg x) (add_on into x row))
        us_both = add_on_upto out (neg x) m (neg_upto m x u) (b + length into * m) (add_on into x row) us_in both_room

        go : (a c : Bool) → AllUpto g (b + node_room net m) (cond a (add_on into x row) (cond c (add_on out (neg x) (add_on into x row)) (add_on out x row)))
        go true c = all_wider (b + length into * m) (b + node_room net m) (add_on into x row) (let h = into_few n m in omega arith) us_in
        go false true =
            all_wider (b + length into * m + length out * m) (b + node_room net m) (add_on out (neg x) (add_on into x row))
            (let h = into_few n m in let k = out_few n m in omega arith) us_both
        go false false = all_wider (b + length out * m) (b + node_room net m) (add_on out x row) (let h = out_few n m in omega arith) us_out

    pub both_weighed : (weight : ℕ → ℕ) → weighed weight (add_on out (neg x) (add_on into x row))
        ≡ exact x *ℤ (pos (on_columns weight into) -ℤ pos (on_columns weight out)) +ℤ weighed weight row
    both_weighed weight =
        let i : ℤ = pos (on_columns weight into) in
        let o : ℤ = pos (on_columns weight out) in
        let r : ℤ = weighed weight row in
        add_on_lem weight out (neg x) m (neg_upto m x u) (b + length into * m) (add_on into x row) us_in both_room
        ∙ ap₂ (λ (a c : ℤ). a *ℤ o +ℤ c) (exact_neg x) (add_on_lem weight into x m u b row us in_room)
        ∙ ap (λ (a : ℤ). a +ℤ (exact x *ℤ i +ℤ r)) (neg-mulℤ (exact x) o ∙ sym (mul-negℤ (exact x) o))
        ∙ sym (+ℤ_assoc (exact x *ℤ neg_ℤ o) (exact x *ℤ i) r)
        ∙ ap (λ (a : ℤ). a +ℤ r) (+ℤ_comm (exact x *ℤ neg_ℤ o) (exact x *ℤ i) ∙ sym (mul-addℤ (exact x) i (neg_ℤ o)))

    pub node_weighed : (weight : ℕ → ℕ) → weighed weight (add_node f n x row) ≡ exact x *ℤ node_weight weight f n +ℤ weighed weight row
    unfolding add_node node_weight column_map
    node_weighed weight = go (eqb (kind_of net.nodes n) output) (eqb (kind_of net.nodes n) storage)
      where
        i : ℤ
        i = pos (on_columns weight into)

        o : ℤ
        o = pos (on_columns weight out)

        go : (a c : Bool) → weighed weight (cond a (add_on into x row) (cond c (add_on out (neg x) (add_on into x row)) (add_on out x row)))
            ≡ exact x *ℤ cond a i (cond c (i -ℤ o) o) +ℤ weighed weight row
        go true c = add_on_lem weight into x m u b row us in_room
        go false true = both_weighed weight
        go false false = add_on_lem weight out x m u b row us out_room

  -- ---- a virtual storage's parts

  pub parts_weighed : {g : ℕ} (weight : ℕ → ℕ) (m : ℕ) (ps : List Part) → Factors g m ps → (b : ℕ) (row : List Element) → AllUpto g b row → b + length ps * node_room net m < 2 ^ 53
      → weighed weight (add_parts f ps row) ≡ parts_weight weight f ps +ℤ weighed weight row
  unfolding add_parts parts_weight
  parts_weighed weight m [] no_more b row us h = sym (+ℤ_idl (weighed weight row))
  parts_weighed weight m (p ∷ ps) (one_more u fs) b row us h =
      let t : suc (length ps) * node_room net m ≡ length ps * node_room net m + node_room net m = suc-mul (length ps) (node_room net m) in
      let r : ℤ = weighed weight row in
      let x : Float = neg p.factor in
      let ux = neg_upto m p.factor u in
      let a : ℤ = neg_ℤ (exact p.factor) *ℤ node_weight weight f p.node in
      parts_weighed weight m ps fs (b + node_room net m) (add_node f p.node x row) (node_upto p.node x m ux b row us (omega arith)) (omega arith)
      ∙ ap (λ (z : ℤ). parts_weight weight f ps +ℤ z)
      (node_weighed p.node x m ux b row us (omega arith) weight ∙ ap (λ (z : ℤ). z *ℤ node_weight weight f p.node +ℤ r) (exact_neg p.factor))
      ∙ sym (+ℤ_assoc (parts_weight weight f ps) a r)
      ∙ ap (λ (z : ℤ). z +ℤ r) (+ℤ_comm (parts_weight weight f ps) a)

  pub parts_upto : {g : ℕ} (m : ℕ) (ps : List Part) → Factors g m ps → (b : ℕ) (row : List Element) → AllUpto g b row → b + length ps * node_room net m < 2 ^ 53
      → AllUpto g (b + length ps * node_room net m) (add_parts f ps row)
  unfolding add_parts
  parts_upto m [] no_more b row us h = all_wider b (b + 0 * node_room net m) row (omega arith) us
  parts_upto m (p ∷ ps) (one_more u fs) b row us h =
      let t : suc (length ps) * node_room net m ≡ length ps * node_room net m + node_room net m = suc-mul (length ps) (node_room net m) in
      let x : Float = neg p.factor in
      let added : List Element = add_node f p.node x row in
      all_wider (b + node_room net m + length ps * node_room net m) (b + suc (length ps) * node_room net m) (add_parts f ps added) (omega arith)
      (parts_upto m ps fs (b + node_room net m) added (node_upto p.node x m (neg_upto m p.factor u) b row us (omega arith)) (omega arith))
