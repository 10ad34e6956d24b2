-- Every row that a build makes: each element is finite and not −0.0. An element is a sum from 0.0 of 1.0, −1.0 and factors, fewer than a million of them; the
-- coefficient of an exclusive node, which may be any finite double, is alone on its column. Assumes nothing.
use mathlib.Core.Path.{refl}
use Prim.Native.Nat.{ℕ, suc, ◌+◌, ◌*◌, ◌≤◌}
use native.Mathlib.Nat.{le_trans}
use native.Mathlib.Omega.{arith}
use mathlib.Core.Bool.{Bool, true, false, cond}
use mathlib.Core.List.Memᴰ
use mathlib.Core.List.{List, [], ◌∷◌}
use lib.ListN.{length}
use lib.Dec.{T, eqb, lit≤}
use lib.Ieee.{Float, binary64, add, neg}
use lib.Ieee.Fits.{add-fits}
use Rattle.doubles.specs.Units.{not_minus_zero}
use Rattle.doubles.proofs.Sums.{add_zero_finite}
use Rattle.pywr.specs.Numbers.{zero64, one64}
use Rattle.pywr.specs.Network.{output, storage, Aggregate, Part, VirtualStorage, kind_of}
use Rattle.pywr.specs.ExclusiveSets.{set_number}
use Rattle.pywr.specs.Rows.{Element, add_element, add_on, ColumnMap, columns_into, columns_out_of, add_node, node_row, mass_row}
use Rattle.pywr.specs.Rows.{add_nodes, add_sets_of, aggregate_row, add_parts, virtual_storage_row, upper_row, lower_row, add_active, exclusivity_row}
use Rattle.pywr.proofs.ElementLaws.{add_none, add_over, add_cases}
use Rattle.pywr.proofs.ExclusiveLaws.{Under}
use Rattle.pywr.proofs.NumberLaws.{FiniteFit}
use Rattle.pywr.proofs.MassLaws.{Every}
use Rattle.pywr.proofs.ListLaws.{AllMem}
use Rattle.pywr.proofs.WeightLaws.{columns_few}
use Rattle.pywr.proofs.ReadLaws.{AggregateOk, SetOk}
use Rattle.theorem_numbers.proofs.SumBounds.{Within, within_finite, most_terms, add_within, wider, neg_within, zero_within, one_within, add_plain}
use Rattle.theorem_numbers.proofs.ReadBounds.{SmallPart, SmallFactors}

-- a sum of at most n terms that is not −0.0
pub record Added (n : ℕ) (x : Float) : Type 0 where
  pub within : Within n x
  pub plain : T (not_minus_zero binary64 x)

-- what is claimed of a build's elements
pub record Plain (x : Float) : Type 0 where
  pub number : FiniteFit x
  pub plain : T (not_minus_zero binary64 x)

abbrev pub AllAdded : ℕ → List Element → Type 0
AllAdded n row = Every (λ (e : Element). Added n e.value) row

abbrev pub AllPlain : List Element → Type 0
AllPlain row = Every (λ (e : Element). Plain e.value) row

-- ---- one number added

zero_added : Added 0 zero64
unfolding zero64
zero_added = record { within = unfold zero64 in zero_within 0; plain = tt }

more_added : (a b : ℕ) (x : Float) → a ≤ b → Added a x → Added b x
more_added a b x h u = record { within = wider a b x h u.within; plain = u.plain }

more_all : (a b : ℕ) (row : List Element) → a ≤ b → AllAdded a row → AllAdded b row
more_all a b [] h us = tt
more_all a b (e ∷ es) h us = (more_added a b e.value h us.0, more_all a b es h us.1)

add_added : (n : ℕ) (x y : Float) → n + 1 ≤ most_terms → Added n x → Within 1 y → Added (n + 1) (add binary64 x y)
add_added n x y room u v =
    record {
      within = add_within n 1 x y room u.within v;
      plain = add_plain x y u.within.fit v.fit u.within.is_finite v.is_finite u.plain;
    }

module _ (c n : ℕ) (x : Float) (room : n + 1 ≤ most_terms) (small : Within 1 x) where
  new_added : Added (n + 1) (add binary64 zero64 x)
  new_added = more_added (0 + 1) (n + 1) (add binary64 zero64 x) (omega arith) (add_added 0 zero64 x (lit≤ tt) zero_added small)

  add_element_lem : (row : List Element) → AllAdded n row → AllAdded (n + 1) (add_element c x row)
  add_element_lem [] us = rw (add_none c x) (new_added, tt)
  add_element_lem (e ∷ es) us =
      add_cases c x e es (AllAdded (n + 1))
      (λ h. (new_added, more_all n (n + 1) (e ∷ es) (omega arith) us))
      (λ h. (add_added n e.value x room us.0 small, more_all n (n + 1) es (omega arith) us.1))
      (λ h. (more_added n (n + 1) e.value (omega arith) us.0, add_element_lem es us.1))

add_on_lem : (cs : List ℕ) (x : Float) (n : ℕ) (row : List Element) → n + length cs ≤ most_terms → Within 1 x → AllAdded n row → AllAdded (n + length cs) (add_on cs x row)
unfolding add_on
add_on_lem [] x n row room small us = more_all n (n + 0) row (omega arith) us
add_on_lem (c ∷ cs) x n row room small us =
    more_all (n + 1 + length cs) (n + suc (length cs)) (add_on cs x (add_element c x row)) (omega arith)
    (add_on_lem cs x (n + 1) (add_element c x row) (omega arith) small (add_element_lem c n x (omega arith) small row us))

-- ---- the last number, of any size

plain_of : (n : ℕ) (x : Float) → Added n x → Plain x
plain_of n x u = record { number = within_finite n x u.within; plain = u.plain }

all_plain : (n : ℕ) (row : List Element) → AllAdded n row → AllPlain row
all_plain n [] us = tt
all_plain n (e ∷ es) us = (plain_of n e.value us.0, all_plain n es us.1)

new_plain : (x : Float) → FiniteFit x → Plain (add binary64 zero64 x)
unfolding zero64
new_plain x ok =
    record {
      number = record { finite = add_zero_finite binary64 x ok.fit ok.finite; fit = add-fits binary64 zero64 x };
      plain = add_plain zero64 x (zero_within 0).fit ok.fit tt ok.finite tt;
    }

-- over every column of the row
add_last : (n k : ℕ) (x : Float) → FiniteFit x → (row : List Element) → Under n row → AllPlain row → AllPlain (add_element (n + k) x row)
add_last n k x ok [] Under.none us = rw (add_none (n + k) x) (new_plain x ok, tt)
add_last n k x ok (e ∷ es) (Under.more l under) us = rw (add_over (n + k) x e es (omega arith)) (us.0, add_last n k x ok es under us.1)

-- ---- the makers of rows, over at most 512 edges

module _ (f : ColumnMap) (few : length f.mapped_edges ≤ 512) where
  into_few : (n : ℕ) → length (columns_into n f.mapped_edges) ≤ 512
  unfolding columns_into
  into_few n = le_trans (columns_few (λ p. p.to) n f.mapped_edges) few

  out_few : (n : ℕ) → length (columns_out_of n f.mapped_edges) ≤ 512
  unfolding columns_out_of
  out_few n = le_trans (columns_few (λ p. p.from) n f.mapped_edges) few

  abbrev ins : ℕ → List ℕ
  ins i = columns_into i f.mapped_edges

  abbrev outs : ℕ → List ℕ
  outs i = columns_out_of i f.mapped_edges

  add_few : (cs : List ℕ) (x : Float) (n : ℕ) (row : List Element) → length cs ≤ 512 → n + 512 ≤ most_terms → Within 1 x → AllAdded n row → AllAdded (n + 512) (add_on cs x row)
  add_few cs x n row h room small us = more_all (n + length cs) (n + 512) (add_on cs x row) (omega arith) (add_on_lem cs x n row (omega arith) small us)

  -- the columns into a node, then those out of it
  add_both : (i : ℕ) (x y : Float) (n : ℕ) (row : List Element) → n + 1024 ≤ most_terms → Within 1 x → Within 1 y → AllAdded n row → AllAdded (n + 1024) (add_on (outs i) y (add_on (ins i) x row))
  add_both i x y n row room sx sy us =
      more_all (n + 512 + 512) (n + 1024) (add_on (outs i) y (add_on (ins i) x row)) (omega arith)
      (add_few (outs i) y (n + 512) (add_on (ins i) x row) (out_few i) (omega arith) sy (add_few (ins i) x n row (into_few i) (omega arith) sx us))

  add_node_lem : (i : ℕ) (x : Float) (n : ℕ) (row : List Element) → n + 1024 ≤ most_terms → Within 1 x → AllAdded n row → AllAdded (n + 1024) (add_node f i x row)
  unfolding add_node
  add_node_lem i x n row room small us = go (eqb (kind_of f.nodes i) output) (eqb (kind_of f.nodes i) storage)
    where
      one_side : (cs : List ℕ) → length cs ≤ 512 → AllAdded (n + 1024) (add_on cs x row)
      one_side cs h = more_all (n + 512) (n + 1024) (add_on cs x row) (omega arith) (add_few cs x n row h (omega arith) small us)

      go : (a b : Bool) → AllAdded (n + 1024) (cond a (add_on (ins i) x row) (cond b (add_on (outs i) (neg x) (add_on (ins i) x row)) (add_on (outs i) x row)))
      go true b = one_side (ins i) (into_few i)
      go false true = add_both i x (neg x) n row room small (neg_within 1 x small) us
      go false false = one_side (outs i) (out_few i)

  minus_one : Within 1 (neg one64)
  minus_one = neg_within 1 one64 one_within

  pub node_plain : (i : ℕ) → AllPlain (node_row f i)
  unfolding node_row
  node_plain i = all_plain (0 + 1024) (add_node f i one64 []) (add_node_lem i one64 0 [] (lit≤ tt) one_within tt)

  pub mass_plain : (i : ℕ) → AllPlain (mass_row f i)
  unfolding mass_row
  mass_plain i = all_plain (0 + 1024) (mass_row f i) (add_both i one64 (neg one64) 0 [] (lit≤ tt) one_within minus_one tt)

  -- the coefficient's column is over the edge columns
  pub upper_plain : (i k : ℕ) (x : Float) → FiniteFit x → Under f.edge_columns (add_node f i (neg one64) []) → AllPlain (upper_row f i k x)
  unfolding upper_row
  upper_plain i k x ok under =
      let row : List Element = add_node f i (neg one64) [] in
      add_last f.edge_columns k x ok row under (all_plain (0 + 1024) row (add_node_lem i (neg one64) 0 [] (lit≤ tt) minus_one tt))

  pub lower_plain : (i k : ℕ) (x : Float) → FiniteFit x → Under f.edge_columns (add_node f i one64 []) → AllPlain (lower_row f i k x)
  unfolding lower_row
  lower_plain i k x ok under =
      let row : List Element = add_node f i one64 [] in
      add_last f.edge_columns k x ok row under (all_plain (0 + 1024) row (add_node_lem i one64 0 [] (lit≤ tt) one_within tt))

  add_nodes_lem : (is : List ℕ) (n : ℕ) (row : List Element) → n + length is * 1024 ≤ most_terms → AllAdded n row → AllAdded (n + length is * 1024) (add_nodes f is row)
  unfolding add_nodes
  add_nodes_lem [] n row room us = more_all n (n + 0 * 1024) row (omega arith) us
  add_nodes_lem (i ∷ is) n row room us =
      more_all (n + 1024 + length is * 1024) (n + suc (length is) * 1024) (add_nodes f is (add_node f i one64 row)) (omega arith)
      (add_nodes_lem is (n + 1024) (add_node f i one64 row) (omega arith) (add_node_lem i one64 n row (omega arith) one_within us))

  -- at most 16 nodes to a set
  add_sets_lem : (nodes : ℕ) (ss : List (List ℕ)) (n : ℕ) (row : List Element) → AllMem (SetOk nodes) ss → n + length ss * 16384 ≤ most_terms → AllAdded n row
      → AllAdded (n + length ss * 16384) (add_sets_of f ss row)
  unfolding add_sets_of
  add_sets_lem nodes [] n row ok room us = more_all n (n + 0 * 16384) row (omega arith) us
  add_sets_lem nodes (s ∷ ss) n row ok room us =
      let h : length s ≤ 16 = (ok s (Memᴰ.head refl)).small in
      more_all (n + 16384 + length ss * 16384) (n + suc (length ss) * 16384) (add_sets_of f ss (add_nodes f s row)) (omega arith)
      (add_sets_lem nodes ss (n + 16384) (add_nodes f s row) (λ t m. ok t (Memᴰ.tail m)) (omega arith)
      (more_all (n + length s * 1024) (n + 16384) (add_nodes f s row) (omega arith) (add_nodes_lem s n row (omega arith) us)))

  pub aggregate_plain : (nodes : ℕ) (a : Aggregate) → AggregateOk nodes a → AllPlain (aggregate_row f a)
  unfolding aggregate_row
  aggregate_plain nodes a ok =
      let h : length a.sets ≤ 16 = ok.few in
      all_plain (0 + length a.sets * 16384) (add_sets_of f a.sets []) (add_sets_lem nodes a.sets 0 [] ok.sets (omega arith) tt)

  add_parts_lem : (ps : List Part) (n : ℕ) (row : List Element) → AllMem SmallPart ps → n + length ps * 1024 ≤ most_terms → AllAdded n row → AllAdded (n + length ps * 1024) (add_parts f ps row)
  unfolding add_parts
  add_parts_lem [] n row small room us = more_all n (n + 0 * 1024) row (omega arith) us
  add_parts_lem (p ∷ ps) n row small room us =
      more_all (n + 1024 + length ps * 1024) (n + suc (length ps) * 1024) (add_parts f ps (add_node f p.node (neg p.factor) row)) (omega arith)
      (add_parts_lem ps (n + 1024) (add_node f p.node (neg p.factor) row) (λ q m. small q (Memᴰ.tail m)) (omega arith)
      (add_node_lem p.node (neg p.factor) n row (omega arith) (neg_within 1 p.factor (small p (Memᴰ.head refl))) us))

  pub virtual_storage_plain : (v : VirtualStorage) → SmallFactors v → length v.parts ≤ 64 → AllPlain (virtual_storage_row f v)
  unfolding virtual_storage_row
  virtual_storage_plain v small h = all_plain (0 + length v.parts * 1024) (add_parts f v.parts []) (add_parts_lem v.parts 0 [] small (omega arith) tt)

  add_active_lem : (ss : List (List ℕ)) (n : ℕ) (row : List Element) → n + length ss ≤ most_terms → AllAdded n row → AllAdded (n + length ss) (add_active f ss row)
  unfolding add_active
  add_active_lem [] n row room us = more_all n (n + 0) row (omega arith) us
  add_active_lem (s ∷ ss) n row room us =
      let c : ℕ = f.edge_columns + set_number s f.sets in
      more_all (n + 1 + length ss) (n + suc (length ss)) (add_active f ss (add_element c one64 row)) (omega arith)
      (add_active_lem ss (n + 1) (add_element c one64 row) (omega arith) (add_element_lem c n one64 (omega arith) one_within row us))

  pub exclusivity_plain : (a : Aggregate) → length a.sets ≤ 16 → AllPlain (exclusivity_row f a)
  unfolding exclusivity_row
  exclusivity_plain a h = all_plain (0 + length a.sets) (add_active f a.sets []) (add_active_lem a.sets 0 [] (omega arith) tt)
