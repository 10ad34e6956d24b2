-- Networks with the same nodes and edges have edges together in the same columns, and as many of these, in whatever order the edges stand. Assumes nothing.
use mathlib.Core.Path.{◌≡◌, sym, ap, ◌∙◌, subst}
use Prim.Native.Nat.{ℕ, ◌<◌, ◌≤◌}
use native.Mathlib.Nat.{le_antisymm}
use mathlib.Core.List.{List}
use lib.Dec.{T, eqb}
use Rattle.laws.proofs.Pigeonhole.{pigeonhole}
use Rattle.pywr.specs.Network.{link, Node, Network, kind_of, source, target, incoming, outgoing}
use Rattle.pywr.specs.ColEdgeMap.{columns, column_of}
use Rattle.pywr.proofs.ListLaws.{below_found, found_below}
use Rattle.pywr.proofs.ReadLaws.{Unrepeated, Sound}
use Rattle.theorem_file_order.specs.ColumnClasses.{PlainJoint, Joined, itself, downstream, upstream}
use Rattle.theorem_file_order.specs.FileOrder.{SameButOrder, SameEdge}
use Rattle.theorem_file_order.proofs.Classes.{column_below, joined_column, column_joined, lowest, lowest_lies}
use Rattle.theorem_file_order.proofs.Places.{turned, to, to_found, to_below, one_moves}

-- ---- joined edges stay joined

module _ (a b : Network) (same : SameButOrder a b) (once : Unrepeated b.edges) where
  pub joint_moves : (n i o : ℕ) → PlainJoint a n i o → PlainJoint b n (to a b same i) (to a b same o)
  unfolding incoming outgoing
  joint_moves n i o j =
      record {
        is_link = subst (λ (l : List Node). T (eqb (kind_of l n) link)) same.nodes j.is_link;
        one_in = one_moves a b same once target n i j.one_in;
        one_out = one_moves a b same once source n o j.one_out;
      }

  joined_moves : (e f : ℕ) → Joined a e f → Joined b (to a b same e) (to a b same f)
  joined_moves e f itself = itself
  joined_moves e f (downstream n j rest) = downstream n (joint_moves n _ _ j) (joined_moves _ f rest)
  joined_moves e f (upstream n j rest) = upstream n (joint_moves n _ _ j) (joined_moves _ f rest)

-- an edge's number in the second is the one that `to` gives
same_edge_at : (a b : Network) (same : SameButOrder a b) → Unrepeated b.edges → (e e' : ℕ) → SameEdge a b e e' → to a b same e ≡ e'
same_edge_at a b same once e e' s = once (to a b same e) e' s.edge (to_found a b same e s.edge s.first) s.second

pub turned_edge : {a b : Network} {e e' : ℕ} → SameEdge a b e e' → SameEdge b a e' e
turned_edge s = record { edge = s.edge; first = s.second; second = s.first }

module _ (a b : Network) (same : SameButOrder a b) (sa : Sound a) (sb : Sound b) where
  pub together_there : (e f e' f' : ℕ) → SameEdge a b e e' → SameEdge a b f f' → column_of a e ≡ column_of a f → column_of b e' ≡ column_of b f'
  together_there e f e' f' se sf q =
      let once = sb.good.unrepeated in
      let joined = column_joined a sa.noself e f (found_below a.edges e se.edge se.first) (found_below a.edges f sf.edge sf.first) q in
      ap (column_of b) (sym (same_edge_at a b same once e e' se))
      ∙ joined_column b sb.noself (to a b same e) (to a b same f) (joined_moves a b same once e f joined)
      ∙ ap (column_of b) (same_edge_at a b same once f f' sf)

-- ---- as many columns

module _ (a b : Network) (same : SameButOrder a b) (sa : Sound a) (sb : Sound b) where
  -- the column of b in which the lowest edge of a column of a lies
  unfoldable pub there : ℕ → ℕ
  there k = column_of b (to a b same (lowest a sa.noself k))

  pub lowest_edge : (k : ℕ) → k < (columns a).count → SameEdge a b (lowest a sa.noself k) (to a b same (lowest a sa.noself k))
  lowest_edge k h =
      let l = lowest_lies a sa.noself k h in
      let x = below_found a.edges (lowest a sa.noself k) l.0 in
      record { edge = x.0; first = x.1; second = to_found a b same (lowest a sa.noself k) x.0 x.1 }

  pub there_below : (k : ℕ) → k < (columns a).count → there k < (columns b).count
  unfolding there
  there_below k h =
      let l = lowest_lies a sa.noself k h in
      column_below b sb.noself (to a b same (lowest a sa.noself k)) (to_below a b same (lowest a sa.noself k) l.0)

  pub there_apart : (k l : ℕ) → k < (columns a).count → l < (columns a).count → there k ≡ there l → k ≡ l
  unfolding there
  there_apart k l h i q =
      let back = together_there b a (turned same) sb sa _ _ _ _ (turned_edge (lowest_edge k h)) (turned_edge (lowest_edge l i)) q in
      sym (lowest_lies a sa.noself k h).1 ∙ back ∙ (lowest_lies a sa.noself l i).1

  count_most : (columns a).count ≤ (columns b).count
  count_most = pigeonhole (columns a).count (columns b).count there there_below there_apart

pub same_count : (a b : Network) → SameButOrder a b → Sound a → Sound b → (columns a).count ≡ (columns b).count
same_count a b same sa sb = le_antisymm (count_most a b same sa sb) (count_most b a (turned same) sb sa)
