-- 8 of a node by the marks of its edges. Assumes nothing.
use Prim.Native.Nat.{ℕ}
use mathlib.Core.Path.{◌≡◌, refl, ◌∙◌}
use mathlib.Core.Bool.{Bool, true, false, cond, not, ◌&&◌, ◌||◌}
use mathlib.Core.Option.{none, some}
use lib.Dec.{eqb}
use Rattle.pywr.specs.Network.{link, Node, Network, incoming, outgoing}
use Rattle.network_checks.proofs.NodeLoops.{refused_here, refused_later, refused_none}
use Rattle.pywr.specs.NetworkFile.{is_empty, unconnected_link}

not_not : (b : Bool) → not (not b) ≡ b
not_not true = refl
not_not false = refl

module _ (net : Network) (i : ℕ) (x : Node) (into out : Bool) (p : into ≡ not (is_empty (incoming net i))) (q : out ≡ not (is_empty (outgoing net i))) where
  by_marks : unconnected_link net i x ≡ cond (eqb x.kind link && (not into || not out)) (some 8) none
  unfolding unconnected_link
  by_marks = rw (p, q, not_not (is_empty (incoming net i)), not_not (is_empty (outgoing net i)))

  pub unconnected : (eqb x.kind link && (not into || not out)) ≡ true → unconnected_link net i x ≡ some 8
  unconnected e = by_marks ∙ rw e

  pub connected : (eqb x.kind link && (not into || not out)) ≡ false → unconnected_link net i x ≡ none
  connected e = by_marks ∙ rw e

-- for the loop that asks 8 of each node
pub ruleset link_turns = (refused_here, refused_later, refused_none, unconnected, connected)
