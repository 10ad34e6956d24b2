-- 9 and 10 of a node by the exclusive nodes' marks. Assumes nothing.
use Prim.Native.Nat.{ℕ}
use mathlib.Core.Path.{◌≡◌}
use mathlib.Core.Bool.{Bool, true, false, ◌&&◌, ◌||◌}
use mathlib.Core.Option.{none, some}
use lib.Ieee.{inf, lt, eq}
use Rattle.pywr.specs.Network.{Node, Network, is_exclusive}
use Rattle.network_checks.proofs.NodeLoops.{refused_here, refused_later, refused_none}
use Rattle.pywr.specs.NetworkFile.{bad_constant}

module _ (net : Network) (i : ℕ) (x : Node) where
  pub crossed : (x.constant && lt x.max x.min) ≡ true → bad_constant net i x ≡ some 9
  unfolding bad_constant
  crossed e = rw e

  module _ (mark : Bool) (p : mark ≡ is_exclusive net.aggregates i) (e : (x.constant && lt x.max x.min) ≡ false) where
    pub unbounded : (x.constant && mark && (eq x.max (inf true) || eq x.min (inf false))) ≡ true → bad_constant net i x ≡ some 10
    unfolding bad_constant
    unbounded f = rw (e, ← p, f)

    pub bounded : (x.constant && mark && (eq x.max (inf true) || eq x.min (inf false))) ≡ false → bad_constant net i x ≡ none
    unfolding bad_constant
    bounded f = rw (e, ← p, f)

-- for the loop that asks 9 and 10 of each node
pub ruleset constant_turns = (refused_here, refused_later, refused_none, crossed, unbounded, bounded)
