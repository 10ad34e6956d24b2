-- `network_edge::pair_among` meets its contract. The invariant: none of the edges so far has these ends.
use Rattle.std.proofs.Common.{◌≡◌, ℕ, ◌+◌, ◌*◌, ◌<◌}
use Rattle.pywr.specs.Bytes.{le32}
use Rattle.network_edge.proofs.pair_among.Given as goal

abbrev pub invariant-loop-i : goal.invariant-loop-i
invariant-loop-i l = (k : ℕ) → k < l.i → le32 l.s (l.start + 6 * k + 2) ≡ l.pair → ⊥
