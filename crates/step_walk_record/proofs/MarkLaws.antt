-- Two letters as one number: bytes are below 256. Assumes nothing.
use Prim.Native.Nat.{ℕ, ◌+◌, ◌*◌, ◌/◌, ◌%◌, ◌<◌}
use mathlib.Core.Path.{◌≡◌}
use mathlib.Core.Bool.{◌&&◌}
use lib.Dec.{eqb}
use lib.Ieee.Fits.{and_i, and_l, and_r}
use Rattle.laws.proofs.Tests.{tests, same_test}

pub mark_number : (a b mark : ℕ) → a < 256 → b < 256 → eqb (a + 256 * b) mark ≡ (eqb a (mark % 256) && eqb b (mark / 256))
mark_number a b mark p q =
    same_test (eqb (a + 256 * b) mark) (eqb a (mark % 256) && eqb b (mark / 256)) (
      (λ t. and_i (eqb a (mark % 256)) (eqb b (mark / 256)) (omega tests) (omega tests)),
      (λ t. let u = and_l (eqb a (mark % 256)) (eqb b (mark / 256)) t in let v = and_r (eqb a (mark % 256)) (eqb b (mark / 256)) t in omega tests),
    )
