-- How many digits a number of 64 bits has. Assumes nothing.
use Prim.Native.Nat.{ℕ, ◌-◌, ◌^◌, ◌<◌, ◌≤◌}
use native.Mathlib.Nat.{pow-le-pow_right, lt_of_not-le}
use native.Mathlib.Decide.{dec_le}
use native.Mathlib.Omega.{arith}
use Rattle.io.specs.Digits.{IsDigitCount}

-- n is under b ^ most: no more than `most` digits hold it
pub few : (b least n k most : ℕ) → 0 < b → n < b ^ most → least ≤ most → IsDigitCount b least n k → k ≤ most
few b least n k most pos under le f = go (dec_le k most)
  where
    go : Dec (k ≤ most) → k ≤ most
    go (yes h) = h
    go (no h) =
        let over : most < k = lt_of_not-le h in
        let grows : b ^ most ≤ b ^ (k - 1) = pow-le-pow_right pos (let j : most ≤ k - 1 = omega arith in j) in
        let above : b ^ (k - 1) ≤ n = f.2 (let j : least < k = omega arith in j) in
        absurd (omega arith)
