-- Where the run of columns falls, and where it may: at the first column of a row. Assumes nothing.
use Rattle.std.specs.Prelude.{ℕ, zero, suc, ◌+◌, List, cond, get_or, ltb}

-- 1 where a column is not over the one before it
unfoldable pub fall : ℕ → ℕ → ℕ
fall before column = cond (ltb before column) 0 1

unfoldable pub fall_at : List ℕ → ℕ → ℕ
fall_at columns zero = 0
fall_at columns (suc at) = fall (get_or columns at 0) (get_or columns (suc at) 0)

-- the sum over the n numbers from i on
unfoldable pub sum_from : (ℕ → ℕ) → ℕ → ℕ → ℕ
sum_from f i zero = 0
sum_from f i (suc n) = f i + sum_from f (i + 1) n

-- the fall at the first column of the row from `start` up to `end`
unfoldable pub start_fall : List ℕ → ℕ → ℕ → ℕ
start_fall columns start end = cond (ltb start end) (fall_at columns start) 0

unfoldable pub row_fall : List ℕ → List ℕ → ℕ → ℕ
row_fall columns row_starts r = start_fall columns (get_or row_starts r 0) (get_or row_starts (r + 1) 0)
