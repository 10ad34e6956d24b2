-- The row starts of an assembled programme begin at 0, do not fall, and end at the element count. Assumes nothing.
use mathlib.Core.Path.{◌≡◌, sym, ◌∙◌, ap}
use Prim.Native.Nat.{ℕ, suc, zero, ◌+◌, ◌<◌, ◌≤◌}
use native.Mathlib.Nat.{add-zero, min-le_left}
use native.Mathlib.Omega.{arith}
use mathlib.Core.List.{List, [], ◌∷◌}
use lib.ListN.{length, get_or, drop, length-take}
use lib.Seq.{get_or-take, get_or-drop}
use lib.Ieee.{Float}
use Rattle.pywr.specs.declared.Sentinel.{Sentinel}
use Rattle.pywr.specs.Programme.{Row, Built}
use Rattle.pywr.specs.Build.{element_count}
use Rattle.pywr.specs.Written.{starts_from, rows_of}
use Rattle.pywr.proofs.StoreLaws.{Holds}
use Rattle.pywr.proofs.RowsBack.{start_head, held_tail}
use Rattle.build_write.specs.declared.Sizes.{Sizes}
use Rattle.build_write.specs.Lp.{RowStarts}
use Rattle.build_rows.specs.Assembled.{Laid}

-- the rows' starts stand in the run from p on, and the first is `at`
module _ (run : List ℕ) where
  rises : (rows : List Row) (p at k : ℕ) → Holds 0 run p (starts_from at rows) → k < length rows → get_or run (p + k) 0 ≤ get_or run (p + k + 1) 0
  unfolding starts_from
  rises (y ∷ ys) p at zero h lt =
      let n : ℕ = length y.elements in
      let rest : Holds 0 run (p + 1) (starts_from (at + n) ys) = held_tail 0 run p at (starts_from (at + n) ys) h in
      rw (add-zero p) (omega (arith, start_head at (y ∷ ys) run p h, start_head (at + n) ys run (p + 1) rest))
  rises (y ∷ ys) p at (suc k) h lt =
      let n : ℕ = length y.elements in
      let place : p + suc k ≡ p + 1 + k = omega arith in
      rw place (rises ys (p + 1) (at + n) k (held_tail 0 run p at (starts_from (at + n) ys) h) (let m : suc k < suc (length ys) = lt in omega arith))
  rises [] p at k h lt = elim lt [ ]

  ends : (rows : List Row) (p at : ℕ) → Holds 0 run p (starts_from at rows) → get_or run (p + length rows) 0 ≡ at + element_count rows
  unfolding starts_from element_count
  ends [] p at h = rw (add-zero p, add-zero at) (start_head at [] run p h)
  ends (y ∷ ys) p at h =
      let n : ℕ = length y.elements in
      let place : p + suc (length ys) ≡ p + 1 + length ys = omega arith in
      let sum : at + n + element_count ys ≡ at + (n + element_count ys) = omega arith in
      ap (λ (j : ℕ). get_or run j 0) place ∙ ends ys (p + 1) (at + n) (held_tail 0 run p at (starts_from (at + n) ys) h) ∙ sum

pub row_starts_lem : (s : Sentinel) (b : Built) (z : Sizes) (words : List ℕ) (numbers : List Float) → Laid s b z words numbers → RowStarts z words
unfolding Holds
row_starts_lem s b z words numbers l =
    let rows : List Row = rows_of b.programme in
    let n : ℕ = length rows + 1 in
    let tail : List ℕ = drop 4096 words in
    let few : length (starts_from 0 rows) ≤ n = omega (arith, ap length l.rows.starts, length-take n tail, min-le_left n (length tail)) in
    let held : Holds 0 words 4096 (starts_from 0 rows) = (λ i h. sym (get_or-take n tail i 0 (omega arith) ∙ get_or-drop 4096 words i 0) ∙ ap (λ (xs : List ℕ). get_or xs i 0) l.rows.starts) in
    let many : z.rows ≡ length rows = l.rows.row_count in
    let sum : 0 + element_count rows ≡ element_count rows = omega arith in
    record {
      first = start_head 0 rows words 4096 held;
      rise = λ r h. rises words rows 4096 0 r held (omega (arith, many));
      last = ap (λ (n : ℕ). get_or words (4096 + n) 0) many ∙ ends words rows 4096 0 held ∙ sum ∙ sym l.rows.elements_count;
    }
