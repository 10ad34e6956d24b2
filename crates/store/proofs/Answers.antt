-- The answer to reading a row, by the tests that lead to it, and the part that an answer stands for. Assumes nothing.
use mathlib.Core.Path.{◌≡◌, refl, sym, ap, ◌∙◌}
use Prim.Native.Nat.{ℕ, zero, suc, ◌+◌, ◌-◌, ◌≤◌, ◌<◌}
use native.Mathlib.Nat.{zero-add}
use native.Mathlib.Omega.{arith}
use mathlib.Core.Bool.{true, false}
use mathlib.Core.List.{List, [], ◌∷◌}
use lib.ListN.{length, take, drop}
use lib.Seq.{slice, take-nil}
use borrow.Author.Tests.{lt-ltb, le-ltb}
use Rattle.std.specs.Prelude.{Ok, Err}
use Rattle.pywr.specs.declared.Reason.{Reason}
use Rattle.pywr.specs.declared.Refusal.{Refusal}
use Rattle.pywr.specs.Answer.{RowAnswer}
use Rattle.pywr.specs.Result.{Result, value, refused, ◌>>=◌, need}
use Rattle.pywr.specs.Answers.{refusal_at, row_number_of, row_place_of}
use Rattle.pywr.specs.Store.{Store, store_has_room, row_count, start_of, columns_of_row}
use Rattle.pywr.specs.Misshapen.{well_shaped}
use Rattle.pywr.specs.Calls.{row_answer, part_of, row_part, span_of}
use Rattle.pywr.proofs.RunLaws.{bind_value, need_value}
use Rattle.store_rows.proofs.Starts.{start_under}
use Rattle.store.specs.Reading.{RowAnswered, RowRead}
use Rattle.store.proofs.Passed.{roomy, shaped}

-- ---- the answer

module _ {s : Store} {row : ℕ} where
  pub short : store_has_room s ≡ false → RowAnswered s row (Err (refusal_at Reason.ShortBuffer 0))
  unfolding row_answer span_of need ◌>>=◌
  short a = record { answer = rw a; inside = tt }

  pub misshapen : store_has_room s ≡ true → well_shaped s ≡ false → RowAnswered s row (Err (refusal_at Reason.MisshapenStore 0))
  unfolding row_answer span_of need ◌>>=◌
  misshapen a b = record { answer = rw (a, b); inside = tt }

  pub no_row : store_has_room s ≡ true → well_shaped s ≡ true → row_count s ≤ row → RowAnswered s row (Err (refusal_at Reason.NoSuchRow row))
  unfolding row_answer span_of need ◌>>=◌
  no_row a b le = record { answer = rw (a, b, le-ltb row (row_count s) le); inside = tt }

  pub row_part_lem : store_has_room s ≡ true → well_shaped s ≡ true → row < row_count s → RowAnswered s row (Ok (start_of s row, start_of s (row + 1)))
  unfolding row_answer span_of need ◌>>=◌
  row_part_lem a b lt =
      let h = shaped s b in
      record {
        answer = rw (a, b, lt-ltb row (row_count s) lt);
        inside = (h.starts.rise row lt, omega (arith, start_under h.starts (row + 1) (omega arith), h.counts.kept, (roomy s a).columns));
      }

-- ---- the part

module _ (s : Store) (row : ℕ) where
  value-is : (part : List ℕ) → row_answer s row ≡ value part → columns_of_row s row ≡ part
  unfolding row_answer
  value-is part e =
      let a = bind_value _ _ part e in
      let b = bind_value _ _ part a.2 in
      let p : s ≡ a.0 = need_value _ 16 0 s a.0 a.1 in
      let q : a.0 ≡ b.0 = need_value _ 17 0 a.0 b.0 b.1 in
      ap (λ (t : Store). columns_of_row t row) (p ∙ q) ∙ need_value _ 18 row (columns_of_row b.0 row) part b.2

  part-of : (x : Result (List ℕ)) → ((part : List ℕ) → x ≡ value part → columns_of_row s row ≡ part) → (start end : ℕ) → Ok (start, end) ≡ span_of s row x
      → slice start end s.columns ≡ part_of x
  unfolding span_of part_of columns_of_row
  part-of (value part) is start end e =
      let both : (start, end) ≡ (start_of s row, start_of s (row + 1)) = cc in
      let a : start ≡ start_of s row = ap (λ (p : ℕ × ℕ). p.0) both in
      let b : end ≡ start_of s (row + 1) = ap (λ (p : ℕ × ℕ). p.1) both in
      rw (a, b) (is part refl)
  part-of (refused number place) is start end e = let z : ◌≡◌ {A = ℕ} 0 1 = cc in absurd (omega arith)

  none_of : (x : Result (List ℕ)) (refusal : Refusal) → Err refusal ≡ span_of s row x → [] ≡ part_of x
  unfolding span_of part_of
  none_of (value part) refusal e = let z : ◌≡◌ {A = ℕ} 0 1 = cc in absurd (omega arith)
  none_of (refused n p) refusal e = refl

drop_of_take : {A : Type 0} (start n : ℕ) (l : List A) → take n (drop start l) ≡ drop start (take (start + n) l)
drop_of_take zero n l = rw zero-add
drop_of_take (suc start) n [] = let e : suc start + n ≡ suc (start + n) = omega arith in rw e (take-nil n)
drop_of_take (suc start) n (x ∷ l) = let e : suc start + n ≡ suc (start + n) = omega arith in rw e (drop_of_take start n l)

part_slice : {A : Type 0} (start end : ℕ) (l : List A) → start ≤ end → take (end - start) (drop start l) ≡ slice start end l
part_slice start end l le = let e : start + (end - start) ≡ end = omega arith in drop_of_take start (end - start) l ∙ rw e

module _ {s : Store} {row : ℕ} {r : RowAnswer} (h : RowAnswered s row r) where
  pub read-part : (start end : ℕ) → r ≡ Ok (start, end) → RowRead s row (take (end - start) (drop start s.columns)) 0 0
  unfolding row_part row_number_of row_place_of
  read-part start end e =
      let q : Ok (start, end) ≡ span_of s row (row_answer s row) = sym e ∙ h.answer in
      let inside : (start ≤ end) × (end ≤ length s.columns) = rw e at h.inside in
      record {
        columns = part_slice start end s.columns inside.0 ∙ part-of s row (row_answer s row) (value-is s row) start end q;
        number = ap row_number_of q;
        place = ap row_place_of q;
      }

  pub read_none : (refusal : Refusal) → r ≡ Err refusal → RowRead s row [] refusal.number refusal.place
  unfolding row_part row_number_of row_place_of
  read_none refusal e =
      let q : Err refusal ≡ span_of s row (row_answer s row) = sym e ∙ h.answer in
      record { columns = none_of s row (row_answer s row) refusal q; number = ap row_number_of q; place = ap row_place_of q }
