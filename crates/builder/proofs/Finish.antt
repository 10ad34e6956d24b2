-- The answers of a build: a buffer is short, the file is refused, or its programme is written. Assumes nothing.
use mathlib.Core.Path.{◌≡◌, ◌∙◌, ap}
use Prim.Native.Nat.{ℕ}
use Rattle.std.specs.Prelude.{Result, Ok, Err}
use mathlib.Core.List.{List}
use mathlib.Core.Bool.{Bool, true, false, ◌&&◌}
use lib.ListN.{length, replicate}
use lib.Dec.{leb, leb→le}
use lib.Ieee.{Float}
use lib.Ieee.Fits.{and_l, and_r}
use Rattle.layout.specs.Layout.{numbers_length, words_length}
use Rattle.laws.proofs.Tests.{of_true}
use Rattle.layout.specs.WorkRoom.{WorkRoom}
use Rattle.pywr.specs.declared.Sentinel.{Sentinel}
use Rattle.pywr.specs.declared.Reason.{Reason}
use Rattle.pywr.specs.declared.Refusal.{Refusal}
use Rattle.pywr.specs.Result.{◌>>=◌, need}
use Rattle.pywr.specs.Answers.{refusal_at, answer_of}
use Rattle.pywr.specs.Numbers.{zero64}
use Rattle.pywr.specs.Store.{Store, store_has_room}
use Rattle.pywr.specs.Calls.{cleared, build_room, build_answer, store_of_build, build_store, build_words, build_numbers, AfterBuild}
use Rattle.pywr.proofs.Represents.{Roomy}
use Rattle.pywr.proofs.DemandThree.{roomy_parts}
use Rattle.build_write.specs.declared.Sizes.{Sizes}
use Rattle.build_write.specs.Lp.{ColumnsWritten, RowsWritten, MatrixWritten, shape_written}
use Rattle.build_rows.specs.Assembled.{AfterAssemble}
use Rattle.builder.proofs.Written.{store_is}

-- the lengths that a build needs
pub record Room (s : Store) (words : List ℕ) (numbers : List Float) : Type 0 where
  pub store : Roomy s
  pub work : WorkRoom words numbers

pub room : (s : Store) (words : List ℕ) (numbers : List Float) → build_room s words numbers ≡ true → Room s words numbers
unfolding build_room
room s words numbers e =
    let a : Bool = store_has_room s in
    let b : Bool = leb words_length (length words) in
    let c : Bool = leb numbers_length (length numbers) in
    let h2 = of_true (a && b && c) e in
    let h1 = and_l (a && b) c h2 in
    record {
      store = roomy_parts s (and_l a b h1);
      work =
          record {
            words_room = leb→le words_length (length words) (and_r a b h1);
            numbers_room = leb→le numbers_length (length numbers) (and_r (a && b) c h2);
          };
    }

module _ (s : Sentinel) (file : List ℕ) (old : Store) (words : List ℕ) (numbers : List Float) where
  -- 16: nothing is changed
  pub short : build_room old words numbers ≡ false → AfterBuild s file old words numbers (Err (refusal_at Reason.ShortBuffer 0)) old words numbers
  unfolding build_answer build_store store_of_build build_words build_numbers cleared need ◌>>=◌ answer_of
  short e = record { answer = rw e; store = rw e; words_left = rw e; numbers_left = rw e }

  module _ (ok : build_room old words numbers ≡ true) (a : Result Sizes Refusal) (w : List ℕ) (x : List Float) (after : AfterAssemble s file a w x)
      (words' : List ℕ) (wz : words' ≡ replicate (length w) 0) (wl : length w ≡ length words)
      (numbers' : List Float) (xz : numbers' ≡ replicate (length x) zero64) (xl : length x ≡ length numbers) where
    words_are : words' ≡ build_words old words numbers
    unfolding build_words cleared
    words_are = rw ok (wz ∙ ap (λ (k : ℕ). replicate k 0) wl)

    numbers_are : numbers' ≡ build_numbers old words numbers
    unfolding build_numbers cleared
    numbers_are = rw ok (xz ∙ ap (λ (k : ℕ). replicate k zero64) xl)

    -- any refusal but 16: the store is as it was
    pub refuse : (refusal : Refusal) → a ≡ Err refusal → AfterBuild s file old words numbers (Err refusal) old words' numbers'
    unfolding build_answer build_store store_of_build need ◌>>=◌ answer_of
    refuse refusal e =
        let told = after.refusal refusal e in
        record { answer = rw (ok, told); store = rw (ok, told); words_left = words_are; numbers_left = numbers_are }

    -- the programme is written
    pub finish : {z : Sizes} → a ≡ Ok z → {cl cu co rl ru el : List Float} {cs st sh : List ℕ}
        → ColumnsWritten s z old.col_lower old.col_upper old.col_obj_coef cl cu co
        → RowsWritten z x old.row_lower old.row_upper rl ru
        → MatrixWritten z w x old.elements old.columns old.row_starts el cs st
        → sh ≡ shape_written z w old.shape
        → AfterBuild s file old words numbers (Ok tt)
        (record { col_lower = cl; col_upper = cu; col_obj_coef = co; row_lower = rl; row_upper = ru; elements = el; columns = cs; row_starts = st; shape = sh }) words' numbers'
    unfolding build_answer build_store store_of_build need ◌>>=◌ answer_of
    finish {z} e {cl} {cu} {co} {rl} {ru} {el} {cs} {st} {sh} cw rw₁ mw sw =
        let made = after.made z e in
        let told = made.is in
        record {
          answer = rw (ok, told);
          store = rw (ok, told) (store_is s made.built z w x made.laid old cl cu co rl ru el cs st sh cw rw₁ mw sw);
          words_left = words_are;
          numbers_left = numbers_are;
        }
