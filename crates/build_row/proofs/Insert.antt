-- A run of which a part moves up by one, at any element type. Assumes nothing.
use Prim.Native.Nat.{ℕ, suc, ◌+◌, ◌-◌, ◌<◌, ◌≤◌}
use mathlib.Core.Path.{◌≡◌, refl, sym, ◌∙◌, ap}
use mathlib.Core.List.{List, ◌∷◌, ◌++◌, append_assoc}
use native.Mathlib.Omega.{arith}
use native.Mathlib.Nat.{sub_self}
use lib.ListN.{length, get_or, take, drop, set, take-append-drop, length-append, length-drop, length-set, get_or-append}
use lib.Seq.{length-take-le, take_at, drop_at, take-take, take-add, get_or-take, set_at, append_snoc}
use Rattle.laws.proofs.Runs.{take_more, drop_next}
use Rattle.build_row.specs.RowBuilder.{insert_at}

-- x put at place p of a list
abbrev pub placed : {A : Type 0} → ℕ → A → List A → List A
placed p x l = take p l ++ x ∷ drop p l

pub length_placed : {A : Type 0} (p : ℕ) (x : A) (l : List A) → p ≤ length l → length (placed p x l) ≡ length l + 1
length_placed p x l h = length-append (take p l) (x ∷ drop p l) ∙ rw (length-take-le p l h, length-drop p l) (omega arith)

-- the loop: places over i hold what stood one place below
pub record Shift {A : Type 0} (l : List A) (n p : ℕ) (d : List A) (i : ℕ) : Type 0 where
  pub low : p ≤ i
  pub high : i ≤ n
  pub run : d ≡ take (i + 1) l ++ (take (n - i) (drop i l) ++ drop (n + 1) l)
  pub len : length d ≡ length l

module _ {A : Type 0} where
  put_over : (l m : List A) (v : A) (i : ℕ) → i < length l → set (take (i + 1) l ++ m) i v ≡ take i l ++ v ∷ m
  put_over l m v i h =
      rw (← take_more l i v h, append_snoc (take i l) (get_or l i v) m) (set_at (take i l) (get_or l i v) m v i (length-take-le i l (omega arith)))

  module _ (l : List A) (n p : ℕ) (within : p ≤ n) (room : n < length l) where
    pub shift_first : Shift l n p l n
    shift_first =
        record { low = within; high = omega arith; run = rw (sub_self n) (sym (take-append-drop (n + 1) l)); len = refl }

    module _ (d : List A) (i : ℕ) (s : Shift l n p d i) where
      -- v, which stands at the place below i, is put at i
      pub shift_next : (v : A) → v ≡ get_or d (i - 1) v → p < i → Shift l n p (set d (i - 1 + 1) v) (i - 1)
      shift_next v is lt =
          let hi = s.high in
          let up : i - 1 + 1 ≡ i = omega arith in
          let left : n - (i - 1) ≡ suc (n - i) = omega arith in
          let stood : v ≡ get_or l (i - 1) v =
          is
          ∙ ap (λ (t : List A). get_or t (i - 1) v) s.run
          ∙ get_or-append (take (i + 1) l) (take (n - i) (drop i l) ++ drop (n + 1) l) v (i - 1) (omega (arith, length-take-le (i + 1) l (omega arith)))
          ∙ get_or-take (i + 1) l (i - 1) v (omega arith) in
          record {
            low = omega arith;
            high = omega arith;
            run =
                rw (left, drop_next l (i - 1) v (omega arith), up, s.run, put_over l (take (n - i) (drop i l) ++ drop (n + 1) l) v i (omega arith), ← stood) refl;
            len = length-set d (i - 1 + 1) v ∙ s.len;
          }

      pub shift_done : (x : A) → i ≤ p → set d p x ≡ insert_at n p x l
      shift_done x le =
          let lo = s.low in
          let e : i ≡ p = omega arith in
          rw (s.run, e) (put_over l (take (n - p) (drop p l) ++ drop (n + 1) l) x p (omega arith))

-- the front of a run with x put in, as a list
pub insert_front : {A : Type 0} (l : List A) (n p : ℕ) (x : A) → p ≤ n → n < length l → take (n + 1) (insert_at n p x l) ≡ placed p x (take n l)
insert_front {A} l n p x h room =
    let e : n ≡ p + (n - p) = omega arith in
    let len : length (take p l ++ x ∷ take (n - p) (drop p l)) ≡ n + 1 =
    length-append (take p l) (x ∷ take (n - p) (drop p l))
    ∙ rw (length-take-le p l (omega arith), length-take-le (n - p) (drop p l) (omega (arith, length-drop p l))) (omega arith) in
    let back : drop p (take n l) ≡ take (n - p) (drop p l) =
    ap (λ (k : ℕ). drop p (take k l)) e
    ∙ ap (drop p) (take-add p (n - p) l)
    ∙ drop_at (take p l) (take (n - p) (drop p l)) p (length-take-le p l (omega arith)) in
    rw (back, take-take p n l h, ← append_assoc (take p l) (x ∷ take (n - p) (drop p l)) (drop (n + 1) l))
    (take_at (take p l ++ x ∷ take (n - p) (drop p l)) (drop (n + 1) l) (n + 1) len)
