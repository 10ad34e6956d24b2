-- A list in which none stands twice, all of whose members another list as long has: the other is the list in another order. Assumes nothing.
use mathlib.Core.Path.{◌≡◌, refl, sym, ap, ◌∙◌}
use mathlib.Core.Logic.{∥∥₁_elim}
use mathlib.Core.HLevel.{⊥_prop}
use Prim.Native.Nat.{ℕ, suc}
use native.Mathlib.Omega.{arith}
use mathlib.Core.List.Memᴰ
use mathlib.Core.List.{List, [], ◌∷◌, Mem, Memᴰ, Nodup, Nodup-nil, Nodup-cons}
use mathlib.Core.List.Permᴰ
use mathlib.Core.List.{Permᴰ}
use mathlib.Core.Option.{some}
use lib.ListN.{length, get_elem?}
use Rattle.pywr.proofs.ListLaws.{mem_found}

module _ {A : Type 0} where
  -- a member can stand in front
  record Fronted (x : A) (xs : List A) : Type 0 where
    rest : List A
    order : Permᴰ xs (x ∷ rest)
    long : length xs ≡ suc (length rest)

  fronted : {x : A} {xs : List A} → Memᴰ x xs → Fronted x xs
  fronted (Memᴰ.head {xs = ys} e) = record { rest = ys; order = Permᴰ.cons (sym e) (Permᴰ.refl ys); long = refl }
  fronted (Memᴰ.tail {x = y} m) =
      let r = fronted m in
      record { rest = y ∷ r.rest; order = Permᴰ.trans (Permᴰ.cons refl r.order) (Permᴰ.swap refl refl); long = ap suc r.long }

  moved : {x : A} {xs ys : List A} → Permᴰ xs ys → Memᴰ x xs → Memᴰ x ys
  moved Permᴰ.nil m = m
  moved (Permᴰ.cons e p) (Memᴰ.head q) = Memᴰ.head (q ∙ e)
  moved (Permᴰ.cons e p) (Memᴰ.tail m) = Memᴰ.tail (moved p m)
  moved (Permᴰ.swap e f) (Memᴰ.head q) = Memᴰ.tail (Memᴰ.head (q ∙ e))
  moved (Permᴰ.swap e f) (Memᴰ.tail (Memᴰ.head q)) = Memᴰ.head (q ∙ f)
  moved (Permᴰ.swap e f) (Memᴰ.tail (Memᴰ.tail m)) = Memᴰ.tail (Memᴰ.tail m)
  moved (Permᴰ.trans p q) m = moved q (moved p m)

  behind : {x y : A} {xs rest : List A} → ¬ Mem x xs → Memᴰ y xs → Memᴰ y (x ∷ rest) → Memᴰ y rest
  behind away m (Memᴰ.head e) = absurd (away ∣ Memᴰ.cast (sym e) m ∣₁)
  behind away m (Memᴰ.tail n) = n

  pub reordered : (xs ys : List A) → Nodup xs → length xs ≡ length ys → ((x : A) → Memᴰ x xs → Memᴰ x ys) → Permᴰ xs ys
  reordered [] [] once long has = Permᴰ.nil
  reordered [] (y ∷ ys) once long has = let z : 0 ≡ suc (length ys) = long in absurd (omega arith)
  reordered (x ∷ xs) ys once long has =
      let f = fronted (has x (Memᴰ.head refl)) in
      let k = Nodup-cons.0 once in
      let l : suc (length xs) ≡ suc (length f.rest) = long ∙ f.long in
      Permᴰ.trans
      (Permᴰ.cons refl (reordered xs f.rest k.1 (omega arith) (λ y m. behind k.0 m (moved f.order (has y (Memᴰ.tail m))))))
      (Permᴰ.symm f.order)

  -- no element has two numbers
  pub once_each : (xs : List A) → ((i j : ℕ) (x : A) → get_elem? xs i ≡ some x → get_elem? xs j ≡ some x → i ≡ j) → Nodup xs
  once_each [] once = Nodup-nil
  once_each (x ∷ xs) once = Nodup-cons.1 (away, once_each xs (λ i j y f g. let e = once (suc i) (suc j) y f g in omega arith))
    where
      away : ¬ Mem x xs
      away m = ∥∥₁_elim m ⊥_prop (λ d. let f = mem_found xs x d in let e = once 0 (suc f.0) x refl f.1 in omega arith)
