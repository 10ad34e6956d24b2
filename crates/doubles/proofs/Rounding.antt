-- `round` in units: its sign is the one that it is handed, its magnitude is `snap` of the fraction, whatever the sign. `snap` keeps the order, sees only the
-- fraction's value, and leaves a number of units that the format holds as it is. A sum is the exact sum of the two ranks, rounded. Assumes nothing.
use mathlib.Core.Path.{◌≡◌, refl, sym, ap, ap₂, ◌∙◌, subst}
use Prim.Native.Nat.{ℕ, zero, suc, ◌+◌, ◌-◌, ◌*◌, ◌^◌, ◌≤◌, ◌<◌}
use native.Mathlib.Nat.{mul_comm, mul-sub, mul-pos, eq_of_mul-eq-mul_right, zero-mul}
use native.Mathlib.Omega.{arith}
use mathlib.Core.Bool.{Bool, true, false, not, ◌&&◌, beq, cond}
use lib.IntN.{pos, neg_ℤ, ◌+ℤ◌, neg_ℤ-+ℤ}
use lib.Dec.{T, ltb, leb→le, ltb→lt}
use lib.Signed.{le_z}
use lib.Pow.{pow_pos}
use lib.Ieee.{Float, nan, inf, fin, Format, prec, emax, low, up, down, odd, units, round, sum, add, neg, fits}
use lib.Ieee.Fits.{round_is, round-fits, down_pos}
use lib.Ieee.Exact.{HasValue, round_exact, units_val}
use lib.Ieee.Order.{round_mono, kept, drop}
use lib.Ieee.Scale.{round_same, finite, overflow, grid}
use Rattle.laws.proofs.Tests.{tests, ap_cond, cond_both, cond_yes, cond_no}
use Rattle.doubles.specs.Units.{sign, mag, signed, number, Num, rank, shift}
use Rattle.doubles.specs.Rounding.{snap, Representable, Rounds, add_sign, add_mag}
use Rattle.doubles.proofs.Integers.{ints, sum_is, neg_plus, neg_less}
use Rattle.doubles.proofs.Units.{mag_is, mag_under, inf_mag, digits_fit, side, other_side, unit_lt, unit_sum}
use Rattle.doubles.proofs.Order.{le→Z}

-- ---- the sign of what is rounded
abbrev Has : Bool → Float → Type 0
Has s nan = ⊥
Has s (inf t) = t ≡ s
Has s (fin t m e) = t ≡ s

odd_has : (d : ℕ) (s : Bool) (q k l : ℕ) → Has s (odd d s q k l)
unfolding odd
odd_has d s zero k l = refl
odd_has d s (suc q) k l = refl

units_has : (f : Format) (s : Bool) (q k : ℕ) → Has s (units f s q k)
unfolding units
units_has f s q k = cond_both (Has s) (ltb (q * 2 ^ k) (overflow f)) (odd (suc (prec f)) s q k (low f)) (inf s) (λ t. odd_has (suc (prec f)) s q k (low f)) (λ t. refl)

round_has : (f : Format) (s : Bool) (a c : ℕ) → Has s (round f s a c)
round_has f s a c = subst (Has s) (sym (round_is f s a c)) (units_has f s (kept (prec f) (a * 2 ^ low f) c) (drop (prec f) (a * 2 ^ low f) c))

has_sign : (s : Bool) (x : Float) → Has s x → sign x ≡ s
has_sign s nan h = absurd h
has_sign s (inf t) h = h
has_sign s (fin t m e) h = h

has_number : (s : Bool) (x : Float) → Has s x → T (number x)
has_number s nan h = h
has_number s (inf t) h = tt
has_number s (fin t m e) h = tt

pub round_sign : (f : Format) (s : Bool) (a c : ℕ) → sign (round f s a c) ≡ s
round_sign f s a c = has_sign s (round f s a c) (round_has f s a c)

pub round_num : (f : Format) (s : Bool) (a c : ℕ) → Num f (round f s a c)
round_num f s a c = (round-fits f s a c, has_number s (round f s a c) (round_has f s a c))

-- ---- its magnitude
-- x is w units in size
pub value_mag : (f : Format) (x : Float) (s : Bool) (w : ℕ) → T (fits f x) → HasValue x s w (2 ^ low f) → T (finite x) × (mag f x ≡ w)
value_mag f nan s w t v = absurd v
value_mag f (inf u) s w t v = absurd v
value_mag f (fin u m e) s w t v = (tt, eq_of_mul-eq-mul_right (down e) (down_pos e) (mag f (fin u m e)) w (sym (mag_is f u m e t) ∙ v.1))

-- an infinity's from `overflow` units on
abbrev cap : Format → ℕ → ℕ
cap f w = cond (ltb w (overflow f)) w (overflow f)

units_over : (f : Format) (s : Bool) (q k : ℕ) → T (not (ltb (q * 2 ^ k) (overflow f))) → units f s q k ≡ inf s
unfolding units
units_over f s q k t = cond_no (ltb (q * 2 ^ k) (overflow f)) (odd (suc (prec f)) s q k (low f)) (inf s) t

round_mag : (f : Format) (s : Bool) (a c : ℕ) → mag f (round f s a c) ≡ cap f (grid f a c)
round_mag f s a c =
    cond_both (λ (w : ℕ). mag f (round f s a c) ≡ w) (ltb (grid f a c) (overflow f)) (grid f a c) (overflow f)
    (λ t.
    (value_mag f (round f s a c) s (grid f a c) (round-fits f s a c)
    (rw (round_is f s a c) (units_val f s (kept (prec f) (a * 2 ^ low f) c) (drop (prec f) (a * 2 ^ low f) c) (ltb→lt (grid f a c) (overflow f) t)))).1)
    (λ t. ap (mag f) (round_is f s a c ∙ units_over f s (kept (prec f) (a * 2 ^ low f) c) (drop (prec f) (a * 2 ^ low f) c) t) ∙ inf_mag f s)

pub snap_is : (f : Format) (s : Bool) (a c : ℕ) → mag f (round f s a c) ≡ snap f a c
unfolding snap
snap_is f s a c = round_mag f s a c ∙ sym (round_mag f false a c)

-- below the infinities it is the library's multiple of a power of two
pub snap_grid : (f : Format) (a c : ℕ) → grid f a c < overflow f → snap f a c ≡ grid f a c
unfolding snap
snap_grid f a c h = round_mag f false a c ∙ cond_yes (ltb (grid f a c) (overflow f)) (grid f a c) (overflow f) (omega tests)

pub snap_same : (f : Format) (a b c d : ℕ) → 0 < b → 0 < d → a * d ≡ c * b → snap f a b ≡ snap f c d
unfolding snap
snap_same f a b c d B D e = ap (mag f) (round_same f false a b c d B D e)

pub snap_mono : (f : Format) (a b c d : ℕ) → 0 < b → 0 < d → a * d ≤ c * b → snap f a b ≤ snap f c d
unfolding snap
snap_mono f a b c d B D h =
    leb→le (mag f (round f false a b)) (mag f (round f false c d))
    (subst T (ap₂ (λ (u v : Bool). le_z (signed u (mag f (round f false a b))) (signed v (mag f (round f false c d)))) (round_sign f false a b) (round_sign f false c d))
    (le→Z f (round f false a b) (round f false c d) (round_num f false a b) (round_num f false c d) (round_mono f a b c d B D h)))

-- ---- a number of units that the format holds

-- every finite value of the format is one
pub mag_held : (f : Format) (x : Float) → T (fits f x) → T (finite x) → Representable f (mag f x)
mag_held f nan t u = absurd u
mag_held f (inf s) t u = absurd u
mag_held f (fin s m e) t u = record { q = m; j = shift f e; few = digits_fit f s m e t; is = unfold mag in refl; under = mag_under f (fin s m e) t u }

pub round_held : (f : Format) (s : Bool) (w : ℕ) → Representable f w → Rounds f s w (round f s w (2 ^ low f))
round_held f s w h =
    let v = value_mag f (round f s w (2 ^ low f)) s w (round-fits f s w (2 ^ low f))
    (round_exact f s w (2 ^ low f) h.q h.j (pow_pos (low f)) h.few (subst (λ (z : ℕ). z < overflow f) h.is h.under) (ap (λ (z : ℕ). z * 2 ^ low f) h.is)) in
    record { fit = round-fits f s w (2 ^ low f); is_finite = v.0; sign_is = round_sign f s w (2 ^ low f); mag_given = v.1 }

-- ---- a sum of two finite values, by their signs and magnitudes
three : (f : Format) (u v : Bool) (s t r : Bool) (l m n L : ℕ) (x y z : Float) → x ≡ round f s l L → y ≡ round f t m L → z ≡ round f r n L
    → cond u x (cond v y z) ≡ round f (cond u s (cond v t r)) (cond u l (cond v m n)) L
three f true v s t r l m n L x y z p q e = p
three f false true s t r l m n L x y z p q e = q
three f false false s t r l m n L x y z p q e = e

unit_sub : (x y a b L K : ℕ) → x * L ≡ a * K → y * L ≡ b * K → (x - y) * L ≡ (a - b) * K
unit_sub x y a b L K p q = mul_comm (x - y) L ∙ mul-sub L x y ∙ ap₂ (λ (u v : ℕ). u - v) (mul_comm L x ∙ p ∙ mul_comm a K) (mul_comm L y ∙ q ∙ mul_comm b K) ∙ sym (mul-sub K a b) ∙ mul_comm K (a - b)

sum_units : (f : Format) (s : Bool) (A : ℕ) (t : Bool) (B C a b : ℕ) → 0 < C → A * 2 ^ low f ≡ a * C → B * 2 ^ low f ≡ b * C
    → sum f s A t B C ≡ round f (add_sign s a t b) (add_mag s a t b) (2 ^ low f)
unfolding sum
sum_units f s A t B C a b Cp p q =
    let L = 2 ^ low f in
    let Lp = pow_pos (low f) in
    ap₂ (λ (u v : Bool). cond (beq s t) (round f s (A + B) C) (cond u (round f t (B - A) C) (round f (s && v) (A - B) C))) (unit_lt A B a b L C Lp Cp p q) (unit_lt B A b a L C Lp Cp q p)
    ∙ three f (beq s t) (ltb a b) s t (s && ltb b a) (a + b) (b - a) (a - b) L (round f s (A + B) C) (round f t (B - A) C) (round f (s && ltb b a) (A - B) C)
    (round_same f s (A + B) C (a + b) L Cp Lp (unit_sum A B a b L C Lp Cp p q))
    (round_same f t (B - A) C (b - a) L Cp Lp (unit_sub B A b a L C q p))
    (round_same f (s && ltb b a) (A - B) C (a - b) L Cp Lp (unit_sub A B a b L C p q))

pub add_is : (f : Format) (x y : Float) → T (fits f x) → T (fits f y) → T (finite x) → T (finite y)
    → add f x y ≡ round f (add_sign (sign x) (mag f x) (sign y) (mag f y)) (add_mag (sign x) (mag f x) (sign y) (mag f y)) (2 ^ low f)
unfolding add
add_is f nan y p q n k = absurd n
add_is f (inf s) y p q n k = absurd n
add_is f (fin s m e) nan p q n k = absurd k
add_is f (fin s m e) (inf t) p q n k = absurd k
add_is f (fin s m e) (fin t n d) p q _ _ =
    sum_units f s (m * up e * down d) t (n * up d * down e) (down e * down d) (mag f (fin s m e)) (mag f (fin t n d)) (mul-pos (down_pos e) (down_pos d)) (side f s m e d p) (other_side f t n d e q)

-- that is the sum of the ranks
pub add_signed : (s : Bool) (a : ℕ) (t : Bool) (b : ℕ) → signed (add_sign s a t b) (add_mag s a t b) ≡ signed s a +ℤ signed t b
add_signed false a false b = refl
add_signed true a true b = neg_ℤ-+ℤ (pos a) (pos b)
add_signed false a true b = go (ltb a b) (λ t. omega tests) (λ t. omega tests)
  where
    go : (c : Bool) → (T c → a < b) → (T (not c) → b ≤ a) → signed (cond c true false) (cond c (b - a) (a - b)) ≡ pos a +ℤ neg_ℤ (pos b)
    go true h k = let l = h tt in omega (ints, sum_is (pos a) (neg_ℤ (pos b)), neg_plus (pos b), neg_less (pos b), neg_plus (pos (b - a)), neg_less (pos (b - a)))
    go false h k = let l = k tt in omega (ints, sum_is (pos a) (neg_ℤ (pos b)), neg_plus (pos b), neg_less (pos b))
add_signed true a false b = go (ltb a b) (ltb b a) (λ t. omega tests) (λ t. omega tests) (λ t. omega tests)
  where
    go : (c d : Bool) → (T c → a < b) → (T (not c) → b ≤ a) → (T (not d) → a ≤ b) → signed (cond c false d) (cond c (b - a) (a - b)) ≡ neg_ℤ (pos a) +ℤ pos b
    go true d h k l = let m = h tt in omega (ints, sum_is (neg_ℤ (pos a)) (pos b), neg_plus (pos a), neg_less (pos a))
    go false true h k l = let m = k tt in omega (ints, sum_is (neg_ℤ (pos a)) (pos b), neg_plus (pos a), neg_less (pos a), neg_plus (pos (a - b)), neg_less (pos (a - b)))
    go false false h k l = let m = k tt in let n = l tt in omega (ints, sum_is (neg_ℤ (pos a)) (pos b), neg_plus (pos a), neg_less (pos a))

pub add_mag_le : (s : Bool) (a : ℕ) (t : Bool) (b : ℕ) → add_mag s a t b ≤ a + b
add_mag_le s a t b =
    cond_both (λ (w : ℕ). w ≤ a + b) (beq s t) (a + b) (cond (ltb a b) (b - a) (a - b)) (λ u. omega arith)
    (λ u. cond_both (λ (w : ℕ). w ≤ a + b) (ltb a b) (b - a) (a - b) (λ v. omega arith) (λ v. omega arith))

-- ---- an exact sum
pub add_exact : (f : Format) (x y : Float) → T (fits f x) → T (fits f y) → T (finite x) → T (finite y) → Representable f (add_mag (sign x) (mag f x) (sign y) (mag f y))
    → Rounds f (add_sign (sign x) (mag f x) (sign y) (mag f y)) (add_mag (sign x) (mag f x) (sign y) (mag f y)) (add f x y)
add_exact f x y p q n k h = subst (Rounds f (add_sign (sign x) (mag f x) (sign y) (mag f y)) (add_mag (sign x) (mag f x) (sign y) (mag f y)))
    (sym (add_is f x y p q n k)) (round_held f (add_sign (sign x) (mag f x) (sign y) (mag f y)) (add_mag (sign x) (mag f x) (sign y) (mag f y)) h)

pub add_rank : (f : Format) (x y : Float) → T (fits f x) → T (fits f y) → T (finite x) → T (finite y)
    → Representable f (add_mag (sign x) (mag f x) (sign y) (mag f y)) → rank f (add f x y) ≡ rank f x +ℤ rank f y
add_rank f x y p q n k h =
    let r = add_exact f x y p q n k h in
    ap₂ (λ (u : Bool) (w : ℕ). signed u w) r.sign_is r.mag_given ∙ add_signed (sign x) (mag f x) (sign y) (mag f y)

-- ---- the sign goes through
odd_neg : (d : ℕ) (s : Bool) (q k l : ℕ) → neg (odd d s q k l) ≡ odd d (not s) q k l
unfolding odd neg
odd_neg d s zero k l = refl
odd_neg d s (suc q) k l = refl

units_neg : (f : Format) (s : Bool) (q k : ℕ) → neg (units f s q k) ≡ units f (not s) q k
unfolding units
units_neg f s q k =
    ap_cond neg (ltb (q * 2 ^ k) (overflow f)) (odd (suc (prec f)) s q k (low f)) (inf s)
    ∙ ap₂ (λ (x y : Float). cond (ltb (q * 2 ^ k) (overflow f)) x y) (odd_neg (suc (prec f)) s q k (low f)) (inf_neg s)
  where
    inf_neg : (s : Bool) → neg (inf s) ≡ inf (not s)
    inf_neg s = unfold neg in refl

pub round_neg : (f : Format) (s : Bool) (a c : ℕ) → neg (round f s a c) ≡ round f (not s) a c
round_neg f s a c = ap neg (round_is f s a c) ∙ units_neg f s (kept (prec f) (a * 2 ^ low f) c) (drop (prec f) (a * 2 ^ low f) c) ∙ sym (round_is f (not s) a c)

pub round_rank : (f : Format) (s : Bool) (a c : ℕ) → rank f (round f s a c) ≡ signed s (snap f a c)
round_rank f s a c = ap₂ (λ (u : Bool) (w : ℕ). signed u w) (round_sign f s a c) (snap_is f s a c)

pub snap_zero : (f : Format) (c : ℕ) → 0 < c → snap f 0 c ≡ 0
unfolding snap
snap_zero f c C =
    let L = 2 ^ low f in
    let h : Representable f 0 = record { q = 0; j = 0; few = pow_pos (prec f); is = refl; under = pow_pos (low f + suc (emax f)) } in
    ap (mag f) (round_same f false 0 c 0 L C (pow_pos (low f)) (zero-mul L ∙ sym (zero-mul c))) ∙ (round_held f false 0 h).mag_given
