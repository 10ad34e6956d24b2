-- A finite double's exact value is its rank, so that the laws of ranks are laws of exact values. Assumes nothing.
use mathlib.Core.Path.{◌≡◌, refl, sym, ap, ◌∙◌, subst}
use Prim.Native.Nat.{ℕ, ◌<◌}
use mathlib.Core.Bool.{true, false, not}
use lib.IntN.{pos, neg_ℤ, neg_ℤ-neg_ℤ}
use lib.Dec.{T}
use lib.Pow.{pow_pos}
use lib.Ieee.{Float, nan, inf, fin, binary64, fits, is_nan, add, eq, neg}
use lib.Ieee.Fits.{add-fits}
use lib.Ieee.Scale.{finite}
use Rattle.doubles.specs.Units.{number, rank}
use Rattle.doubles.proofs.Integers.{eqZ→eq}
use Rattle.doubles.proofs.Units.{quotient_is_mag, eq_is}
use Rattle.doubles.proofs.Sums.{add_zero_rank, add_zero_finite}
use Rattle.pywr.specs.Numbers.{zero64}
use Rattle.pywr.specs.Plans.{exact, units_in_one, signed, is_finite}

pub units_pos : 0 < units_in_one
unfolding units_in_one
units_pos = pow_pos 1074

pub exact_rank : (x : Float) → T (fits binary64 x) → T (finite x) → exact x ≡ rank binary64 x
unfolding exact signed units_in_one
exact_rank nan p n = absurd n
exact_rank (inf s) p n = absurd n
exact_rank (fin true m e) p n = ap (λ (k : ℕ). neg_ℤ (pos k)) (quotient_is_mag binary64 true m e p)
exact_rank (fin false m e) p n = ap pos (quotient_is_mag binary64 false m e p)

pub finite_is : (x : Float) → is_finite x ≡ finite x
unfolding is_finite
finite_is nan = refl
finite_is (inf s) = refl
finite_is (fin s m e) = refl

-- no NaN, as the library tests it
pub number_of : (x : Float) → T (not (is_nan x)) → T (number x)
unfolding is_nan
number_of nan n = n
number_of (inf s) n = tt
number_of (fin s m e) n = tt

pub exact_neg : (x : Float) → exact (neg x) ≡ neg_ℤ (exact x)
unfolding exact neg signed
exact_neg nan = refl
exact_neg (inf s) = refl
exact_neg (fin true m e) = sym (neg_ℤ-neg_ℤ (pos _))
exact_neg (fin false m e) = refl

-- equal doubles are finite both or neither
pub eq_finite : (x y : Float) → T (eq x y) → is_finite x ≡ is_finite y
unfolding eq is_finite
eq_finite nan y h = absurd h
eq_finite (inf s) nan h = absurd h
eq_finite (inf s) (inf t) h = refl
eq_finite (inf s) (fin t n d) h = absurd h
eq_finite (fin s m e) nan h = absurd h
eq_finite (fin s m e) (inf t) h = absurd h
eq_finite (fin s m e) (fin t n d) h = refl

-- equal doubles have equal exact values
pub eq_exact : (x y : Float) → T (fits binary64 x) → T (fits binary64 y) → T (eq x y) → exact x ≡ exact y
unfolding eq exact
eq_exact nan y fx fy h = absurd h
eq_exact (inf s) nan fx fy h = absurd h
eq_exact (inf s) (inf t) fx fy h = refl
eq_exact (inf s) (fin t n d) fx fy h = absurd h
eq_exact (fin s m e) nan fx fy h = absurd h
eq_exact (fin s m e) (inf t) fx fy h = absurd h
eq_exact (fin s m e) (fin t n d) fx fy h =
    let x : Float = fin s m e in
    let y : Float = fin t n d in
    exact_rank x fx tt ∙ eqZ→eq (rank binary64 x) (rank binary64 y) (subst T (eq_is binary64 x y fx fy tt tt) h) ∙ sym (exact_rank y fy tt)

-- adding to 0.0 changes no value
pub add_zero_exact : (x : Float) → T (fits binary64 x) → T (finite x) → exact (add binary64 zero64 x) ≡ exact x
unfolding zero64
add_zero_exact x h n = exact_rank (add binary64 zero64 x) (add-fits binary64 zero64 x) (add_zero_finite binary64 x h n) ∙ add_zero_rank binary64 x h n ∙ sym (exact_rank x h n)
