-- A NaN's pattern is read as the NaN. Assumes nothing.
use Rattle.std.proofs.Common.{◌≡◌, ℕ, false, not, sym, refl, ap, ◌∙◌}
use lib.Ieee.{Float, nan, inf, fin, binary64, of_bits, is_nan}
use lib.Ieee.Bits.{nan_bits_is}
use Rattle.pywr.specs.Numbers.{is_flow, of_pattern}

only_nan : (x : Float) → not (is_nan x) ≡ false → nan ≡ x
unfolding is_nan
only_nan nan e = refl
only_nan (inf s) e = absurd (cc)
only_nan (fin s m x) e = absurd (cc)

pub nan_read : (bits : ℕ) → is_flow bits ≡ false → nan ≡ of_pattern bits
unfolding is_flow of_pattern
nan_read bits e = only_nan (of_bits binary64 bits) (ap not (sym (nan_bits_is binary64 bits)) ∙ e)
