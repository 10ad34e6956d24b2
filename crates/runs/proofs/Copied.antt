-- A loop that writes the list xs into a run from place `to` on, at any element type. Assumes nothing.
use Prim.Native.Nat.{ℕ, ◌+◌, ◌<◌, ◌≤◌}
use mathlib.Core.Path.{◌≡◌, refl, ◌∙◌, ap}
use mathlib.Core.List.{List}
use native.Mathlib.Omega.{arith}
use lib.ListN.{length, get_or, take, set, replicate, length-set, length-replicate}
use lib.Seq.{sets}
use lib.Ieee.{binary64, of_bits}
use Rattle.laws.proofs.Sets.{sets_next, take_whole, sets_whole}
use Rattle.pywr.specs.Numbers.{zero64}

module _ {A : Type 0} where
  -- the first i elements of xs are written
  pub record Copied (xs d₀ : List A) (to n : ℕ) (d : List A) (i : ℕ) : Type 0 where
    pub whole_length : length xs ≡ n
    pub few : i ≤ n
    pub run : d ≡ sets d₀ to (take i xs)
    pub long : length d ≡ length d₀

  pub none : (xs d₀ : List A) (to n : ℕ) → length xs ≡ n → Copied xs d₀ to n d₀ 0
  none xs d₀ to n e = record { whole_length = e; few = omega arith; run = refl; long = refl }

  pub more : (xs d₀ : List A) (to n : ℕ) (d : List A) (i : ℕ) (v z : A) → i < n → get_or xs i z ≡ v → Copied xs d₀ to n d i → Copied xs d₀ to n (set d (to + i) v) (i + 1)
  more xs d₀ to n d i v z lt g c =
      record {
        whole_length = c.whole_length;
        few = omega arith;
        run = sets_next d d₀ xs to i v z (omega (arith, c.whole_length)) g c.run;
        long = length-set d (to + i) v ∙ c.long;
      }

  pub all : (xs d₀ : List A) (to n : ℕ) (d : List A) (i : ℕ) → n ≤ i → Copied xs d₀ to n d i → d ≡ sets d₀ to xs
  all xs d₀ to n d i le c = c.run ∙ ap (sets d₀ to) (take_whole xs n i c.whole_length le)

  -- a run that is filled over its whole length
  pub filled : (w : List A) (v : A) → sets w 0 (replicate (length w) v) ≡ replicate (length w) v
  filled w v = sets_whole w (replicate (length w) v) (length-replicate (length w) v)

-- a run of the literal 0.0
pub zeros : (n : ℕ) → replicate n (of_bits binary64 0) ≡ replicate n zero64
unfolding of_bits zero64
zeros n = refl
