-- A number read digit by digit: at i of the word's bytes, with the value of those before. Assumes nothing.
use Rattle.std.proofs.Common.{◌≡◌, ℕ, ◌+◌, ◌-◌, ◌*◌, ◌<◌, ◌≤◌, List, [], ◌∷◌, length, get_or, drop, drop_of_length-le, None, Some, true, false, sym, refl, arith}
use Rattle.std.proofs.lemmas.Grind.{common_steps}
use Rattle.std.specs.Char.{is_ascii_digit}
use Rattle.laws.proofs.Runs.{drop_next}
use Rattle.program_words.specs.Words.{number_from, number_in}

pub empty : (w : List ℕ) → length w ≡ 0 → None ≡ number_in w
unfolding number_in
empty [] e = refl
empty (b ∷ rest) e = absurd (omega arith)

pub begins : (w : List ℕ) → (length w ≡ 0 → ⊥) → number_in w ≡ number_from 0 w
unfolding number_in
begins [] h = absurd (h refl)
begins (b ∷ rest) h = refl

pub ends : (w : List ℕ) (value i : ℕ) → length w ≤ i → number_in w ≡ number_from value (drop i w) → Some value ≡ number_in w
unfolding number_from
ends w value i h e = rw (drop_of_length-le w h) at (sym e)

module _ (w : List ℕ) (value i : ℕ) (h : i < length w) (e : number_in w ≡ number_from value (drop i w)) where
  at_byte : number_in w ≡ number_from value (get_or w i 0 ∷ drop (i + 1) w)
  at_byte = rw (drop_next w i 0 h) at e

  pub no_digit : is_ascii_digit (get_or w i 0) ≡ false → None ≡ number_in w
  unfolding number_from
  no_digit other = rw at_byte (grind (arith, common_steps))

  pub too_large : 99999 < value → None ≡ number_in w
  unfolding number_from
  too_large over = rw at_byte (grind (arith, common_steps))

  pub goes_on : is_ascii_digit (get_or w i 0) ≡ true → value ≤ 99999 → number_in w ≡ number_from (10 * value + (get_or w i 0 - 48)) (drop (i + 1) w)
  unfolding number_from
  goes_on digit few = rw at_byte (grind (arith, common_steps))
