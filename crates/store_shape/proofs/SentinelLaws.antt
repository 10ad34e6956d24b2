-- The kept sentinel by its code. Assumes nothing.
use mathlib.Core.Path.{◌≡◌, refl}
use mathlib.Core.Logic.{◌≢◌}
use Prim.Native.Nat.{ℕ, zero, suc}
use Rattle.pywr.specs.declared.Sentinel.TheVariants.{Infinity, Largest}
use Rattle.pywr.specs.Store.{sentinel_of}

pub infinite : (code : ℕ) → code ≡ 0 → Infinity ≡ sentinel_of code
unfolding sentinel_of
infinite code e = rw (e) refl

pub largest : (code : ℕ) → code ≢ 0 → Largest ≡ sentinel_of code
unfolding sentinel_of
largest zero h = absurd (h refl)
largest (suc n) h = refl
