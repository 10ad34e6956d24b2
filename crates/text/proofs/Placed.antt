-- A text that was put is put by any other name of it. Assumes nothing.
use Rattle.std.proofs.Common.{◌≡◌, ℕ, List, subst}
use Rattle.text.specs.Text.{Put}

pub put_as : {text text' out out' : List ℕ} {at r : ℕ} → text ≡ text' → Put text out at out' r → Put text' out at out' r
put_as {text} {text'} {out} {out'} {at} {r} e p = subst (λ (t : List ℕ). Put t out at out' r) e p
