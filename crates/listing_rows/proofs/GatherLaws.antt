-- A text gathered in a buffer that goes to a writer where it is full. Assumes nothing.
use Prim.Native.Nat.{ℕ}
use mathlib.Core.Path.{◌≡◌, refl, sym, ◌∙◌, ap, subst}
use mathlib.Core.List.{List, [], ◌++◌, append-nil}
use native.Mathlib.Omega.{arith}
use lib.ListN.{take}
use Rattle.std.specs.Prelude.{Option, None, Some, Result, Ok, Err, OnOk, IsErr, is_err}
use Rattle.std.specs.Io.KnownBytes.{Appends, append_known}
use Rattle.std.proofs.KnownBytes.{Keeps-refl, Appends-nil, Appends-trans, append_known-grown}
use Rattle.text.specs.Text.{Put}
use Rattle.listing_rows.specs.Rows.{Gathers}

module _ {a : Option (List ℕ)} {xs : List ℕ} where
  pub gathers_none : Gathers a xs a xs []
  gathers_none = record { known = Appends-nil (append_known a xs) }

  pub gathers_then : {b c : Option (List ℕ)} {ys zs before text : List ℕ} → Gathers a xs b ys before → Gathers b ys c zs text → Gathers a xs c zs (before ++ text)
  gathers_then g h = record { known = Appends-trans _ _ _ _ _ g.known h.known }

  pub gathers_as : {b : Option (List ℕ)} {ys text text' : List ℕ} → text ≡ text' → Gathers a xs b ys text → Gathers a xs b ys text'
  gathers_as {b} {ys} e g = subst (λ t. Gathers a xs b ys t) e g

pub gathers_put : {a : Option (List ℕ)} {line out out' : List ℕ} {at r : ℕ} → Put line out at out' r → Gathers a (take at out) a (take r out') line
gathers_put {a} {line} {out} {out'} {at} {r} p = record { known = append_known-grown (append_known a (take at out)) a (take at out) (take r out') line (Keeps-refl _) p.written }

-- nothing, and then a line behind the text
pub gathers_line : {a b c : Option (List ℕ)} {xs ys before line out out' : List ℕ} {at r : ℕ} → Gathers a xs b ys before → Gathers b ys c (take at out) [] → Put line out at out' r
    → Gathers a xs c (take r out') (before ++ line)
gathers_line {before = before} {line = line} g h put = gathers_as (ap (λ l. l ++ line) (append-nil before)) (gathers_then (gathers_then g h) (gathers_put put))

pub gathers_nothing : {a b c : Option (List ℕ)} {xs ys zs before : List ℕ} → Gathers a xs b ys before → Gathers b ys c zs [] → Gathers a xs c zs before
gathers_nothing {before = before} g h = gathers_as (append-nil before) (gathers_then g h)

-- what was gathered from an empty buffer went out whole
pub gathered : (a b c : Option (List ℕ)) (xs text : List ℕ) → Gathers a [] b xs text → Appends b c xs → Appends a c text
gathered None b c xs text g h = tt
gathered (Some x) None c xs text g h = absurd g.known
gathered (Some x) (Some y) None xs text g h = absurd h
gathered (Some x) (Some y) (Some z) xs text g h = h ∙ g.known ∙ ap (λ l. l ++ text) (append-nil x)

-- ---- results of writes: a failure stays, and where a later one succeeded, so did the ones before

module _ {E Q R : Type 0} where
  pub after : (w : Result (Unit {0}) E) → OnOk w Q → (Q → R) → OnOk w R
  after (Ok x) q g = g q
  after (Err e) q g = tt

module _ {E : Type 0} where
  pub always : {P : Type 0} (w : Result (Unit {0}) E) → P → OnOk w P
  always (Ok x) p = p
  always (Err e) p = tt

  pub fails_on : (w w' w'' : Result (Unit {0}) E) → (IsErr w → w' ≡ w) → (IsErr w' → w'' ≡ w') → IsErr w → w'' ≡ w
  fails_on w w' w'' p q f = q (subst IsErr (sym (p f)) f) ∙ p f

  pub both : {P Q R : Type 0} (w w' : Result (Unit {0}) E) → (IsErr w → w' ≡ w) → OnOk w P → OnOk w' Q → (P → Q → R) → OnOk w' R
  both (Ok x) (Ok y) f p q g = g p q
  both {R = R} (Err e) (Ok y) f p q g = absurd (no (f refl))
    where
      no : Ok y ≡ Err e → ⊥
      no h = let z = ap is_err h in absurd (grind (arith, z))
  both (Ok x) (Err e) f p q g = tt
  both (Err d) (Err e) f p q g = tt
