-- The earlier edges, each compared by its two ends as one number. Assumes nothing.
use Rattle.std.proofs.Common.{◌≡◌, ℕ, zero, suc, ◌+◌, ◌*◌, ◌<◌, List, Bool, true, false, ◌&&◌, ◌||◌, eqb, refl, sym, ap, ◌∙◌, arith, eq-eqb, eqb-true}
use Rattle.pywr.specs.Bytes.{byte, le16, le32}
use Rattle.network_edge.specs.Edge.{pair_among}

-- two numbers compared as one
split : (x y from to : ℕ) → x < 65536 → from < 65536 → x + 65536 * y ≡ from + 65536 * to → (x ≡ from) × (y ≡ to)
split x y from to h k e = (omega arith, omega arith)

differ : (x y from to : ℕ) → (x + 65536 * y ≡ from + 65536 * to → ⊥) → (eqb x from && eqb y to) ≡ false
differ x y from to ne = cases (eqb x from) (eqb y to) refl refl
  where
    cases : (a b : Bool) → eqb x from ≡ a → eqb y to ≡ b → (eqb x from && eqb y to) ≡ false
    cases false b e f = rw e
    cases true false e f = rw (e, f)
    cases true true e f = let p = eqb-true x from e in let q = eqb-true y to f in absurd (ne (omega (arith, p, q)))

or_true : (b : Bool) → (b || true) ≡ true
or_true true = refl
or_true false = refl

module _ (file : List ℕ) (from to : ℕ) where
  both : (at : ℕ) → le32 file (at + 2) ≡ le16 file (at + 2) + 65536 * le16 file (at + 4)
  both at = ap (λ (k : ℕ). le16 file (at + 2) + 65536 * le16 file k) (let q : at + 2 + 2 ≡ at + 4 = omega arith in q)

  -- edge k of them has these ends
  pub pair_found : ((i : ℕ) → byte file i < 256) → from < 65536 → (count at k : ℕ) → k < count → le32 file (at + 6 * k + 2) ≡ from + 65536 * to → pair_among file count at from to ≡ true
  unfolding pair_among
  pair_found fits h zero at k lt e = absurd (omega arith)
  pair_found fits h (suc count) at zero lt e =
      let b : at + 6 * 0 + 2 ≡ at + 2 = omega arith in
      let low : le16 file (at + 2) < 65536 = omega (arith, fits (at + 2), fits (at + 2 + 1)) in
      let q = split (le16 file (at + 2)) (le16 file (at + 4)) from to low h (sym (both at) ∙ ap (le32 file) (sym b) ∙ e) in
      rw (eq-eqb _ _ q.0, eq-eqb _ _ q.1)
  pair_found fits h (suc count) at (suc k) lt e =
      let b : at + 6 * suc k + 2 ≡ at + 6 + 6 * k + 2 = omega arith in
      rw (pair_found fits h count (at + 6) k (omega arith) (ap (le32 file) (sym b) ∙ e)) (or_true _)

  -- none of them has
  pub pair_nowhere : (count at : ℕ) → ((k : ℕ) → k < count → le32 file (at + 6 * k + 2) ≡ from + 65536 * to → ⊥) → pair_among file count at from to ≡ false
  unfolding pair_among
  pair_nowhere zero at none = refl
  pair_nowhere (suc count) at none =
      let here : le32 file (at + 2) ≡ from + 65536 * to → ⊥ =
      λ q. none 0 (omega arith) (ap (le32 file) (let b : at + 6 * 0 + 2 ≡ at + 2 = omega arith in b) ∙ q) in
      rw (
        differ (le16 file (at + 2)) (le16 file (at + 4)) from to (λ q. here (both at ∙ q)),
        pair_nowhere count (at + 6) (λ k lt q. none (suc k) (omega arith) (ap (le32 file) (let b : at + 6 * suc k + 2 ≡ at + 6 + 6 * k + 2 = omega arith in b) ∙ q)),
      )
