-- As many numbers as have a place of their own each. Assumes nothing.
use mathlib.Core.Path.{◌≡◌, sym, ◌∙◌}
use mathlib.Core.Logic.{◌≢◌}
use Prim.Native.Nat.{ℕ, zero, suc, ◌<◌, ◌≤◌, zero-le}
use native.Mathlib.Nat.{not-suc-le-zero}
use native.Mathlib.Decide.{ℕ_discrete}
use native.Mathlib.Omega.{arith}

-- where each number under m is given one under n, and no two the same, m is at most n
pub pigeonhole : (m n : ℕ) (f : ℕ → ℕ) → ((k : ℕ) → k < m → f k < n) → ((k l : ℕ) → k < m → l < m → f k ≡ f l → k ≡ l) → m ≤ n
pigeonhole zero n f inside apart = zero-le
pigeonhole (suc m) zero f inside apart = absurd (not-suc-le-zero (inside 0 (omega arith)))
pigeonhole (suc m) (suc n) f inside apart =
    let few = pigeonhole m n given given_inside given_apart in omega arith
  where
    -- the last one's place goes to whoever has place n
    instead : (k : ℕ) → Dec (f k ≡ n) → ℕ
    instead k (yes q) = f m
    instead k (no q) = f k

    given : ℕ → ℕ
    given k = instead k (ℕ_discrete (f k) n)

    not_last : (k : ℕ) → k < m → f k ≢ f m
    not_last k h q = let e = apart k m (omega arith) (omega arith) q in omega arith

    given_inside : (k : ℕ) → k < m → given k < n
    given_inside k h = go (ℕ_discrete (f k) n)
      where
        go : (d : Dec (f k ≡ n)) → instead k d < n
        go (yes q) = let i = inside m (omega arith) in let w : f m ≢ n = (λ e. not_last k h (q ∙ sym e)) in omega arith
        go (no q) = let i = inside k (omega arith) in let w : f k ≢ n = q in omega arith

    given_apart : (k l : ℕ) → k < m → l < m → given k ≡ given l → k ≡ l
    given_apart k l h i = go (ℕ_discrete (f k) n) (ℕ_discrete (f l) n)
      where
        go : (d : Dec (f k ≡ n)) (e : Dec (f l ≡ n)) → instead k d ≡ instead l e → k ≡ l
        go (yes p) (yes q) e = apart k l (omega arith) (omega arith) (p ∙ sym q)
        go (yes p) (no q) e = absurd (not_last l i (sym e))
        go (no p) (yes q) e = absurd (not_last k h e)
        go (no p) (no q) e = apart k l (omega arith) (omega arith) e
