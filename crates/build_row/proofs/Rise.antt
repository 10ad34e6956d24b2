-- Columns that rise: how many there are, how two of them compare, and one more put in its place. Assumes nothing.
use Prim.Native.Nat.{ℕ, zero, suc, ◌+◌, ◌<◌, ◌≤◌, zero-le, suc-le-suc}
use mathlib.Core.Path.{◌≡◌, refl}
use mathlib.Core.Bool.{Bool, true, false, ◌&&◌}
use mathlib.Core.List.{List, [], ◌∷◌}
use native.Mathlib.Omega.{arith}
use native.Mathlib.Nat.{le_of_suc-le-suc}
use borrow.Author.Tests.{leb-true, ltb-true, le-leb, lt-ltb}
use lib.Dec.{leb, ltb}
use lib.ListN.{length, get_or}
use Rattle.pywr.specs.Misshapen.{columns_rise}
use Rattle.build_row.proofs.Insert.{placed}

both : (a b : Bool) → a && b ≡ true → (a ≡ true) × (b ≡ true)
both true b e = (refl, e)
both false b e = absurd (let z : ◌≡◌ {A = ℕ} 0 1 = cc in omega arith)

module _ (m : ℕ) where
  pub rise_head : (least c : ℕ) (cs : List ℕ) → columns_rise m least (c ∷ cs) ≡ true → (least ≤ c) × (c < m) × (columns_rise m (c + 1) cs ≡ true)
  unfolding columns_rise
  rise_head least c cs e =
      let outer = both (leb least c && ltb c m) (columns_rise m (c + 1) cs) e in
      let inner = both (leb least c) (ltb c m) outer.0 in
      (leb-true least c inner.0, ltb-true c m inner.1, outer.1)

  rise_more : (least c : ℕ) (cs : List ℕ) → least ≤ c → c < m → columns_rise m (c + 1) cs ≡ true → columns_rise m least (c ∷ cs) ≡ true
  unfolding columns_rise
  rise_more least c cs l u r = rw (le-leb least c l, lt-ltb c m u, r)

  -- no more columns than there are numbers for them
  pub rise_count : (least : ℕ) (cs : List ℕ) → least ≤ m → columns_rise m least cs ≡ true → least + length cs ≤ m
  rise_count least [] h e = omega arith
  rise_count least (c ∷ cs) h e =
      let r = rise_head least c cs e in
      let t = rise_count (c + 1) cs (omega arith) r.2 in
      omega arith

  rise_least : (least : ℕ) (cs : List ℕ) → columns_rise m least cs ≡ true → (k : ℕ) → k < length cs → least ≤ get_or cs k 0
  rise_least least [] e k h = absurd (omega arith)
  rise_least least (c ∷ cs) e zero h = (rise_head least c cs e).0
  rise_least least (c ∷ cs) e (suc k) h =
      let r = rise_head least c cs e in
      let t = rise_least (c + 1) cs r.2 k (le_of_suc-le-suc h) in
      omega arith

  pub rise_order : (least : ℕ) (cs : List ℕ) → columns_rise m least cs ≡ true → (j k : ℕ) → j < k → k < length cs → get_or cs j 0 < get_or cs k 0
  rise_order least [] e j k h l = absurd (omega arith)
  rise_order least (c ∷ cs) e j zero h l = absurd (omega arith)
  rise_order least (c ∷ cs) e zero (suc k) h l =
      let t = rise_least (c + 1) cs (rise_head least c cs e).2 k (le_of_suc-le-suc l) in
      omega arith
  rise_order least (c ∷ cs) e (suc j) (suc k) h l = rise_order (c + 1) cs (rise_head least c cs e).2 j k (le_of_suc-le-suc h) (le_of_suc-le-suc l)

  pub rise_placed : (c least : ℕ) (cs : List ℕ) (p : ℕ) → least ≤ c → c < m → columns_rise m least cs ≡ true
      → p ≤ length cs → ((k : ℕ) → k < p → get_or cs k 0 < c) → (p < length cs → c < get_or cs p 0)
      → columns_rise m least (placed p c cs) ≡ true
  unfolding columns_rise
  rise_placed c least [] zero l u e w under over = rise_more least c [] l u refl
  rise_placed c least [] (suc p) l u e w under over = absurd (omega arith)
  rise_placed c least (d ∷ cs) zero l u e w under over =
      let r = rise_head least d cs e in
      let o = over (suc-le-suc zero-le) in
      rise_more least c (d ∷ cs) l u (rise_more (c + 1) d cs (omega arith) r.1 r.2)
  rise_placed c least (d ∷ cs) (suc p) l u e w under over =
      let r = rise_head least d cs e in
      let o = under 0 (suc-le-suc zero-le) in
      rise_more least d (placed p c cs) r.0 r.1
      (rise_placed c (d + 1) cs p (omega arith) u r.2 (le_of_suc-le-suc w) (λ k h. under (suc k) (suc-le-suc h)) (λ h. over (suc-le-suc h)))
