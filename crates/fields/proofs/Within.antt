-- What a field that was read tells: it lies within the file, and its value passed. Assumes nothing.
use Rattle.std.proofs.Common.{◌≡◌, ℕ, zero, suc, eqb, ◌+◌, ◌<◌, ◌≤◌, Bool, true, false, cond, ◌&&◌, List, length, sym, refl, subst, arith, ltb-true, leb-true}
use Rattle.pywr.specs.Bytes.{byte, le16, le32, le64}
use Rattle.pywr.specs.Numbers.{is_small}
use Rattle.pywr.specs.NetworkFile.{between}
use Rattle.fields.specs.Field.{flag, byte_field, node_field, active_field, check_factor, check_then}
use Rattle.std.specs.Prelude.{Result, Ok, Err}
use Rattle.pywr.specs.declared.Refusal.{Refusal}

and-true : (a b : Bool) → (a && b) ≡ true → (a ≡ true) × (b ≡ true)
and-true true b e = (refl, e)
and-true false b e = absurd (let z : ◌≡◌ {A = ℕ} 0 1 = cc in omega arith)

pub ok_same : {A : Type 0} {x y : A} → ◌≡◌ {A = Result A Refusal} (Ok x) (Ok y) → x ≡ y
ok_same e = cc

-- a byte that is a flag
pub flag_byte : (x : ℕ) → x ≤ 1 → flag (eqb x 1) ≡ x
flag_byte zero h = refl
flag_byte (suc zero) h = refl
flag_byte (suc (suc x)) h = absurd (omega arith)

-- an answer behind a test
pub ok_tested : {A : Type 0} (b : Bool) (f : Result A Refusal) (r : Refusal) (y : A) → cond b f (Err r) ≡ Ok y → (b ≡ true) × (f ≡ Ok y)
ok_tested true f r y e = (refl, e)
ok_tested false f r y e = absurd (cc)

-- the refusal where the test holds
pub ok_unless : {A : Type 0} (b : Bool) (r : Refusal) (f : Result A Refusal) (y : A) → cond b (Err r) f ≡ Ok y → (b ≡ false) × (f ≡ Ok y)
ok_unless true r f y e = absurd (cc)
ok_unless false r f y e = (refl, e)

-- the parts of a check that passed
pub check_next : {A B : Type 0} (f : Result A Refusal) (S : A → Result B Refusal) (x : B) → check_then f S ≡ Ok x → (y : A) × (f ≡ Ok y) × (S y ≡ Ok x)
check_next (Ok y) S x e = (y, refl, e)
check_next (Err r) S x e = absurd (cc)

module _ (file : List ℕ) (place at : ℕ) where
  pub byte_within : (least most x : ℕ) → byte_field file place at least most ≡ Ok x → (at + 1 ≤ length file) × (x ≡ byte file at) × (least ≤ x) × (x ≤ most)
  unfolding byte_field between
  byte_within least most x e =
      let t = ok_tested _ _ _ _ e in
      let u = ok_tested _ _ _ _ t.1 in
      let v = and-true _ _ u.0 in
      let q : byte file at ≡ x = ok_same u.1 in
      (leb-true _ _ t.0, sym q, subst (λ (z : ℕ). least ≤ z) q (leb-true _ _ v.0), subst (λ (z : ℕ). z ≤ most) q (leb-true _ _ v.1))

  pub node_within : (nodes x : ℕ) → node_field file place at nodes ≡ Ok x → (at + 2 ≤ length file) × (x ≡ le16 file at) × (x < nodes)
  unfolding node_field
  node_within nodes x e =
      let t = ok_tested _ _ _ _ e in
      let u = ok_tested _ _ _ _ t.1 in
      let q : le16 file at ≡ x = ok_same u.1 in
      (leb-true _ _ t.0, sym q, subst (λ (z : ℕ). z < nodes) q (ltb-true _ _ u.0))

  pub active_within : (kind least x : ℕ) → active_field file place at kind least ≡ Ok x → (at + 4 ≤ length file) × (x ≡ le32 file at)
  unfolding active_field
  active_within kind least x e =
      let t = ok_tested _ _ _ _ e in
      let u = ok_tested _ _ _ _ t.1 in
      let q : le32 file at ≡ x = ok_same u.1 in
      (leb-true _ _ t.0, sym q)

  pub factor_within : (next : ℕ) → check_factor file place at ≡ Ok next → (at + 8 ≤ length file) × (is_small (le64 file at) ≡ true)
  unfolding check_factor
  factor_within next e =
      let t = ok_tested _ _ _ _ e in
      let u = ok_tested _ _ _ _ t.1 in
      (leb-true _ _ t.0, u.0)
