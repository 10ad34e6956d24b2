-- The binary rows after a step: bounds 0 and the high sentinel, and on a shared row the smallest of the step's coefficients, so that they are met exactly if
-- each node row's own coefficient would have its row met. Assumes nothing.
use mathlib.Core.Path.{◌≡◌, refl, sym, ap, ap₂, ◌∙◌, subst}
use mathlib.Core.Logic.{◌⊎◌, inl, inr, ◌↔◌}
use Prim.Native.Nat.{ℕ, zero, suc, ◌+◌, ◌<◌, suc-le-suc, zero-le}
use native.Mathlib.Decide.{ℕ_discrete}
use mathlib.Core.Bool.{Bool, true, false, cond, not}
use mathlib.Core.List.Memᴰ
use mathlib.Core.List.{List, [], ◌∷◌, map, Memᴰ}
use mathlib.Core.Option.{Option, some}
use lib.ListN.{length, get_elem?}
use lib.IntN.{ℤ, pos, ◌+ℤ◌, ◌*ℤ◌, *ℤ_comm, *ℤ-zero, +ℤ_idl}
use lib.Signed.{le_z}
use lib.Dec.{T, T_not, eqb, eqb_refl}
use lib.Ieee.{Float, binary64, lt, le}
use Rattle.laws.proofs.Tests.{to_true, by_cases}
use Rattle.doubles.proofs.Integers.{le_z_refl, le_z_trans, le_z_add, scale_le, swap-addℤ}
use Rattle.doubles.proofs.Units.{finite_number}
use Rattle.doubles.proofs.Order.{cond_num, lt_le, le→Z, le_refl_num, le_trans_num, not_lt_le}
use Rattle.pywr.specs.declared.Sentinel.{Sentinel}
use Rattle.pywr.specs.declared.Interval.{Interval}
use Rattle.pywr.specs.Numbers.{zero64, high, lesser}
use Rattle.pywr.specs.Rows.{Element, element, ColumnMap}
use Rattle.pywr.specs.Programme.{Row, RowType, continuous, binary_upper, binary_lower, NodeRow, Shape}
use Rattle.pywr.specs.Interval.{sentinels, zero_to_high}
use Rattle.pywr.specs.StepIntervals.{Intervals, is_binary}
use Rattle.pywr.specs.Step.{adjust, with_bounds, change_coefficient, with_coefficient, over_node_rows, interval_for, apply_node_rows}
use Rattle.pywr.specs.Step.{reset_binary_row, reset_binary_rows, apply_coefficient, apply_coefficients, apply_intervals, row_of, step_rows}
use Rattle.pywr.specs.BinaryRows.{coefficient_of}
use Rattle.pywr.specs.Plans.{exact, meets, Plan}
use Rattle.pywr.specs.Admits.{on_column, row_sum, row_met}
use Rattle.pywr.proofs.ExactLaws.{exact_rank}
use Rattle.pywr.proofs.BoundLaws.{IsBound, high_bound}
use Rattle.pywr.proofs.RowLaws.{own, adjust_length, elements_at, elements_found, AllMet, free}
use Rattle.pywr.proofs.VaryingLaws.{adjust_apart}
use Rattle.pywr.proofs.AgainLaws.{change_again, reset_of}
use Rattle.pywr.proofs.NumberLaws.{FiniteFit}
use Rattle.pywr.proofs.ListLaws.{not_found, same_some, below_found, found_below, all_at}
use Rattle.pywr.proofs.CoefficientLaws.{zero_up}

-- ---- a row and its coefficient

abbrev pub set_to : ℕ → Float → List Element → List Element
set_to c v es = change_coefficient c (λ held. v) es

abbrev pub zero_to_high_row : Sentinel → List Element → Row
zero_to_high_row w es = record { lower = zero64; upper = high w; elements = es }

abbrev pub row_with : Sentinel → ℕ → List Element → Float → Row
row_with w c es v = zero_to_high_row w (set_to c v es)

-- the row with this coefficient is met
abbrev pub MetWith : ColumnMap → Plan → Sentinel → ℕ → List Element → Float → Type 0
MetWith f plan w c es v = T (meets w (zero_to_high w) (row_sum f plan (set_to c v es)))

abbrev pub Binary : NodeRow → Type 0
Binary n = T (is_binary n.row_type)

abbrev apply_of : Sentinel → ℕ → List Interval → NodeRow → Row → Row
apply_of w e is n = apply_coefficient n.row_type (e + n.set) (interval_for w is n)

abbrev pub coefficient_for : Sentinel → List Interval → NodeRow → Float
coefficient_for w is n = coefficient_of n.row_type (interval_for w is n)

change_least : (c : ℕ) (y x : Float) (es : List Element) → change_coefficient c (λ held. lesser held x) (set_to c y es) ≡ set_to c (lesser y x) es
unfolding change_coefficient
change_least c y x [] = refl
change_least c y x (e ∷ es) = go (eqb e.column c) refl (change_least c y x es)
  where
    go : (b : Bool) → eqb e.column c ≡ b → change_coefficient c (λ held. lesser held x) (set_to c y es) ≡ set_to c (lesser y x) es
        → change_coefficient c (λ held. lesser held x) (cond b (element c y ∷ es) (e ∷ set_to c y es)) ≡ cond b (element c (lesser y x) ∷ es) (e ∷ set_to c (lesser y x) es)
    go true q ih = ap (λ (b : Bool). cond b (element c (lesser y x) ∷ es) (element c y ∷ change_coefficient c (λ held. lesser held x) es)) (to_true (eqb c c) (eqb_refl c))
    go false q ih =
        ap (λ (b : Bool). cond b (element c (lesser e.value x) ∷ set_to c y es) (e ∷ change_coefficient c (λ held. lesser held x) (set_to c y es))) q
        ∙ ap (λ (l : List Element). e ∷ l) ih

reset_is : (w : Sentinel) (t : RowType) (c : ℕ) (x : Row) → T (is_binary t) → reset_binary_row w t c x ≡ row_with w c x.elements (high w)
unfolding reset_binary_row is_binary with_coefficient with_bounds
reset_is w continuous c x h = absurd h
reset_is w binary_upper c x h = refl
reset_is w binary_lower c x h = refl

reset_none : (w : Sentinel) (t : RowType) (c : ℕ) (x : Row) → T (not (is_binary t)) → reset_binary_row w t c x ≡ x
unfolding reset_binary_row is_binary
reset_none w continuous c x h = refl
reset_none w binary_upper c x h = absurd h
reset_none w binary_lower c x h = absurd h

module _ (w : Sentinel) (c : ℕ) (i : Interval) where
  apply_is : (t : RowType) (es : List Element) (y : Float) → T (is_binary t) → apply_coefficient t c i (row_with w c es y) ≡ row_with w c es (lesser y (coefficient_of t i))
  unfolding apply_coefficient is_binary coefficient_of with_coefficient
  apply_is continuous es y h = absurd h
  apply_is binary_upper es y h = ap (zero_to_high_row w) (change_least c y _ es)
  apply_is binary_lower es y h = ap (zero_to_high_row w) (change_least c y _ es)

  apply_none : (t : RowType) (x : Row) → T (not (is_binary t)) → apply_coefficient t c i x ≡ x
  unfolding apply_coefficient is_binary
  apply_none continuous x h = refl
  apply_none binary_upper x h = absurd h
  apply_none binary_lower x h = absurd h

-- ---- the smaller of two

least_left : (v x : Float) → IsBound v → IsBound x → T (le (lesser v x) v)
unfolding lesser
least_left v x bv bx = go (lt x v) (λ t. lt_le x v t)
  where
    go : (b : Bool) → (T b → T (le x v)) → T (le (cond b x v) v)
    go true h = h tt
    go false h = le_refl_num binary64 v bv

least_right : (v x : Float) → IsBound v → IsBound x → T (le (lesser v x) x)
unfolding lesser
least_right v x bv bx = go (lt x v) (λ t. not_lt_le binary64 x v bx bv t)
  where
    go : (b : Bool) → (T (not b) → T (le v x)) → T (le (cond b x v) x)
    go true h = le_refl_num binary64 x bx
    go false h = h tt

least_either : (v x : Float) → (lesser v x ≡ v) ⊎ (lesser v x ≡ x)
unfolding lesser
least_either v x = go (lt x v)
  where
    go : (b : Bool) → (cond b x v ≡ v) ⊎ (cond b x v ≡ x)
    go true = inr refl
    go false = inl refl

least_bound : (v x : Float) → IsBound v → IsBound x → IsBound (lesser v x)
unfolding lesser
least_bound v x bv bx = cond_num binary64 (lt x v) x v bx bv

-- ---- a row's sum rises with the coefficient

module _ (f : ColumnMap) (plan : Plan) (c : ℕ) where
  record Split (es : List Element) : Type 0 where
    many : ℕ
    rest : ℤ
    is : (v : Float) → row_sum f plan (change_coefficient c (λ held. v) es) ≡ exact v *ℤ pos many +ℤ rest

  split : (es : List Element) → Split es
  unfolding change_coefficient row_sum
  split [] = record { many = 0; rest = pos 0; is = λ v. sym (ap (λ (z : ℤ). z +ℤ pos 0) (*ℤ-zero (exact v)) ∙ +ℤ_idl (pos 0)) }
  split (x ∷ xs) = let r = go (eqb x.column c) (split xs) in record { many = r.0; rest = r.1; is = r.2 }
    where
      a : ℤ
      a = exact x.value *ℤ pos (on_column f plan x.column)

      go : (b : Bool) → Split xs → (m : ℕ) × (z : ℤ) × ((v : Float) → row_sum f plan (cond b (element c v ∷ xs) (x ∷ change_coefficient c (λ held. v) xs)) ≡ exact v *ℤ pos m +ℤ z)
      go true s = (on_column f plan c, row_sum f plan xs, λ v. refl)
      go false s = (s.many, a +ℤ s.rest, λ v. ap (λ (z : ℤ). a +ℤ z) (s.is v) ∙ swap-addℤ a (exact v *ℤ pos s.many) s.rest)

  times_le : (m : ℕ) (a b : ℤ) → T (le_z a b) → T (le_z (a *ℤ pos m) (b *ℤ pos m))
  times_le zero a b h = subst T (ap₂ (λ (x y : ℤ). le_z x y) (sym (*ℤ-zero a)) (sym (*ℤ-zero b))) (le_z_refl (pos 0))
  times_le (suc m) a b h = subst T (sym (ap₂ (λ (x y : ℤ). le_z x y) (*ℤ_comm a (pos (suc m))) (*ℤ_comm b (pos (suc m))) ∙ scale_le (suc m) a b (suc-le-suc zero-le))) h

  exact_le : (u v : Float) → FiniteFit u → FiniteFit v → T (le u v) → T (le_z (exact u) (exact v))
  exact_le u v fu fv h =
      subst T (ap₂ (λ (x y : ℤ). le_z x y) (sym (exact_rank u fu.fit fu.finite)) (sym (exact_rank v fv.fit fv.finite)))
      (le→Z binary64 u v (fu.fit, finite_number u fu.finite) (fv.fit, finite_number v fv.finite) h)

  sum_rises : (es : List Element) (u v : Float) → FiniteFit u → FiniteFit v → T (le u v) → T (le_z (row_sum f plan (set_to c u es)) (row_sum f plan (set_to c v es)))
  sum_rises es u v fu fv h =
      let s = split es in
      subst T (ap₂ (λ (x y : ℤ). le_z x y) (sym (s.is u)) (sym (s.is v)))
      (le_z_add (exact u *ℤ pos s.many) (exact v *ℤ pos s.many) s.rest s.rest (times_le s.many (exact u) (exact v) (exact_le u v fu fv h)) (le_z_refl s.rest))

  -- so that a row which a smaller coefficient has met is met by a larger one
  met_rises : (w : Sentinel) (es : List Element) (u v : Float) → FiniteFit u → FiniteFit v → T (le u v) → MetWith f plan w c es u → MetWith f plan w c es v
  met_rises w es u v fu fv h k =
      let x : ℤ = row_sum f plan (set_to c u es) in
      let y : ℤ = row_sum f plan (set_to c v es) in
      (zero_up w y).1 (le_z_trans (pos 0) x y ((zero_up w x).0 k) (sum_rises es u v fu fv h))

-- ---- one place through a pass

adjust_here : (g : Row → Row) (p : ℕ) (rows : List Row) (x : Row) → get_elem? rows p ≡ some x → get_elem? (adjust g p rows) p ≡ some (g x)
unfolding adjust
adjust_here g p [] x e = not_found x e
adjust_here g zero (y ∷ ys) x e = ap {B = Option Row} (λ (z : Row). some (g z)) (same_some y x e)
adjust_here g (suc p) (y ∷ ys) x e = adjust_here g p ys x e

adjust_at : (g : Row → Row) (r p : ℕ) (rows : List Row) (x : Row) → r ≡ p → get_elem? rows p ≡ some x → get_elem? (adjust g r rows) p ≡ some (g x)
adjust_at g r p rows x q e = subst (λ (k : ℕ). get_elem? (adjust g k rows) p ≡ some (g x)) (sym q) (adjust_here g p rows x e)

some_is : {x y : Row} → x ≡ y → some x ≡ some y
some_is e = ap {B = Option Row} some e

pass_long : (g : NodeRow → Row → Row) (ns : List NodeRow) (rows : List Row) → length (over_node_rows g ns rows) ≡ length rows
unfolding over_node_rows
pass_long g [] rows = refl
pass_long g (n ∷ ns) rows = pass_long g ns _ ∙ adjust_length (g n) n.row rows

-- a row that each of its node rows leaves alone
pass_keeps : (g : NodeRow → Row → Row) (ns : List NodeRow) (p : ℕ) (x : Row) → ((n : NodeRow) → Memᴰ n ns → n.row ≡ p → g n x ≡ x)
    → (rows : List Row) → get_elem? rows p ≡ some x → get_elem? (over_node_rows g ns rows) p ≡ some x
unfolding over_node_rows
pass_keeps g [] p x h rows e = e
pass_keeps g (n ∷ ns) p x h rows e =
    pass_keeps g ns p x (λ m k q. h m (Memᴰ.tail k) q) (adjust (g n) n.row rows) (go (ℕ_discrete n.row p))
  where
    go : Dec (n.row ≡ p) → get_elem? (adjust (g n) n.row rows) p ≡ some x
    go (no q) = adjust_apart (g n) n.row p rows q ∙ e
    go (yes q) = adjust_at (g n) n.row p rows x q e ∙ some_is (h n (Memᴰ.head refl) q)

-- ---- a place of varying exclusive nodes

-- a coefficient that 21 lets through
pub record InRange (w : Sentinel) (x : Float) : Type 0 where
  pub finite : FiniteFit x
  pub under : T (le (high w) x) → ⊥

range_bound : (w : Sentinel) (x : Float) → InRange w x → IsBound x
range_bound w x r = (r.finite.fit, finite_number x r.finite.finite)

-- a binary node row whose row is p
abbrev BinaryAt : List NodeRow → ℕ → Type 0
BinaryAt ns p = (n : NodeRow) × Memᴰ n ns × Binary n × (n.row ≡ p)

abbrev NoBinaryAt : List NodeRow → ℕ → Type 0
NoBinaryAt ns p = (n : NodeRow) → Memᴰ n ns → Binary n → n.row ≡ p → ⊥

-- v is the coefficient of a binary node row whose row is p
abbrev pub IsOneOf : Sentinel → List Interval → List NodeRow → ℕ → Float → Type 0
IsOneOf w is ns p v = (n : NodeRow) × Memᴰ n ns × Binary n × (n.row ≡ p) × (v ≡ coefficient_for w is n)

module _ (w : Sentinel) (e : ℕ) (is : List Interval) (p c : ℕ) (es : List Element) where
  abbrev resets : NodeRow → Row → Row
  resets n = reset_of w e n

  abbrev applies : NodeRow → Row → Row
  applies n = apply_of w e is n

  abbrev coefficient : NodeRow → Float
  coefficient n = coefficient_for w is n

  abbrev OneOf : List NodeRow → Float → Type 0
  OneOf ns v = IsOneOf w is ns p v

  -- every node row of the place that sets a coefficient sets it on the column c
  abbrev OnColumn : List NodeRow → Type 0
  OnColumn ns = (n : NodeRow) → Memᴰ n ns → Binary n → n.row ≡ p → e + n.set ≡ c

  on_later : {n : NodeRow} {ns : List NodeRow} → OnColumn (n ∷ ns) → OnColumn ns
  on_later h m k b q = h m (Memᴰ.tail k) b q

  fresh : Row
  fresh = row_with w c es (high w)

  -- its elements are those of es, but for the coefficient on c
  abbrev SameElements : Row → Type 0
  SameElements y = set_to c (high w) y.elements ≡ set_to c (high w) es

  reset_fresh : (n : NodeRow) (y : Row) → Binary n → e + n.set ≡ c → SameElements y → resets n y ≡ fresh
  unfolding fresh
  reset_fresh n y b q h =
      reset_is w n.row_type (e + n.set) y b
      ∙ ap (λ (d : ℕ). row_with w d y.elements (high w)) q
      ∙ ap (zero_to_high_row w) h

  fresh_same : SameElements fresh
  unfolding fresh
  fresh_same = change_again c (high w) (λ held. high w) es

  reset_stays : (ns : List NodeRow) → OnColumn ns → (n : NodeRow) → Memᴰ n ns → n.row ≡ p → resets n fresh ≡ fresh
  reset_stays ns on n m q =
      by_cases (is_binary n.row_type) (λ b. reset_fresh n fresh b (on n m b q) fresh_same) (λ b. reset_none w n.row_type (e + n.set) fresh b)

  reset_at : (ns : List NodeRow) → OnColumn ns → (m : NodeRow) → Memᴰ m ns → Binary m → m.row ≡ p
      → (rows : List Row) (y : Row) → get_elem? rows p ≡ some y → SameElements y → get_elem? (over_node_rows resets ns rows) p ≡ some fresh
  unfolding over_node_rows
  reset_at (n ∷ ns) on m (Memᴰ.head same) b q rows y at h =
      let q' : n.row ≡ p = ap (λ (k : NodeRow). k.row) (sym same) ∙ q in
      let b' : Binary n = subst (λ (k : NodeRow). Binary k) same b in
      pass_keeps resets ns p fresh (reset_stays ns (on_later on)) (adjust (resets n) n.row rows)
      (adjust_at (resets n) n.row p rows y q' at ∙ some_is (reset_fresh n y b' (on n (Memᴰ.head refl) b' q') h))
  reset_at (n ∷ ns) on m (Memᴰ.tail k) b q rows y at h = go (ℕ_discrete n.row p) (λ r z i j. reset_at ns (on_later on) m k b q r z i j)
    where
      go : Dec (n.row ≡ p) → ((r : List Row) (z : Row) → get_elem? r p ≡ some z → SameElements z → get_elem? (over_node_rows resets ns r) p ≡ some fresh)
          → get_elem? (over_node_rows resets ns (adjust (resets n) n.row rows)) p ≡ some fresh
      go (no a) ih = ih (adjust (resets n) n.row rows) y (adjust_apart (resets n) n.row p rows a ∙ at) h
      go (yes a) ih =
          by_cases (is_binary n.row_type)
          (λ t. ih (adjust (resets n) n.row rows) fresh
          (adjust_at (resets n) n.row p rows y a at ∙ some_is (reset_fresh n y t (on n (Memᴰ.head refl) t a) h)) fresh_same)
          (λ t. ih (adjust (resets n) n.row rows) y (adjust_at (resets n) n.row p rows y a at ∙ some_is (reset_none w n.row_type (e + n.set) y t)) h)
  reset_at [] on m x6 b q rows y at h = elim x6 [ ]

  -- what stands on c after the coefficients, v before: the smallest of them all
  record Least (ns : List NodeRow) (v least : Float) : Type 0 where
    bound : IsBound least
    under : T (le least v)
    each : (n : NodeRow) → Memᴰ n ns → Binary n → n.row ≡ p → T (le least (coefficient n))
    from : (least ≡ v) ⊎ OneOf ns least

  Found : List NodeRow → List Row → Float → Type 0
  Found ns rows v = (least : Float) × (get_elem? (over_node_rows applies ns rows) p ≡ some (row_with w c es least)) × Least ns v least

  least_at : (ns : List NodeRow) → OnColumn ns → ((n : NodeRow) → Memᴰ n ns → Binary n → IsBound (coefficient n))
      → (rows : List Row) (v : Float) → IsBound v → get_elem? rows p ≡ some (row_with w c es v) → Found ns rows v
  unfolding over_node_rows Found
  least_at [] on bounds rows v bv at = (v, at, record { bound = bv; under = le_refl_num binary64 v bv; each = λ n m b q. absurd (Memᴰ.not-nil m); from = inl refl })
  least_at (n ∷ ns) on bounds rows v bv at =
      go (λ u bu h. least_at ns (on_later on) (λ m k b. bounds m (Memᴰ.tail k) b) (adjust (applies n) n.row rows) u bu h) (ℕ_discrete n.row p)
    where
      next : List Row
      next = adjust (applies n) n.row rows

      later : {u : Float} (least : Float) → (least ≡ u) ⊎ OneOf ns least → (least ≡ u) ⊎ OneOf (n ∷ ns) least
      later least (inl h) = inl h
      later least (inr h) = inr (h.0, Memᴰ.tail h.1, h.2, h.3, h.4)

      -- the first sets none here
      skip : (Binary n → n.row ≡ p → ⊥) → Found ns next v → Found (n ∷ ns) rows v
      skip never r = (
        r.0,
        r.1,
        record {
          bound = r.2.bound;
          under = r.2.under;
          each = λ m k b q. each m (Memᴰ.cases_cons k) b q;
          from = later r.0 r.2.from;
        },
      )
        where
          each : (m : NodeRow) → (m ≡ n) ⊎ Memᴰ m ns → Binary m → m.row ≡ p → T (le r.0 (coefficient m))
          each m (inl h) b q = absurd (never (subst (λ (k : NodeRow). Binary k) h b) (ap (λ (k : NodeRow). k.row) (sym h) ∙ q))
          each m (inr k) b q = r.2.each m k b q

      -- the first sets one here
      take : Binary n → n.row ≡ p → Found ns next (lesser v (coefficient n)) → Found (n ∷ ns) rows v
      take b q r = (
        r.0,
        r.1,
        record {
          bound = r.2.bound;
          under = le_trans_num binary64 r.0 u v r.2.bound bu bv r.2.under (least_left v x bv bx);
          each = λ m k b' q'. each m (Memᴰ.cases_cons k) b' q';
          from = from r.2.from;
        },
      )
        where
          x : Float
          x = coefficient n

          u : Float
          u = lesser v x

          bx : IsBound x
          bx = bounds n (Memᴰ.head refl) b

          bu : IsBound u
          bu = least_bound v x bv bx

          each : (m : NodeRow) → (m ≡ n) ⊎ Memᴰ m ns → Binary m → m.row ≡ p → T (le r.0 (coefficient m))
          each m (inl h) b' q' =
              subst (λ (k : NodeRow). T (le r.0 (coefficient k))) (sym h)
              (le_trans_num binary64 r.0 u x r.2.bound bu bx r.2.under (least_right v x bv bx))
          each m (inr k) b' q' = r.2.each m k b' q'

          held : r.0 ≡ u → (u ≡ v) ⊎ (u ≡ x) → (r.0 ≡ v) ⊎ OneOf (n ∷ ns) r.0
          held h (inl k) = inl (h ∙ k)
          held h (inr k) = inr (n, Memᴰ.head refl, b, q, h ∙ k)

          from : (r.0 ≡ u) ⊎ OneOf ns r.0 → (r.0 ≡ v) ⊎ OneOf (n ∷ ns) r.0
          from (inl h) = held h (least_either v x)
          from (inr h) = later {u = v} r.0 (inr h)

      go : ((u : Float) → IsBound u → get_elem? next p ≡ some (row_with w c es u) → Found ns next u) → Dec (n.row ≡ p) → Found (n ∷ ns) rows v
      go ih (no a) = skip (λ b q. a q) (ih v bv (adjust_apart (applies n) n.row p rows a ∙ at))
      go ih (yes a) =
          by_cases (is_binary n.row_type)
          (λ t.
          let col : e + n.set ≡ c = on n (Memᴰ.head refl) t a in
          let u : Float = lesser v (coefficient n) in
          let now : applies n (row_with w c es v) ≡ row_with w c es u =
          subst (λ (d : ℕ). apply_coefficient n.row_type d (interval_for w is n) (row_with w c es v) ≡ row_with w c es u) (sym col)
          (apply_is w c (interval_for w is n) n.row_type es v t) in
          take t a (ih u (least_bound v (coefficient n) bv (bounds n (Memᴰ.head refl) t)) (adjust_at (applies n) n.row p rows (row_with w c es v) a at ∙ some_is now)))
          (λ t.
          let same = apply_none w (e + n.set) (interval_for w is n) n.row_type (row_with w c es v) t in
          skip (λ b q. T_not (is_binary n.row_type) t b) (ih v bv (adjust_at (applies n) n.row p rows (row_with w c es v) a at ∙ some_is same)))

-- ---- the whole pass

find_binary : (p : ℕ) (ns : List NodeRow) → BinaryAt ns p ⊎ NoBinaryAt ns p
find_binary p [] = inr (λ n m b q. absurd (Memᴰ.not-nil m))
find_binary p (n ∷ ns) = go (ℕ_discrete n.row p) (find_binary p ns)
  where
    later : (Binary n → n.row ≡ p → ⊥) → BinaryAt ns p ⊎ NoBinaryAt ns p → BinaryAt (n ∷ ns) p ⊎ NoBinaryAt (n ∷ ns) p
    later h (inl r) = inl (r.0, Memᴰ.tail r.1, r.2, r.3)
    later h (inr r) = inr (λ k m b q. each k (Memᴰ.cases_cons m) b q)
      where
        each : (k : NodeRow) → (k ≡ n) ⊎ Memᴰ k ns → Binary k → k.row ≡ p → ⊥
        each k (inl s) b q = h (subst (λ (j : NodeRow). Binary j) s b) (ap (λ (j : NodeRow). j.row) (sym s) ∙ q)
        each k (inr m) b q = r k m b q

    go : Dec (n.row ≡ p) → BinaryAt ns p ⊎ NoBinaryAt ns p → BinaryAt (n ∷ ns) p ⊎ NoBinaryAt (n ∷ ns) p
    go (no a) r = later (λ b q. a q) r
    go (yes a) r = by_cases (is_binary n.row_type) (λ t. inl (n, Memᴰ.head refl, t, a)) (λ t. later (λ b q. T_not (is_binary n.row_type) t b) r)

module _ (w : Sentinel) (e : ℕ) (is : List Interval) (ns : List NodeRow)
    (numbers : (n : NodeRow) → Memᴰ n ns → Binary n → InRange w (coefficient_for w is n))
    (together : (m n : NodeRow) → Memᴰ m ns → Memᴰ n ns → Binary m → Binary n → n.row ≡ m.row → n.set ≡ m.set)
    (rows : List Row)
    (free-at : (n : NodeRow) → Memᴰ n ns → Binary n → (x : Row) × (get_elem? rows n.row ≡ some x) × (own x ≡ sentinels w)) where
  abbrev after : List Row
  after = apply_coefficients w e is ns (reset_binary_rows w e ns rows)

  abbrev value_of : NodeRow → Float
  value_of n = coefficient_for w is n

  -- ---- a place with none

  after_keeps : (p : ℕ) (x : Row) → NoBinaryAt ns p → get_elem? rows p ≡ some x → get_elem? after p ≡ some x
  unfolding apply_coefficients reset_binary_rows
  after_keeps p x never at =
      pass_keeps _ ns p x (λ n m q. by_cases (is_binary n.row_type) (λ b. absurd (never n m b q)) (λ b. apply_none w (e + n.set) (interval_for w is n) n.row_type x b)) _
      (pass_keeps _ ns p x (λ n m q. by_cases (is_binary n.row_type) (λ b. absurd (never n m b q)) (λ b. reset_none w n.row_type (e + n.set) x b)) rows at)

  -- ---- a place of varying exclusive nodes

  module _ (m : NodeRow) (known : Memᴰ m ns) (b : Binary m) where
    abbrev p : ℕ
    p = m.row

    abbrev c : ℕ
    c = e + m.set

    abbrev es : List Element
    es = elements_at p rows

    on : OnColumn w e is p c es ns
    on n k t q = ap (λ (j : ℕ). e + j) (together m n known k b t q)

    there : elements_at m.row rows ≡ (free-at m known b).0.elements
    there = elements_found rows m.row (free-at m known b).0 (free-at m known b).1

    pub record Final : Type 0 where
      pub least : Float
      pub at : get_elem? after m.row ≡ some (row_with w (e + m.set) (elements_at m.row rows) least)
      pub each : (n : NodeRow) → Memᴰ n ns → Binary n → n.row ≡ m.row → T (le least (value_of n))
      pub from : IsOneOf w is ns m.row least

    pub final : Final
    unfolding apply_coefficients reset_binary_rows fresh Found
    final =
        let o = reset_at w e is p c es ns on m known b refl rows (free-at m known b).0 (free-at m known b).1 (ap (set_to c (high w)) (sym there)) in
        let r = least_at w e is p c es ns on (λ n k t. range_bound w (value_of n) (numbers n k t)) (reset_binary_rows w e ns rows) (high w) (high_bound w) o in
        let mine : T (le r.0 (value_of m)) = r.2.each m known b refl in
        record { least = r.0; at = r.1; each = r.2.each; from = go r.0 mine r.2.from }
      where
        go : (least : Float) → T (le least (value_of m)) → (least ≡ high w) ⊎ IsOneOf w is ns m.row least → IsOneOf w is ns m.row least
        go least h (inl q) = absurd ((numbers m known b).under (subst (λ (z : Float). T (le z (value_of m))) q h))
        go least h (inr q) = q

    finite_least : FiniteFit final.least
    finite_least = let r = final.from in subst FiniteFit (sym r.4) (numbers r.0 r.1 r.2).finite

  after_long : length after ≡ length rows
  unfolding apply_coefficients reset_binary_rows
  after_long = pass_long _ ns _ ∙ pass_long _ ns rows

  -- what a step leaves at a place: what stood there, or the row of varying exclusive nodes with a coefficient in range
  pub after_is : (p : ℕ) (y : Row) → get_elem? after p ≡ some y
      → (get_elem? rows p ≡ some y) ⊎ ((c : ℕ) × (v : Float) × (y ≡ row_with w c (elements_at p rows) v) × InRange w v)
  after_is p y at = go (find_binary p ns)
    where
      x : (z : Row) × (get_elem? rows p ≡ some z)
      x = below_found rows p (subst (λ (k : ℕ). p < k) after_long (found_below after p y at))

      go : BinaryAt ns p ⊎ NoBinaryAt ns p
          → (get_elem? rows p ≡ some y) ⊎ ((c : ℕ) × (v : Float) × (y ≡ row_with w c (elements_at p rows) v) × InRange w v)
      go (inl r) =
          let m : NodeRow = r.0 in
          let fin = final m r.1 r.2 in
          let q = fin.from in
          let same : y ≡ row_with w (e + m.set) (elements_at m.row rows) fin.least = same_some y _ (sym at ∙ ap (get_elem? after) (sym r.3) ∙ fin.at) in
          let here = ap (λ (k : ℕ). row_with w (e + m.set) (elements_at k rows) fin.least) r.3 in
          inr (e + m.set, fin.least, same ∙ here, subst (InRange w) (sym q.4) (numbers q.0 q.1 q.2))
      go (inr never) = inl (x.1 ∙ sym (after_keeps p x.0 never x.1) ∙ at)

  -- ---- what is met

  module _ (f : ColumnMap) (plan : Plan) where
    -- a node row's own coefficient has its row met
    abbrev pub OwnMet : NodeRow → Type 0
    OwnMet n = MetWith f plan w (e + n.set) (elements_at n.row rows) (value_of n)

    abbrev pub EachOwnMet : Type 0
    EachOwnMet = (n : NodeRow) → Memᴰ n ns → Binary n → OwnMet n

    module _ (m : NodeRow) (known : Memᴰ m ns) (b : Binary m) where
      abbrev LeastMet : Type 0
      LeastMet = MetWith f plan w (e + m.set) (elements_at m.row rows) (final m known b).least

      -- the place is met if the one whose coefficient stands there is
      least_met : EachOwnMet → LeastMet
      least_met h =
          let r = (final m known b).from in
          let n : NodeRow = r.0 in
          let same : n.set ≡ m.set = together m n known r.1 b r.2 r.3 in
          let met : MetWith f plan w (e + m.set) (elements_at m.row rows) (value_of n) =
          subst (λ (q : ℕ). MetWith f plan w (e + m.set) (elements_at q rows) (value_of n)) r.3
          (subst (λ (k : ℕ). MetWith f plan w (e + k) (elements_at n.row rows) (value_of n)) same (h n r.1 r.2)) in
          subst (λ (v : Float). MetWith f plan w (e + m.set) (elements_at m.row rows) v) (sym r.4) met

      own_met : LeastMet → OwnMet m
      own_met h =
          met_rises f plan (e + m.set) w (elements_at m.row rows) (final m known b).least (value_of m)
          (finite_least m known b) (numbers m known b).finite ((final m known b).each m known b refl) h

    pub binary_met : AllMet w f plan 0 after ↔ (AllMet w f plan 0 rows × EachOwnMet)
    unfolding row_met
    binary_met = (
      λ h.
          let all = (all_at (row_met w f plan) after 0).0 h in (
            (all_at (row_met w f plan) rows 0).1 (λ p x at. bounds_met (λ q y k. all q y k) p x at (find_binary p ns)),
            λ n m b. own_met n m b (all n.row _ (final n m b).at),
          ),
      λ h.
          let all = (all_at (row_met w f plan) rows 0).0 h.0 in
          (all_at (row_met w f plan) after 0).1
          (λ p y at.
          let x = below_found rows p (subst (λ (k : ℕ). p < k) after_long (found_below after p y at)) in
          row_met_lem (λ q z k. all q z k) h.1 p y at x.0 x.1 (find_binary p ns)),
    )
      where
        bounds_met : ((q : ℕ) (y : Row) → get_elem? after q ≡ some y → T (meets w (own y) (row_sum f plan y.elements)))
            → (p : ℕ) (x : Row) → get_elem? rows p ≡ some x → BinaryAt ns p ⊎ NoBinaryAt ns p → T (meets w (own x) (row_sum f plan x.elements))
        bounds_met all p x at (inl r) =
            let o = free-at r.0 r.1 r.2 in
            let same : o.0 ≡ x = same_some o.0 x (sym o.1 ∙ ap (get_elem? rows) r.3 ∙ at) in
            subst (λ (j : Interval). T (meets w j (row_sum f plan x.elements))) (sym (ap own (sym same) ∙ o.2)) (free w (row_sum f plan x.elements))
        bounds_met all p x at (inr never) = all p x (after_keeps p x never at)

        row_met_lem : ((q : ℕ) (z : Row) → get_elem? rows q ≡ some z → T (meets w (own z) (row_sum f plan z.elements))) → EachOwnMet
            → (p : ℕ) (y : Row) → get_elem? after p ≡ some y → (x : Row) → get_elem? rows p ≡ some x
            → BinaryAt ns p ⊎ NoBinaryAt ns p → T (meets w (own y) (row_sum f plan y.elements))
        row_met_lem all each p y at x found (inl r) =
            let m : NodeRow = r.0 in
            let fin = final m r.1 r.2 in
            let same : row_with w (e + m.set) (elements_at m.row rows) fin.least ≡ y = same_some _ y (sym fin.at ∙ ap (get_elem? after) r.3 ∙ at) in
            subst (λ (z : Row). T (meets w (own z) (row_sum f plan z.elements))) same (least_met m r.1 r.2 each)
        row_met_lem all each p y at x found (inr never) =
            let same : x ≡ y = same_some x y (sym (after_keeps p x never found) ∙ at) in
            subst (λ (z : Row). T (meets w (own z) (row_sum f plan z.elements))) same (all p x found)

-- ---- of any store: "these rows stay at lower 0, upper high sentinel, after every step"

-- after a pass over the node rows, Q holds of the row at p
abbrev HoldsAt : (Row → Type 0) → (NodeRow → Row → Row) → List NodeRow → List Row → ℕ → Type 0
HoldsAt Q g ns rows p = (y : Row) × (get_elem? (over_node_rows g ns rows) p ≡ some y) × Q y

pass_holds : (Q : Row → Type 0) (g : NodeRow → Row → Row) (ns : List NodeRow) (p : ℕ) → ((n : NodeRow) (x : Row) → Q x → Q (g n x))
    → (rows : List Row) (x : Row) → get_elem? rows p ≡ some x → Q x → HoldsAt Q g ns rows p
unfolding over_node_rows
pass_holds Q g [] p h rows x at q = (x, at, q)
pass_holds Q g (n ∷ ns) p h rows x at q = go (ℕ_discrete n.row p) (λ z i j. pass_holds Q g ns p h (adjust (g n) n.row rows) z i j)
  where
    next : List Row
    next = adjust (g n) n.row rows

    go : Dec (n.row ≡ p) → ((z : Row) → get_elem? next p ≡ some z → Q z → HoldsAt Q g ns next p) → HoldsAt Q g ns next p
    go (no a) ih = ih x (adjust_apart (g n) n.row p rows a ∙ at) q
    go (yes a) ih = ih (g n x) (adjust_at (g n) n.row p rows x a at) (h n x q)

module _ (w : Sentinel) (e : ℕ) where
  abbrev OwnZeroToHigh : Row → Type 0
  OwnZeroToHigh x = own x ≡ zero_to_high w

  reset_zero_to_high : (t : RowType) (c : ℕ) (x : Row) → OwnZeroToHigh x → OwnZeroToHigh (reset_binary_row w t c x)
  unfolding reset_binary_row with_coefficient with_bounds
  reset_zero_to_high continuous c x q = q
  reset_zero_to_high binary_upper c x q = refl
  reset_zero_to_high binary_lower c x q = refl

  apply_zero_to_high : (t : RowType) (c : ℕ) (i : Interval) (x : Row) → OwnZeroToHigh x → OwnZeroToHigh (apply_coefficient t c i x)
  unfolding apply_coefficient with_coefficient
  apply_zero_to_high continuous c i x q = q
  apply_zero_to_high binary_upper c i x q = q
  apply_zero_to_high binary_lower c i x q = q

  resets_zero_to_high : (ns : List NodeRow) (m : NodeRow) → Memᴰ m ns → Binary m → (rows : List Row) (x : Row) → get_elem? rows m.row ≡ some x
      → HoldsAt OwnZeroToHigh (reset_of w e) ns rows m.row
  unfolding over_node_rows
  resets_zero_to_high (n ∷ ns) m (Memᴰ.head same) b rows x at =
      let q : n.row ≡ m.row = ap (λ (k : NodeRow). k.row) (sym same) in
      pass_holds OwnZeroToHigh (reset_of w e) ns m.row (λ k z h. reset_zero_to_high k.row_type (e + k.set) z h) (adjust (reset_of w e n) n.row rows) (reset_of w e n x)
      (adjust_at (reset_of w e n) n.row m.row rows x q at)
      (ap own (reset_is w n.row_type (e + n.set) x (subst (λ (k : NodeRow). Binary k) same b)))
  resets_zero_to_high (n ∷ ns) m (Memᴰ.tail k) b rows x at = go (ℕ_discrete n.row m.row) (λ z i. resets_zero_to_high ns m k b (adjust (reset_of w e n) n.row rows) z i)
    where
      next : List Row
      next = adjust (reset_of w e n) n.row rows

      go : Dec (n.row ≡ m.row) → ((z : Row) → get_elem? next m.row ≡ some z → HoldsAt OwnZeroToHigh (reset_of w e) ns next m.row)
          → HoldsAt OwnZeroToHigh (reset_of w e) ns next m.row
      go (no a) ih = ih x (adjust_apart (reset_of w e n) n.row m.row rows a ∙ at)
      go (yes a) ih = ih (reset_of w e n x) (adjust_at (reset_of w e n) n.row m.row rows x a at)
  resets_zero_to_high [] m x5 b rows x at = elim x5 [ ]

pub binary_bounds : (w : Sentinel) (shape : Shape) (i : Intervals) (rows : List Row) (n : NodeRow) → Memᴰ n shape.node_rows → Binary n
    → (x : Row) → get_elem? (step_rows w shape i rows) n.row ≡ some x → own x ≡ zero_to_high w
unfolding step_rows reset_binary_rows apply_coefficients
binary_bounds w shape i rows n m b x at =
    let e : ℕ = shape.edge_columns in
    let ns : List NodeRow = shape.node_rows in
    let nodes : List Row = apply_node_rows w i.nodes ns (map (with_bounds (sentinels w)) rows) in
    let before : List Row = apply_intervals (map row_of shape.virtual_storages) i.virtual_storages (apply_intervals shape.aggregates i.aggregates nodes) in
    let fresh : List Row = reset_binary_rows w e ns before in
    let long : length (step_rows w shape i rows) ≡ length before = pass_long _ ns fresh ∙ pass_long _ ns before in
    let y = below_found before n.row (subst (λ (k : ℕ). n.row < k) long (found_below (step_rows w shape i rows) n.row x at)) in
    let o = resets_zero_to_high w e ns n m b before y.0 y.1 in
    let r = pass_holds (OwnZeroToHigh w e) (apply_of w e i.nodes) ns n.row (λ k z h. apply_zero_to_high w e k.row_type (e + k.set) (interval_for w i.nodes k) z h)
    fresh o.0 o.1 o.2 in
    subst (λ (z : Row). own z ≡ zero_to_high w) (same_some r.0 x (sym r.1 ∙ at)) r.2
