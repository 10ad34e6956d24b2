-- A step forgets the step before it: over a programme that a step left it writes what it writes over the programme that this step was given.
-- Bounds are reset, and every coefficient that a step sets is set to the high sentinel before it, whatever the rows' types. Assumes nothing.
use mathlib.Core.Path.{◌≡◌, refl, sym, ap, ◌∙◌, subst}
use mathlib.Core.Logic.{◌⊎◌, inl, inr}
use Prim.Native.Nat.{ℕ, zero, suc, ◌+◌}
use native.Mathlib.Decide.{ℕ_discrete}
use mathlib.Core.Bool.{Bool, true, false, cond}
use mathlib.Core.List.{List, [], ◌∷◌, map, Memᴰ}
use lib.Dec.{T, eqb, eqb→eq, eqb_refl, not_T}
use lib.Ieee.{Float}
use Rattle.laws.proofs.Tests.{to_true, of_true, to_false}
use Rattle.pywr.specs.declared.Sentinel.{Sentinel}
use Rattle.pywr.specs.declared.Interval.{Interval}
use Rattle.pywr.specs.Numbers.{high}
use Rattle.pywr.specs.Rows.{Element, element}
use Rattle.pywr.specs.Programme.{Row, RowType, continuous, binary_upper, binary_lower, NodeRow, Shape}
use Rattle.pywr.specs.Interval.{sentinels, zero_to_high}
use Rattle.pywr.specs.StepIntervals.{Intervals, is_binary}
use Rattle.pywr.specs.Step.{adjust, with_bounds, apply_row_bounds, change_coefficient, with_coefficient, over_node_rows, apply_interval, interval_for, apply_node_rows}
use Rattle.pywr.specs.Step.{reset_binary_row, reset_binary_rows, apply_coefficient, apply_coefficients, apply_intervals, row_of, step_rows}
use Rattle.pywr.specs.Written.{columns_in}
use Rattle.pywr.proofs.Represents.{SameColumns}
use Rattle.pywr.proofs.JoinLaws.{cols}
use Rattle.pywr.proofs.VaryingLaws.{adjust_none}

-- ---- one coefficient after another

-- what is set forgets what was there
pub change_again : (c : ℕ) (y : Float) (g : Float → Float) (es : List Element) → change_coefficient c (λ held. y) (change_coefficient c g es) ≡ change_coefficient c (λ held. y) es
unfolding change_coefficient
change_again c y g [] = refl
change_again c y g (e ∷ es) = go (eqb e.column c) refl (change_again c y g es)
  where
    go : (b : Bool) → eqb e.column c ≡ b → change_coefficient c (λ held. y) (change_coefficient c g es) ≡ change_coefficient c (λ held. y) es
        → change_coefficient c (λ held. y) (cond b (element c (g e.value) ∷ es) (e ∷ change_coefficient c g es)) ≡ cond b (element c y ∷ es) (e ∷ change_coefficient c (λ held. y) es)
    go true q ih = ap (λ (b : Bool). cond b (element c y ∷ es) (element c (g e.value) ∷ change_coefficient c (λ held. y) es)) (to_true (eqb c c) (eqb_refl c))
    go false q ih = ap (λ (b : Bool). cond b (element c y ∷ change_coefficient c g es) (e ∷ change_coefficient c (λ held. y) (change_coefficient c g es))) q ∙ ap (λ (l : List Element). e ∷ l) ih

changes_apart : (c d : ℕ) (g h : Float → Float) (es : List Element) → eqb c d ≡ false → eqb d c ≡ false
    → change_coefficient c g (change_coefficient d h es) ≡ change_coefficient d h (change_coefficient c g es)
unfolding change_coefficient
changes_apart c d g h [] n m = refl
changes_apart c d g h (e ∷ es) n m = go (eqb e.column c) (eqb e.column d) refl refl (changes_apart c d g h es n m)
  where
    x : Float
    x = g e.value

    y : Float
    y = h e.value

    go : (a b : Bool) → eqb e.column c ≡ a → eqb e.column d ≡ b → change_coefficient c g (change_coefficient d h es) ≡ change_coefficient d h (change_coefficient c g es)
        → change_coefficient c g (cond b (element d y ∷ es) (e ∷ change_coefficient d h es)) ≡ change_coefficient d h (cond a (element c x ∷ es) (e ∷ change_coefficient c g es))
    go true true p q ih =
        let same : c ≡ d = sym (eqb→eq e.column c (of_true _ p)) ∙ eqb→eq e.column d (of_true _ q) in
        absurd (subst (λ (b : Bool). T b) n (subst (λ (k : ℕ). T (eqb c k)) same (eqb_refl c)))
    go true false p q ih =
        ap (λ (b : Bool). cond b (element c x ∷ change_coefficient d h es) (e ∷ change_coefficient c g (change_coefficient d h es))) p
        ∙ ap (λ (b : Bool). cond b (element d (h x) ∷ es) (element c x ∷ change_coefficient d h es)) (sym n)
    go false true p q ih =
        ap (λ (b : Bool). cond b (element c (g y) ∷ es) (element d y ∷ change_coefficient c g es)) m
        ∙ ap (λ (b : Bool). cond b (element d y ∷ change_coefficient c g es) (e ∷ change_coefficient d h (change_coefficient c g es))) (sym q)
    go false false p q ih =
        ap (λ (b : Bool). cond b (element c x ∷ change_coefficient d h es) (e ∷ change_coefficient c g (change_coefficient d h es))) p
        ∙ ap (λ (l : List Element). e ∷ l) ih
        ∙ ap (λ (b : Bool). cond b (element d y ∷ change_coefficient c g es) (e ∷ change_coefficient d h (change_coefficient c g es))) (sym q)

change_columns : (c : ℕ) (g : Float → Float) (es : List Element) → cols (change_coefficient c g es) ≡ cols es
unfolding change_coefficient
change_columns c g [] = refl
change_columns c g (e ∷ es) = go (eqb e.column c) refl (change_columns c g es)
  where
    go : (b : Bool) → eqb e.column c ≡ b → cols (change_coefficient c g es) ≡ cols es
        → cols (cond b (element c (g e.value) ∷ es) (e ∷ change_coefficient c g es)) ≡ e.column ∷ cols es
    go true q ih = ap (λ (k : ℕ). k ∷ cols es) (sym (eqb→eq e.column c (of_true _ q)))
    go false q ih = ap (λ (l : List ℕ). e.column ∷ l) ih

-- ---- one row after another

adjust_twice : (g h : Row → Row) (r : ℕ) (rows : List Row) → adjust g r (adjust h r rows) ≡ adjust (λ x. g (h x)) r rows
unfolding adjust
adjust_twice g h r [] = refl
adjust_twice g h zero (x ∷ xs) = refl
adjust_twice g h (suc r) (x ∷ xs) = ap (λ (l : List Row). x ∷ l) (adjust_twice g h r xs)

adjust_alike : (g h : Row → Row) → ((x : Row) → g x ≡ h x) → (r : ℕ) (rows : List Row) → adjust g r rows ≡ adjust h r rows
unfolding adjust
adjust_alike g h e r [] = refl
adjust_alike g h e zero (x ∷ xs) = ap (λ (y : Row). y ∷ xs) (e x)
adjust_alike g h e (suc r) (x ∷ xs) = ap (λ (l : List Row). x ∷ l) (adjust_alike g h e r xs)

adjusts_apart : (g h : Row → Row) (r q : ℕ) (rows : List Row) → ¬ (r ≡ q) → adjust g r (adjust h q rows) ≡ adjust h q (adjust g r rows)
unfolding adjust
adjusts_apart g h r q [] n = refl
adjusts_apart g h zero zero (x ∷ xs) n = absurd (n refl)
adjusts_apart g h zero (suc q) (x ∷ xs) n = refl
adjusts_apart g h (suc r) zero (x ∷ xs) n = refl
adjusts_apart g h (suc r) (suc q) (x ∷ xs) n = ap (λ (l : List Row). x ∷ l) (adjusts_apart g h r q xs (λ e. n (ap suc e)))

-- ---- the rows of varying exclusive nodes

coefficients_past : (c d : ℕ) (g h : Float → Float) (r : Row) → ¬ (c ≡ d) → with_coefficient c g (with_coefficient d h r) ≡ with_coefficient d h (with_coefficient c g r)
unfolding with_coefficient
coefficients_past c d g h r n =
    ap (λ (l : List Element). record { lower = r.lower; upper = r.upper; elements = l })
    (changes_apart c d g h r.elements (to_false (eqb c d) (not_T (eqb c d) (λ t. n (eqb→eq c d t)))) (to_false (eqb d c) (not_T (eqb d c) (λ t. n (sym (eqb→eq d c t))))))

-- what comes after a change forgets it, or could as well come before it
abbrev Either : {A : Type 0} → (A → A) → (A → A) → Type 0
Either {A} g h = ((x : A) → g (h x) ≡ g x) ⊎ ((x : A) → g (h x) ≡ h (g x))

rows_either : (g h : Row → Row) (r q : ℕ) → Either g h → Either (adjust g r) (adjust h q)
rows_either g h r q e = go (ℕ_discrete r q) e
  where
    go : Dec (r ≡ q) → Either g h → Either (adjust g r) (adjust h q)
    go (no n) k = inr (λ rows. adjusts_apart g h r q rows n)
    go (yes p) (inl k) =
        inl (λ rows. subst (λ (m : ℕ). adjust g r (adjust h m rows) ≡ adjust g r rows) p (adjust_twice g h r rows ∙ adjust_alike (λ x. g (h x)) g k r rows))
    go (yes p) (inr k) =
        inr (λ rows.
        subst (λ (m : ℕ). adjust g r (adjust h m rows) ≡ adjust h m (adjust g r rows)) p
        (adjust_twice g h r rows ∙ adjust_alike (λ x. g (h x)) (λ x. h (g x)) k r rows ∙ sym (adjust_twice h g r rows)))

-- resetting a binary row forgets the coefficient
binary_again : (w : Sentinel) (t : RowType) (c : ℕ) (h : Float → Float) → T (is_binary t) → (r : Row) → reset_binary_row w t c (with_coefficient c h r) ≡ reset_binary_row w t c r
unfolding reset_binary_row is_binary with_coefficient with_bounds
binary_again w continuous c h t r = absurd t
binary_again w binary_upper c h t r = ap (λ (l : List Element). record { lower = (zero_to_high w).lower; upper = (zero_to_high w).upper; elements = l }) (change_again c (high w) h r.elements)
binary_again w binary_lower c h t r = ap (λ (l : List Element). record { lower = (zero_to_high w).lower; upper = (zero_to_high w).upper; elements = l }) (change_again c (high w) h r.elements)

module _ (w : Sentinel) (d : ℕ) (i : Interval) (y : Float) (c : ℕ) (h : Float → Float) where
  set_either : Dec (d ≡ c) → Either (λ r. with_coefficient d (λ held. y) (with_bounds i r)) (with_coefficient c h)
  unfolding with_coefficient with_bounds
  set_either (yes e) =
      inl (λ r.
      ap (λ (l : List Element). record { lower = i.lower; upper = i.upper; elements = l })
      (subst (λ (k : ℕ). change_coefficient d (λ held. y) (change_coefficient k h r.elements) ≡ change_coefficient d (λ held. y) r.elements) e
      (change_again d y h r.elements)))
  set_either (no n) = inr (λ r. coefficients_past d c (λ held. y) h (with_bounds i r) n)

binary_either : (w : Sentinel) (t : RowType) (d c : ℕ) (h : Float → Float) → Either (reset_binary_row w t d) (with_coefficient c h)
unfolding reset_binary_row
binary_either w continuous d c h = inr (λ r. refl)
binary_either w binary_upper d c h = set_either w d _ (high w) c h (ℕ_discrete d c)
binary_either w binary_lower d c h = set_either w d _ (high w) c h (ℕ_discrete d c)

module _ (w : Sentinel) (e : ℕ) where
  abbrev pub reset_of : NodeRow → Row → Row
  reset_of n = reset_binary_row w n.row_type (e + n.set)

  abbrev change : NodeRow → (Float → Float) → List Row → List Row
  change n h rows = adjust (with_coefficient (e + n.set) h) n.row rows

  -- the reset rows have nothing of a coefficient of theirs
  binary_forgets : (n : NodeRow) (h : Float → Float) → T (is_binary n.row_type) → (ns : List NodeRow) → Memᴰ n ns → (rows : List Row)
      → over_node_rows reset_of ns (change n h rows) ≡ over_node_rows reset_of ns rows
  unfolding over_node_rows
  binary_forgets n h b (m ∷ ns) (Memᴰ.head same) rows =
      ap (over_node_rows reset_of ns)
      (subst (λ (k : NodeRow). adjust (reset_of k) k.row (change n h rows) ≡ adjust (reset_of k) k.row rows) same
      (adjust_twice (reset_of n) (with_coefficient (e + n.set) h) n.row rows
      ∙ adjust_alike (λ r. reset_of n (with_coefficient (e + n.set) h r)) (reset_of n) (binary_again w n.row_type (e + n.set) h b) n.row rows))
  binary_forgets n h b (m ∷ ns) (Memᴰ.tail k) rows =
      go (rows_either (reset_of m) (with_coefficient (e + n.set) h) m.row n.row (binary_either w m.row_type (e + m.set) (e + n.set) h)) (λ a. binary_forgets n h b ns k a)
    where
      go : Either (adjust (reset_of m) m.row) (adjust (with_coefficient (e + n.set) h) n.row) → ((a : List Row) → over_node_rows reset_of ns (change n h a) ≡ over_node_rows reset_of ns a)
          → over_node_rows reset_of ns (adjust (reset_of m) m.row (change n h rows)) ≡ over_node_rows reset_of ns (adjust (reset_of m) m.row rows)
      go (inl q) ih = ap (over_node_rows reset_of ns) (q rows)
      go (inr q) ih = ap (over_node_rows reset_of ns) (q rows) ∙ ih (adjust (reset_of m) m.row rows)
  binary_forgets n h b [] x' rows = elim x' [ ]

-- ---- bounds are set past a coefficient

module _ (c : ℕ) (h : Float → Float) (q : ℕ) where
  abbrev changed : List Row → List Row
  changed rows = adjust (with_coefficient c h) q rows

  bounds_past : (by : Interval) (r : ℕ) (rows : List Row) → adjust (apply_row_bounds by) r (changed rows) ≡ changed (adjust (apply_row_bounds by) r rows)
  unfolding apply_row_bounds with_bounds with_coefficient
  bounds_past by r rows = go (ℕ_discrete r q)
    where
      go : Dec (r ≡ q) → adjust (apply_row_bounds by) r (changed rows) ≡ changed (adjust (apply_row_bounds by) r rows)
      go (no n) = adjusts_apart (apply_row_bounds by) (with_coefficient c h) r q rows n
      go (yes p) =
          subst (λ (m : ℕ). adjust (apply_row_bounds by) r (adjust (with_coefficient c h) m rows) ≡ adjust (with_coefficient c h) m (adjust (apply_row_bounds by) r rows)) p
          (adjust_twice (apply_row_bounds by) (with_coefficient c h) r rows ∙ sym (adjust_twice (with_coefficient c h) (apply_row_bounds by) r rows))

  node_past : (t : RowType) (by : Interval) (r : ℕ) (rows : List Row) → adjust (apply_interval t by) r (changed rows) ≡ changed (adjust (apply_interval t by) r rows)
  unfolding apply_interval
  node_past continuous by r rows = bounds_past by r rows
  node_past binary_upper by r rows = adjust_none r (changed rows) ∙ ap changed (sym (adjust_none r rows))
  node_past binary_lower by r rows = adjust_none r (changed rows) ∙ ap changed (sym (adjust_none r rows))

  nodes_past : (w : Sentinel) (is : List Interval) (ns : List NodeRow) (rows : List Row) → apply_node_rows w is ns (changed rows) ≡ changed (apply_node_rows w is ns rows)
  unfolding apply_node_rows over_node_rows
  nodes_past w is [] rows = refl
  nodes_past w is (n ∷ ns) rows =
      ap (apply_node_rows w is ns) (node_past n.row_type (interval_for w is n) n.row rows)
      ∙ nodes_past w is ns (adjust (apply_interval n.row_type (interval_for w is n)) n.row rows)

  intervals_past : (rs : List ℕ) (is : List Interval) (rows : List Row) → apply_intervals rs is (changed rows) ≡ changed (apply_intervals rs is rows)
  unfolding apply_intervals
  intervals_past [] is rows = refl
  intervals_past (r ∷ rs) [] rows = refl
  intervals_past (r ∷ rs) (i ∷ is) rows = ap (apply_intervals rs is) (bounds_past i r rows) ∙ intervals_past rs is (adjust (apply_row_bounds i) r rows)

-- ---- the reset forgets the bounds

reset_row : (i : Interval) (g : Row → Row) → ((x : Row) → with_bounds i (g x) ≡ with_bounds i x) → (r : ℕ) (rows : List Row) → map (with_bounds i) (adjust g r rows) ≡ map (with_bounds i) rows
unfolding adjust
reset_row i g e r [] = refl
reset_row i g e zero (x ∷ xs) = ap (λ (y : Row). y ∷ map (with_bounds i) xs) (e x)
reset_row i g e (suc r) (x ∷ xs) = ap (λ (l : List Row). with_bounds i x ∷ l) (reset_row i g e r xs)

reset_bounds : (i by : Interval) (x : Row) → with_bounds i (apply_row_bounds by x) ≡ with_bounds i x
unfolding apply_row_bounds with_bounds
reset_bounds i by x = refl

reset_set : (i by : Interval) (x : Row) → with_bounds i (with_bounds by x) ≡ with_bounds i x
unfolding with_bounds
reset_set i by x = refl

reset_node : (i : Interval) (t : RowType) (by : Interval) (x : Row) → with_bounds i (apply_interval t by x) ≡ with_bounds i x
unfolding apply_interval
reset_node i continuous by x = reset_bounds i by x
reset_node i binary_upper by x = refl
reset_node i binary_lower by x = refl

reset_coefficient : (i : Interval) (c : ℕ) (g : Float → Float) (r : ℕ) (rows : List Row)
    → map (with_bounds i) (adjust (with_coefficient c g) r rows) ≡ adjust (with_coefficient c g) r (map (with_bounds i) rows)
unfolding adjust with_coefficient with_bounds
reset_coefficient i c g r [] = refl
reset_coefficient i c g zero (x ∷ xs) = refl
reset_coefficient i c g (suc r) (x ∷ xs) = ap (λ (l : List Row). with_bounds i x ∷ l) (reset_coefficient i c g r xs)

reset_again : (i : Interval) (rows : List Row) → map (with_bounds i) (map (with_bounds i) rows) ≡ map (with_bounds i) rows
unfolding with_bounds
reset_again i [] = refl
reset_again i (x ∷ xs) = ap (λ (l : List Row). with_bounds i x ∷ l) (reset_again i xs)

reset_intervals : (i : Interval) (rs : List ℕ) (is : List Interval) (rows : List Row) → map (with_bounds i) (apply_intervals rs is rows) ≡ map (with_bounds i) rows
unfolding apply_intervals
reset_intervals i [] is rows = refl
reset_intervals i (r ∷ rs) [] rows = refl
reset_intervals i (r ∷ rs) (j ∷ is) rows = reset_intervals i rs is (adjust (apply_row_bounds j) r rows) ∙ reset_row i (apply_row_bounds j) (reset_bounds i j) r rows

reset_nodes : (i : Interval) (w : Sentinel) (is : List Interval) (ns : List NodeRow) (rows : List Row) → map (with_bounds i) (apply_node_rows w is ns rows) ≡ map (with_bounds i) rows
unfolding apply_node_rows over_node_rows
reset_nodes i w is [] rows = refl
reset_nodes i w is (n ∷ ns) rows =
    reset_nodes i w is ns _
    ∙ reset_row i (apply_interval n.row_type (interval_for w is n)) (reset_node i n.row_type (interval_for w is n)) n.row rows

-- ---- a step over what a step left

module _ (w : Sentinel) (shape : Shape) (i : Intervals) where
  abbrev e : ℕ
  e = shape.edge_columns

  abbrev ns : List NodeRow
  ns = shape.node_rows

  -- a step from its aggregates to its coefficients
  abbrev after-nodes : List Row → List Row
  after-nodes rows =
      over_node_rows (reset_of w e) ns
      (apply_intervals (map row_of shape.virtual_storages) i.virtual_storages (apply_intervals shape.aggregates i.aggregates rows))

  after_reset : List Row → List Row
  after_reset rows = after-nodes (apply_node_rows w i.nodes ns rows)

  -- a step up to its coefficients
  abbrev again : List Row → List Row
  again rows = after-nodes (apply_node_rows w i.nodes ns (map (with_bounds (sentinels w)) rows))

  change_forgotten : (n : NodeRow) (h : Float → Float) → T (is_binary n.row_type) → Memᴰ n ns → (rows : List Row) → again (change w e n h rows) ≡ again rows
  unfolding after_reset
  change_forgotten n h b m rows =
      let c : ℕ = e + n.set in
      let r : ℕ = n.row in
      let before : List Row = map (with_bounds (sentinels w)) rows in
      let nodes : List Row = apply_node_rows w i.nodes ns before in
      let groups : List Row = apply_intervals shape.aggregates i.aggregates nodes in
      ap after_reset (reset_coefficient (sentinels w) c h r rows)
      ∙ ap (λ (x : List Row). after-nodes x) (nodes_past c h r w i.nodes ns before)
      ∙ ap (λ (x : List Row). over_node_rows (reset_of w e) ns (apply_intervals (map row_of shape.virtual_storages) i.virtual_storages x))
      (intervals_past c h r shape.aggregates i.aggregates nodes)
      ∙ ap (over_node_rows (reset_of w e) ns) (intervals_past c h r (map row_of shape.virtual_storages) i.virtual_storages groups)
      ∙ binary_forgets w e n h b ns m _

  bounds_forgotten : (by : Interval) (r : ℕ) (rows : List Row) → again (adjust (with_bounds by) r rows) ≡ again rows
  unfolding after_reset
  bounds_forgotten by r rows = ap after_reset (reset_row (sentinels w) (with_bounds by) (reset_set (sentinels w) by) r rows)

  -- a pass over the node rows, each of whose changes is forgotten
  pass_forgotten : (g : NodeRow → Row → Row) (ms : List NodeRow)
      → ((n : NodeRow) → Memᴰ n ms → (rows : List Row) → again (adjust (g n) n.row rows) ≡ again rows)
      → (rows : List Row) → again (over_node_rows g ms rows) ≡ again rows
  unfolding over_node_rows
  pass_forgotten g [] h rows = refl
  pass_forgotten g (n ∷ ms) h rows = pass_forgotten g ms (λ k m a. h k (Memᴰ.tail m) a) _ ∙ h n (Memᴰ.head refl) rows

  coefficient_forgotten : (t : RowType) (n : NodeRow) (x : Interval) → n.row_type ≡ t → Memᴰ n ns → (rows : List Row)
      → again (adjust (apply_coefficient t (e + n.set) x) n.row rows) ≡ again rows
  unfolding apply_coefficient is_binary
  coefficient_forgotten continuous n x q m rows = ap again (adjust_none n.row rows)
  coefficient_forgotten binary_upper n x q m rows = change_forgotten n _ (subst (λ (t : RowType). T (is_binary t)) (sym q) tt) m rows
  coefficient_forgotten binary_lower n x q m rows = change_forgotten n _ (subst (λ (t : RowType). T (is_binary t)) (sym q) tt) m rows

  binary_forgotten : (t : RowType) (n : NodeRow) → n.row_type ≡ t → Memᴰ n ns → (rows : List Row) → again (adjust (reset_binary_row w t (e + n.set)) n.row rows) ≡ again rows
  unfolding reset_binary_row is_binary
  binary_forgotten continuous n q m rows = ap again (adjust_none n.row rows)
  binary_forgotten binary_upper n q m rows =
      ap again (sym (adjust_twice (with_coefficient (e + n.set) _) (with_bounds _) n.row rows))
      ∙ change_forgotten n _ (subst (λ (t : RowType). T (is_binary t)) (sym q) tt) m _
      ∙ bounds_forgotten _ n.row rows
  binary_forgotten binary_lower n q m rows =
      ap again (sym (adjust_twice (with_coefficient (e + n.set) _) (with_bounds _) n.row rows))
      ∙ change_forgotten n _ (subst (λ (t : RowType). T (is_binary t)) (sym q) tt) m _
      ∙ bounds_forgotten _ n.row rows

-- "A step resets varying rows to the sentinels, then applies each interval": what the step before left there counts for nothing
pub step_again : (w : Sentinel) (shape : Shape) (i j : Intervals) (rows : List Row) → step_rows w shape i (step_rows w shape j rows) ≡ step_rows w shape i rows
unfolding step_rows reset_binary_rows apply_coefficients after_reset
step_again w shape i j rows =
    ap (apply_coefficients w shape.edge_columns i.nodes shape.node_rows)
    (pass_forgotten w shape i _ shape.node_rows (λ n m a. coefficient_forgotten w shape i n.row_type n (interval_for w j.nodes n) refl m a) _
    ∙ pass_forgotten w shape i _ shape.node_rows (λ n m a. binary_forgotten w shape i n.row_type n refl m a) _
    ∙ ap (after_reset w shape i)
    (reset_intervals (sentinels w) _ _ _ ∙ reset_intervals (sentinels w) _ _ _ ∙ reset_nodes (sentinels w) w j.nodes shape.node_rows _ ∙ reset_again (sentinels w) rows))

-- ---- a step keeps every row's columns

same_self : (rows : List Row) → SameColumns rows rows
same_self [] = SameColumns.none
same_self (x ∷ xs) = SameColumns.more refl (same_self xs)

same_then : (a b c : List Row) → SameColumns a b → SameColumns b c → SameColumns a c
same_then [] [] [] SameColumns.none SameColumns.none = SameColumns.none
same_then (x ∷ xs) (y ∷ ys) (z ∷ zs) (SameColumns.more p ps) (SameColumns.more q qs) = SameColumns.more (p ∙ q) (same_then xs ys zs ps qs)
same_then [] [] (z ∷ zs) _ x7 = elim x7 [ ]
same_then [] (y ∷ ys) c x5 _ = elim x5 [ ]
same_then (x ∷ xs) [] c x6 _ = elim x6 [ ]
same_then (x ∷ xs) (y ∷ ys) [] _ x10 = elim x10 [ ]

adjust_columns : (g : Row → Row) → ((x : Row) → columns_in (g x) ≡ columns_in x) → (r : ℕ) (rows : List Row) → SameColumns (adjust g r rows) rows
unfolding adjust
adjust_columns g h r [] = SameColumns.none
adjust_columns g h zero (x ∷ xs) = SameColumns.more (h x) (same_self xs)
adjust_columns g h (suc r) (x ∷ xs) = SameColumns.more refl (adjust_columns g h r xs)

bounds_columns : (by : Interval) (x : Row) → columns_in (apply_row_bounds by x) ≡ columns_in x
unfolding columns_in apply_row_bounds with_bounds
bounds_columns by x = refl

node_columns : (t : RowType) (i : Interval) (x : Row) → columns_in (apply_interval t i x) ≡ columns_in x
unfolding apply_interval
node_columns continuous i x = bounds_columns i x
node_columns binary_upper i x = refl
node_columns binary_lower i x = refl

binary_columns : (w : Sentinel) (t : RowType) (c : ℕ) (x : Row) → columns_in (reset_binary_row w t c x) ≡ columns_in x
unfolding reset_binary_row columns_in with_coefficient with_bounds
binary_columns w continuous c x = refl
binary_columns w binary_upper c x = change_columns c _ x.elements
binary_columns w binary_lower c x = change_columns c _ x.elements

coefficient_columns : (t : RowType) (c : ℕ) (i : Interval) (x : Row) → columns_in (apply_coefficient t c i x) ≡ columns_in x
unfolding apply_coefficient columns_in with_coefficient
coefficient_columns continuous c i x = refl
coefficient_columns binary_upper c i x = change_columns c _ x.elements
coefficient_columns binary_lower c i x = change_columns c _ x.elements

pass_columns : (g : NodeRow → Row → Row) → ((n : NodeRow) (x : Row) → columns_in (g n x) ≡ columns_in x) → (ns : List NodeRow) (rows : List Row) → SameColumns (over_node_rows g ns rows) rows
unfolding over_node_rows
pass_columns g h [] rows = same_self rows
pass_columns g h (n ∷ ns) rows = same_then _ _ rows (pass_columns g h ns _) (adjust_columns (g n) (h n) n.row rows)

intervals_columns : (rs : List ℕ) (is : List Interval) (rows : List Row) → SameColumns (apply_intervals rs is rows) rows
unfolding apply_intervals
intervals_columns [] is rows = same_self rows
intervals_columns (r ∷ rs) [] rows = same_self rows
intervals_columns (r ∷ rs) (i ∷ is) rows = same_then _ _ rows (intervals_columns rs is (adjust (apply_row_bounds i) r rows)) (adjust_columns (apply_row_bounds i) (bounds_columns i) r rows)

reset_columns : (i : Interval) (rows : List Row) → SameColumns (map (with_bounds i) rows) rows
unfolding columns_in with_bounds
reset_columns i [] = SameColumns.none
reset_columns i (x ∷ xs) = SameColumns.more refl (reset_columns i xs)

pub step_columns : (w : Sentinel) (shape : Shape) (i : Intervals) (rows : List Row) → SameColumns (step_rows w shape i rows) rows
unfolding step_rows apply_node_rows reset_binary_rows apply_coefficients
step_columns w shape i rows =
    let ns : List NodeRow = shape.node_rows in
    let e : ℕ = shape.edge_columns in
    same_then _ _ rows (pass_columns _ (λ n x. coefficient_columns n.row_type (e + n.set) (interval_for w i.nodes n) x) ns _)
    (same_then _ _ rows (pass_columns _ (λ n x. binary_columns w n.row_type (e + n.set) x) ns _)
    (same_then _ _ rows (intervals_columns _ _ _)
    (same_then _ _ rows (intervals_columns _ _ _)
    (same_then _ _ rows (pass_columns _ (λ n x. node_columns n.row_type (interval_for w i.nodes n) x) ns _) (reset_columns (sentinels w) rows)))))
