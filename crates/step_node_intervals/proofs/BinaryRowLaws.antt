-- One pass over the node rows finds the least node that 21 refuses. Assumes nothing.
use mathlib.Core.Path.{◌≡◌, refl, sym, ap, ◌∙◌}
use Prim.Native.Nat.{ℕ, zero, suc, ◌+◌, ◌*◌, ◌<◌, ◌≤◌}
use native.Mathlib.Numerals.{add-one}
use native.Mathlib.Omega.{arith}
use borrow.Author.Tests.{lt-ltb, le-ltb, ne_eqb}
use mathlib.Core.Bool.{Bool, true, false, cond, ◌&&◌, ◌||◌}
use mathlib.Core.List.{List}
use lib.ListN.{length, get_or}
use lib.Dec.{eqb, ltb, ltb→lt, eqb→eq, eqb_refl}
use lib.Ieee.{Float, nan}
use lib.Ieee.Fits.{and_l, and_r}
use Rattle.layout.specs.Layout.{node_ceiling, step_work_length, uppers_at, node_row_node, node_row_type, node_rows_at, node_row_width}
use Rattle.laws.proofs.Runs.{get_d_any}
use Rattle.laws.proofs.Tests.{of_true, to_true}
use Rattle.pywr.specs.declared.Sentinel.{Sentinel}
use Rattle.pywr.specs.Numbers.{zero64}
use Rattle.pywr.specs.Programme.{NodeRow}
use Rattle.pywr.specs.StepIntervals.{is_beyond, is_binary, has_binary_row}
use Rattle.pywr.specs.Store.{row_type_of, entries}
use Rattle.pywr.proofs.EntryLaws.{first_entry, next_entry}
use Rattle.step_work.specs.WorkRun.{held_at}
use Rattle.step_node_intervals.specs.BinaryRows.{node_row_at, node_rows_of, beyond_at, binary_beyond, lesser_beyond, LeastOf}

-- ---- tests

or_none : (a : Bool) → (a || false) ≡ a
or_none true = refl
or_none false = refl

or_assoc : (a b c : Bool) → (a || (b || c)) ≡ ((a || b) || c)
or_assoc true b c = refl
or_assoc false b c = refl

neither : (a b c : Bool) → (a && c) ≡ false → (b && c) ≡ false → ((a || b) && c) ≡ false
neither true b c p q = p
neither false b c p q = q

first_holds : (a b c : Bool) → (a && c) ≡ true → ((a || b) && c) ≡ true
first_holds true b c p = p
first_holds false b c p = absurd (of_true false p)

second_holds : (a c : Bool) → c ≡ true → ((a || true) && c) ≡ true
second_holds true c p = p
second_holds false c p = p

-- ---- one row

is_binary_lem : (t : ℕ) → (t ≡ 0 → ⊥) → is_binary (row_type_of t) ≡ true
unfolding row_type_of is_binary
is_binary_lem zero h = absurd (h refl)
is_binary_lem (suc zero) h = refl
is_binary_lem (suc (suc t)) h = refl

module _ (s : Sentinel) (work : List Float) (shape : List ℕ) (at first node : ℕ) (e : node ≡ node_row_node shape at) where
  pub row_passed : first ≤ node → first ≡ lesser_beyond s work (node_row_at shape at) first
  unfolding lesser_beyond node_row_at
  row_passed le = rw (← e, le-ltb node first le)

  pub row_continuous : node_row_type shape at ≡ 0 → first ≡ lesser_beyond s work (node_row_at shape at) first
  unfolding lesser_beyond node_row_at row_type_of is_binary
  row_continuous c = go (ltb (node_row_node shape at) first)
    where
      go : (b : Bool) → first ≡ cond (b && (is_binary (row_type_of (node_row_type shape at)) && beyond_at s work (node_row_node shape at))) (node_row_node shape at) first
      go true = rw c
      go false = refl

  module _ (under : node < first) (binary : node_row_type shape at ≡ 0 → ⊥) (few : first ≤ node_ceiling) (long : step_work_length ≤ length work) (a b : Bool)
      (lower_is : a ≡ is_beyond s (get_or work node nan)) (upper_is : b ≡ is_beyond s (get_or work (uppers_at + node) nan)) where
    row_binary : lesser_beyond s work (node_row_at shape at) first ≡ cond (a || b) node first
    unfolding lesser_beyond node_row_at held_at
    row_binary =
        rw (
          ← e,
          lt-ltb node first under,
          is_binary_lem (node_row_type shape at) binary,
          lower_is,
          upper_is,
          get_d_any work node nan zero64 (omega arith),
          get_d_any work (uppers_at + node) nan zero64 (omega arith),
        )

    pub row_beyond : (a || b) ≡ true → node ≡ lesser_beyond s work (node_row_at shape at) first
    row_beyond q = sym (row_binary ∙ ap (λ (x : Bool). cond x node first) q)

    pub row_within : (a || b) ≡ false → first ≡ lesser_beyond s work (node_row_at shape at) first
    row_within q = sym (row_binary ∙ ap (λ (x : Bool). cond x node first) q)

-- ---- the rows read so far

-- a binary row names this node
abbrev names : NodeRow → ℕ → Bool
names n node = eqb n.node node && is_binary n.row_type

has_more : (row : ℕ → NodeRow) (words at count node : ℕ)
    → has_binary_row (entries row words at (suc count)) node ≡ (has_binary_row (entries row words at count) node || names (row (at + words * count)) node)
unfolding entries has_binary_row
has_more row words at zero node = or_none (names (row at) node) ∙ ap (λ (p : ℕ). names (row p) node) (first_entry words at)
has_more row words at (suc count) node =
    ap (λ (x : Bool). names (row at) node || x)
    (has_more row words (at + words) count node
    ∙ ap (λ (p : ℕ). has_binary_row (entries row words (at + words) count) node || names (row p) node) (next_entry words at count))
    ∙ or_assoc (names (row at) node) (has_binary_row (entries row words (at + words) count) node) (names (row (at + words * suc count)) node)

-- one row more
module _ (has more : ℕ → Bool) (n : NodeRow) (is : (k : ℕ) → more k ≡ (has k || names n k)) (beyond : ℕ → Bool) (bound first : ℕ) (h : LeastOf (λ k. has k && beyond k) bound first) where
  -- the row's node is such a node, and under those found before
  least_lower : n.node < first → is_binary n.row_type ≡ true → beyond n.node ≡ true → LeastOf (λ k. more k && beyond k) bound n.node
  least_lower under binary far =
      record {
        few = omega (arith, h.few);
        holds = λ lt. rw (is n.node, to_true (eqb n.node n.node) (eqb_refl n.node), binary) (second_holds (has n.node) (beyond n.node) far);
        before = λ k lt. rw (is k, ne_eqb n.node k (λ q. omega arith), or_none (has k)) (h.before k (omega arith));
      }

  least_kept : (n.node < first → (is_binary n.row_type && beyond n.node) ≡ false) → LeastOf (λ k. more k && beyond k) bound first
  least_kept not-here =
      record {
        few = h.few;
        holds = λ lt. rw (is first) (first_holds (has first) (names n first) (beyond first) (h.holds lt));
        before = λ k lt. rw (is k) (neither (has k) (names n k) (beyond k) (h.before k lt) (here k lt (eqb n.node k) refl));
      }
    where
      here : (k : ℕ) → k < first → (b : Bool) → eqb n.node k ≡ b → (names n k && beyond k) ≡ false
      here k lt false q = rw q
      here k lt true q =
          let same : n.node ≡ k = eqb→eq n.node k (of_true (eqb n.node k) q) in
          rw (q, ← same) (not-here (omega arith))

-- ---- the loop

module _ (s : Sentinel) (work : List Float) (shape : List ℕ) (bound : ℕ) where
  -- the least such node of the first i rows
  abbrev pub LeastTo : ℕ → ℕ → Type 0
  LeastTo i first = LeastOf (binary_beyond s (node_rows_of shape i) work) bound first

  pub least_none : LeastTo 0 bound
  unfolding entries has_binary_row
  least_none = record { few = omega arith; holds = λ lt. absurd (omega arith); before = λ k lt. refl }

  pub least_more : (i first r : ℕ) → r ≡ lesser_beyond s work (node_row_at shape (node_rows_at + node_row_width * i)) first → LeastTo i first → LeastTo (i + 1) r
  unfolding lesser_beyond
  least_more i first r e h = rw (e, add-one i) (go (ltb n.node first && (is_binary n.row_type && beyond_at s work n.node)) refl)
    where
      n : NodeRow
      n = node_row_at shape (node_rows_at + node_row_width * i)

      has : ℕ → Bool
      has k = has_binary_row (node_rows_of shape i) k

      more : ℕ → Bool
      more k = has_binary_row (node_rows_of shape (suc i)) k

      is : (k : ℕ) → more k ≡ (has k || names n k)
      is k = has_more (node_row_at shape) node_row_width node_rows_at i k

      go : (x : Bool) → (ltb n.node first && (is_binary n.row_type && beyond_at s work n.node)) ≡ x → LeastTo (suc i) (cond x n.node first)
      go true q =
          let t = of_true (ltb n.node first && (is_binary n.row_type && beyond_at s work n.node)) q in
          let u = and_r (ltb n.node first) (is_binary n.row_type && beyond_at s work n.node) t in
          least_lower has more n is (beyond_at s work) bound first h
          (ltb→lt n.node first (and_l (ltb n.node first) (is_binary n.row_type && beyond_at s work n.node) t))
          (to_true (is_binary n.row_type) (and_l (is_binary n.row_type) (beyond_at s work n.node) u))
          (to_true (beyond_at s work n.node) (and_r (is_binary n.row_type) (beyond_at s work n.node) u))
      go false q = least_kept has more n is (beyond_at s work) bound first h (λ under. rw (lt-ltb n.node first under) at q)

  pub least_all : (count i first : ℕ) → count ≤ i → i ≤ count → LeastTo i first → LeastTo count first
  least_all count i first le few h = let e : i ≡ count = omega arith in rw e at h
