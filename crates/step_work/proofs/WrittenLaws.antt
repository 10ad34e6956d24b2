-- A loop that writes intervals into the work run one after another. Assumes nothing.
use mathlib.Core.Path.{◌≡◌, refl, sym, ap, ap₂, ◌∙◌}
use Prim.Native.Nat.{ℕ, ◌+◌, ◌<◌, ◌≤◌}
use native.Mathlib.Nat.{zero-add}
use native.Mathlib.Omega.{arith}
use borrow.Author.Count.{below_none, below_more}
use mathlib.Core.List.{List}
use mathlib.Core.Bool.{Bool, true, false}
use mathlib.Core.Option.{Option, none, some}
use lib.ListN.{length, set, length-set}
use lib.Seq.{get_or-set_same, get_or-set_other}
use lib.Ieee.{Float}
use Rattle.layout.specs.Layout.{step_work_length, uppers_at}
use Rattle.std.specs.Prelude.{Ok, Err}
use Rattle.pywr.specs.declared.Refusal.{Refusal}
use Rattle.pywr.specs.declared.Interval.{Interval}
use Rattle.pywr.specs.Numbers.{zero64}
use Rattle.pywr.specs.StepIntervals.{is_crossed}
use Rattle.step_work.specs.WorkRun.{held_at}
use Rattle.step_work.specs.Written.{Written, WrittenTo, found_answer, Looked}
use Rattle.step_work.proofs.RefusedLaws.{none_refused, first_refused_lem}

-- x written at place k
abbrev pub put : List Float → ℕ → Interval → List Float
put w k x = set (set w k x.lower) (uppers_at + k) x.upper

put_same : (w : List Float) (k : ℕ) (x : Interval) → k < uppers_at → step_work_length ≤ length w → held_at (put w k x) k ≡ x
unfolding held_at
put_same w k x lt long =
    ap₂ (λ (a b : Float). record { lower = a; upper = b })
    (get_or-set_other (set w k x.lower) (uppers_at + k) k x.upper zero64 (λ e. omega arith) ∙ get_or-set_same w k x.lower zero64 (omega arith))
    (get_or-set_same (set w k x.lower) (uppers_at + k) x.upper zero64 (omega (arith, length-set w k x.lower)))

put_other : (w : List Float) (k j : ℕ) (x : Interval) → k < uppers_at → j < k → held_at (put w k x) j ≡ held_at w j
unfolding held_at
put_other w k j x lt less =
    ap₂ (λ (a b : Float). record { lower = a; upper = b })
    (get_or-set_other (set w k x.lower) (uppers_at + k) j x.upper zero64 (λ e. omega arith) ∙ get_or-set_other w k j x.lower zero64 (λ e. omega arith))
    (get_or-set_other (set w k x.lower) (uppers_at + k) (uppers_at + j) x.upper zero64 (λ e. omega arith) ∙ get_or-set_other w k (uppers_at + j) x.lower zero64 (λ e. omega arith))

module _ (f : ℕ → Interval) (base count : ℕ) where
  -- i intervals are written
  pub record Writing (w₀ w : List Float) (i : ℕ) : Type 0 where
    pub few : i ≤ count
    pub long : length w ≡ length w₀
    pub so_far : Written f base i w₀ w

  -- and none of them is crossed
  pub record Passed (w₀ w : List Float) (i : ℕ) : Type 0 where
    pub writing : Writing w₀ w i
    pub ordered : (k : ℕ) → k < i → is_crossed (f k) ≡ false

  pub writing_none : (w : List Float) → Writing w w 0
  writing_none w =
      record {
        few = omega arith;
        long = refl;
        so_far = record { held = below_none (λ (k : ℕ). held_at w (base + k) ≡ f k); kept = λ k lt. refl };
      }

  pub passed_none : (w : List Float) → Passed w w 0
  passed_none w = record { writing = writing_none w; ordered = below_none (λ (k : ℕ). is_crossed (f k) ≡ false) }

module _ {f : ℕ → Interval} {base count : ℕ} {w₀ w : List Float} {i : ℕ} where
  pub writing_more : (at : ℕ) (x : Interval) → at ≡ base + i → base + count ≤ uppers_at → step_work_length ≤ length w₀ → i < count → x ≡ f i
      → Writing f base count w₀ w i → Writing f base count w₀ (put w at x) (i + 1)
  writing_more at x q room enough lt e h =
      record {
        few = omega arith;
        long = length-set (set w at x.lower) (uppers_at + at) x.upper ∙ length-set w at x.lower ∙ h.long;
        so_far =
            record {
              held =
                  below_more (λ (k : ℕ). held_at (put w at x) (base + k) ≡ f k) i
                  (λ k b. put_other w at (base + k) x (omega arith) (omega arith) ∙ h.so_far.held k b)
                  (ap (held_at (put w at x)) (sym q) ∙ put_same w at x (omega arith) (omega (arith, h.long)) ∙ e);
              kept = λ k b. put_other w at k x (omega arith) (omega arith) ∙ h.so_far.kept k b;
            };
      }

  pub writing_all : count ≤ i → Writing f base count w₀ w i → Written f base count w₀ w
  writing_all le h = let e : i ≡ count = omega (arith, h.few) in rw e at h.so_far

  module _ (x : Interval) (b : Bool) (lt : i < count) (e : x ≡ f i) (is : b ≡ is_crossed x) (h : Passed f base count w₀ w i) where
    pub passed_more : (at : ℕ) → at ≡ base + i → base + count ≤ uppers_at → step_work_length ≤ length w₀ → b ≡ false → Passed f base count w₀ (put w at x) (i + 1)
    passed_more at q room enough uncrossed =
        record {
          writing = writing_more at x q room enough lt e h.writing;
          ordered = below_more (λ (k : ℕ). is_crossed (f k) ≡ false) i h.ordered (ap is_crossed (sym e) ∙ sym is ∙ uncrossed);
        }

    -- the first crossed interval ends the loop
    pub passed_stops : b ≡ true → WrittenTo f base count w₀ i w
    passed_stops crossed =
        record {
          few = h.writing.few;
          so_far = h.writing.so_far;
          ordered = h.ordered;
          crossed = λ less. ap is_crossed (sym e) ∙ sym is ∙ crossed;
        }

  pub passed_all : count ≤ i → Passed f base count w₀ w i → WrittenTo f base count w₀ count w
  passed_all le h =
      let e : i ≡ count = omega (arith, h.writing.few) in
      record { few = omega arith; so_far = rw e at h.writing.so_far; ordered = λ k lt. h.ordered k (omega arith); crossed = λ less. absurd (omega arith) }

-- ---- what a test says of the intervals

module _ (test : ℕ → Interval → Option ℕ) (f : ℕ → Interval) (base count : ℕ) (w₀ w : List Float) where
  pub looked_refused : (number i : ℕ) → i < count → ((k : ℕ) → k < i → test k (f k) ≡ none) → test i (f i) ≡ some number → Looked test f base count w₀ (Err (record { number = number; place = i })) w
  unfolding found_answer
  looked_refused number i lt before here =
      let refusal : ℕ → Refusal = λ (n : ℕ). record { number = number; place = n } in
      let said : ℕ → Option ℕ = λ (k : ℕ). test k (f k) in
      record {
        answer = ap (λ (n : ℕ). Err (refusal n)) (sym (zero-add i))
            ∙ sym (ap found_answer (first_refused_lem test f count 0 i number lt (λ k less. ap said (zero-add k) ∙ before k less) (ap said (zero-add i) ∙ here)));
        written = λ a. absurd (let z : ◌≡◌ {A = ℕ} 0 1 = cc in omega arith);
      }

  pub looked_all : ((k : ℕ) → k < count → test k (f k) ≡ none) → Written f base count w₀ w → Looked test f base count w₀ (Ok tt) w
  unfolding found_answer
  looked_all all held =
      record {
        answer = sym (ap found_answer (none_refused test f count 0 (λ k less. ap (λ (n : ℕ). test n (f n)) (zero-add k) ∙ all k less)));
        written = λ a. held;
      }
