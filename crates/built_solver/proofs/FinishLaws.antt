-- The answers of a step: a buffer is short, the file is refused, or the step is written. Assumes nothing.
use mathlib.Core.Path.{◌≡◌, refl, sym, ◌∙◌, ap}
use Prim.Native.Nat.{ℕ, ◌+◌}
use mathlib.Core.List.{List}
use mathlib.Core.Bool.{true, false, ◌&&◌}
use lib.ListN.{length, get_or, replicate}
use lib.Dec.{ltb}
use lib.Seq.{sets}
use lib.Ieee.{Float}
use Rattle.layout.specs.Layout.{flow_order_at}
use Rattle.std.specs.Prelude.{Ok, Err}
use Rattle.std.specs.Result.{is_ok}
use Rattle.pywr.specs.declared.Reason.{Reason}
use Rattle.pywr.specs.Answer.{Answer}
use Rattle.pywr.specs.Result.{Result, value, refused, ◌>>=◌, need}
use Rattle.pywr.specs.Answers.{answer_of, refusal_at}
use Rattle.pywr.specs.Numbers.{zero64}
use Rattle.pywr.specs.Costs.{step_costs}
use Rattle.pywr.specs.Step.{stepped}
use Rattle.pywr.specs.Store.{Store, edge_count, edges_at, shape_of, column_count}
use Rattle.pywr.specs.Misshapen.{edge_fits, flow_order_fits, all_entries}
use Rattle.pywr.specs.Written.{stepped_store}
use Rattle.pywr.specs.Calls.{cleared, step_room, step_read, step_intervals, step_answer, store_of_step, step_store, step_work, is_accepted, AfterStep}
use Rattle.step_costs.proofs.CostLaws.{stepped_costs}
use Rattle.step_rows.specs.ConstraintBounds.{StepWritten}
use Rattle.pywr.proofs.Companions.{refused_leaves_store}
use Rattle.step_checks.specs.Judged.{decoded_by, Judged}

-- the store of nine runs
abbrev pub store_of : List Float → List Float → List Float → List Float → List Float → List Float → List ℕ → List ℕ → List ℕ → Store
store_of col_lower col_upper col_obj_coef row_lower row_upper elements columns row_starts shape =
    record {
      col_lower = col_lower;
      col_upper = col_upper;
      col_obj_coef = col_obj_coef;
      row_lower = row_lower;
      row_upper = row_upper;
      elements = elements;
      columns = columns;
      row_starts = row_starts;
      shape = shape;
    }

-- the edges' test and the flow order's read the shape run alone
pub edges_fit : (s t : Store) → s.shape ≡ t.shape → all_entries (edge_fits t) 3 edges_at (edge_count t) ≡ true → all_entries (edge_fits s) 3 edges_at (edge_count s) ≡ true
unfolding edge_fits
edges_fit s t e h = ap (λ (w : List ℕ). all_entries
    (λ (at : ℕ). ltb (get_or w at 0) (get_or w 1 0) && ltb (get_or w (at + 1) 0) (get_or w 1 0) && ltb (get_or w (at + 2) 0) (get_or w 3 0)) 3 edges_at (get_or w 2 0)) e ∙ h

pub order_fits : (s t : Store) → s.shape ≡ t.shape → all_entries (flow_order_fits t) 1 flow_order_at (edge_count t) ≡ true
    → all_entries (flow_order_fits s) 1 flow_order_at (edge_count s) ≡ true
unfolding flow_order_fits
order_fits s t e h = ap (λ (w : List ℕ). all_entries (λ (at : ℕ). ltb (get_or w at 0) (get_or w 2 0)) 1 flow_order_at (get_or w 2 0)) e ∙ h

-- what a test of an answer tells
pub was_ok : (r : Answer) → is_ok r ≡ true → r ≡ Ok tt
was_ok (Ok u) e = refl
was_ok (Err refusal) e = cc

accepted_is : {A : Type 0} (x : Result A) → is_accepted x ≡ is_ok (answer_of x)
unfolding is_accepted answer_of
accepted_is (value f) = refl
accepted_is (refused n p) = refl

module _ (file : List ℕ) (old : Store) (work : List Float) where
  -- 16: nothing is changed
  pub short : step_room old work ≡ false → AfterStep file old work (Err (refusal_at Reason.ShortBuffer 0)) old work
  unfolding step_answer step_read step_store store_of_step step_work cleared need ◌>>=◌ answer_of
  short e = record { answer = rw e; store = rw e; work_left = rw e }

  module _ (room : step_room old work ≡ true) (r : Answer) (held : List Float) (judged : Judged old file r held)
      (work' : List Float) (zeroed : work' ≡ replicate (length held) zero64) (kept : length held ≡ length work) where
    work_is : work' ≡ step_work old work
    unfolding step_work cleared
    work_is = rw room (zeroed ∙ ap (λ (k : ℕ). replicate k zero64) kept)

    -- 12 to 14, 17, 21: the store is as it was
    pub refuse : is_ok r ≡ false → AfterStep file old work r old work'
    refuse e =
        let told = judged.answer work room in
        record {
          answer = told;
          store = sym (refused_leaves_store old file work (accepted_is (step_answer old file work) ∙ ap (λ (a : Answer). is_ok a) (sym told) ∙ e));
          work_left = work_is;
        }

    -- the step is written
    pub finish : is_ok r ≡ true → {costs row_lower row_upper elements : List Float}
        → costs ≡ sets old.col_obj_coef 0 (step_costs (shape_of old) (column_count old) (decoded_by old file).nodes)
        → StepWritten old (step_intervals old (decoded_by old file)) row_lower row_upper elements
        → AfterStep file old work r
        (record {
          col_lower = old.col_lower;
          col_upper = old.col_upper;
          col_obj_coef = costs;
          row_lower = row_lower;
          row_upper = row_upper;
          elements = elements;
          columns = old.columns;
          row_starts = old.row_starts;
          shape = old.shape;
        }) work'
    unfolding step_store store_of_step stepped_store stepped step_intervals answer_of
    finish e {costs} {row_lower} {row_upper} {elements} cw w =
        let told = judged.read work room (was_ok r e) in
        record {
          answer = judged.answer work room;
          store = rw (told, cw, w.lowers, w.uppers, w.factors, stepped_costs old (decoded_by old file).nodes);
          work_left = work_is;
        }
