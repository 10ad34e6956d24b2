-- `read_step` meets its contract: at each return, what was answered so far.
use Rattle.std.proofs.lemmas.Result.{err_from_is_err_and}
use Rattle.step_record.specs.Check.{answer_then}
use Rattle.step_file.specs.CheckStep.{check_file}
use Rattle.step_file.proofs.LoopLaws.{step_answer_lem}
use Rattle.step_file.proofs.read_step.Goals as goal

pub returns-in_err-check_date : goal.returns-in_err-check_date
unfolding check_file answer_then
returns-in_err-check_date c =
    let p = err_from_is_err_and c.from_residual.result c.from_residual.ensures.1 in
    λ s e. rw (
      step_answer_lem s _ _ _ _ _ e c.from-nodes.ensures c.from-aggregates.ensures c.from-virtual_storages.ensures,
      ← c.check_date.ensures,
      c.in_err-check_date.was,
      p.1,
      p.2,
    )

pub returns-in_err-check_nodes : goal.returns-in_err-check_nodes
unfolding check_file answer_then
returns-in_err-check_nodes c =
    let p = err_from_is_err_and c.from_residual-in_err-check_nodes.result c.from_residual-in_err-check_nodes.ensures.1 in
    λ s e. rw (
      step_answer_lem s _ _ _ _ _ e c.from-nodes.ensures c.from-aggregates.ensures c.from-virtual_storages.ensures,
      ← c.check_date.ensures,
      c.in_ok-check_date.was,
      ← (c.check_nodes.ensures s e),
      c.in_err-check_nodes.was,
      p.1,
      p.2,
    )

pub returns-in_err-check_aggregates : goal.returns-in_err-check_aggregates
unfolding check_file answer_then
returns-in_err-check_aggregates c =
    let p = err_from_is_err_and c.from_residual-in_err-check_aggregates.result c.from_residual-in_err-check_aggregates.ensures.1 in
    λ s e. rw (
      step_answer_lem s _ _ _ _ _ e c.from-nodes.ensures c.from-aggregates.ensures c.from-virtual_storages.ensures,
      ← c.check_date.ensures,
      c.in_ok-check_date.was,
      ← (c.check_nodes.ensures s e),
      c.in_ok-check_nodes.was,
      ← c.check_aggregates.ensures,
      c.in_err-check_aggregates.was,
      p.1,
      p.2,
    )

pub returns-in_err-check_virtual_storages : goal.returns-in_err-check_virtual_storages
unfolding check_file answer_then
returns-in_err-check_virtual_storages c =
    let p = err_from_is_err_and c.from_residual-in_err-check_virtual_storages.result c.from_residual-in_err-check_virtual_storages.ensures.1 in
    λ s e. rw (
      step_answer_lem s _ _ _ _ _ e c.from-nodes.ensures c.from-aggregates.ensures c.from-virtual_storages.ensures,
      ← c.check_date.ensures,
      c.in_ok-check_date.was,
      ← (c.check_nodes.ensures s e),
      c.in_ok-check_nodes.was,
      ← c.check_aggregates.ensures,
      c.in_ok-check_aggregates.was,
      ← c.check_virtual_storages.ensures,
      c.in_err-check_virtual_storages.was,
      p.1,
      p.2,
    )

pub returns : goal.returns
unfolding check_file answer_then
returns c =
    λ s e. rw (
      step_answer_lem s _ _ _ _ _ e c.from-nodes.ensures c.from-aggregates.ensures c.from-virtual_storages.ensures,
      ← c.check_date.ensures,
      c.in_ok-check_date.was,
      ← (c.check_nodes.ensures s e),
      c.in_ok-check_nodes.was,
      ← c.check_aggregates.ensures,
      c.in_ok-check_aggregates.was,
      ← c.check_virtual_storages.ensures,
      c.in_ok-check_virtual_storages.was,
    ) c.check_end.ensures
