-- `step_checks::judge` meets its contract.
use mathlib.Core.Path.{◌≡◌, refl, sym, ◌∙◌}
use mathlib.Core.Bool.{true}
use Rattle.std.proofs.lemmas.Result.{err_from_is_err_and}
use Rattle.pywr.specs.Store.{Store}
use Rattle.pywr.specs.Misshapen.{well_shaped}
use Rattle.step_intervals.specs.Found.{intervals_in}
use Rattle.store_rows.proofs.Starts.{of_runs}
use Rattle.store.proofs.Passed.{shaped}
use Rattle.step_checks.proofs.NodesNamed.{node_rows_named}
use Rattle.step_checks.proofs.JudgeLaws.{judged_shape, judged_file, long, judged_intervals}
use borrow.Author.Rules.{rules}
use Rattle.step_checks.proofs.judge.Goals.{Else-not-well_shaped}
use Rattle.step_checks.proofs.judge.Goals as goal

-- a store over the runs that were lent
abbrev lent : Else-not-well_shaped → Store
lent c = of_runs c.args.columns.now c.args.row_starts.now c.args.shape.now

-- it is well shaped behind the first `if`
is-shaped : (c : Else-not-well_shaped) → well_shaped (lent c) ≡ true
is-shaped c = sym (c.well_shaped.ensures (lent c) refl refl refl) ∙ c.if-not-well_shaped.false

pub returns-then-not-well_shaped : goal.returns-then-not-well_shaped
returns-then-not-well_shaped c =
    λ s ec es eh. rw c.at.ensures (judged_shape s c.args.file.now _ (sym (c.well_shaped.ensures s ec es eh) ∙ c.if-not-well_shaped.true))

pub walk_file-requires : goal.walk_file-requires
walk_file-requires c =
    let h = shaped (lent (goal.at.walk_file-requires c).Else-not-well_shaped) (is-shaped (goal.at.walk_file-requires c).Else-not-well_shaped) in
    let n = h.counts in
    (c.requires.2, c.requires.3, n.nodes, n.node_rows_lem, n.aggregates, n.virtual_storages, node_rows_named (lent (goal.at.walk_file-requires c).Else-not-well_shaped) h)

pub returns-then-walk_file : goal.returns-then-walk_file
unfolding intervals_in
returns-then-walk_file c =
    λ s ec es eh.
    let walked = c.walk_file.ensures c.if-walk_file.true s eh in
    judged_intervals s c.args.file.now _ (sym (c.well_shaped.ensures s ec es eh) ∙ c.if-not-well_shaped.false)
    (sym walked.read) _ walked.found.answer walked.found.held

pub read_step-requires : goal.read_step-requires
read_step-requires c =
    let n = (shaped (lent (goal.at.read_step-requires c).Else-not-well_shaped) (is-shaped (goal.at.read_step-requires c).Else-not-well_shaped)).counts in
    (c.requires.2, n.nodes, n.aggregates, n.virtual_storages)

pub find_intervals-requires : goal.find_intervals-requires
find_intervals-requires c =
    let n = (shaped (lent (goal.at.find_intervals-requires c).Else-not-well_shaped) (is-shaped (goal.at.find_intervals-requires c).Else-not-well_shaped)).counts in (
      c.requires.2,
      search rules,
      n.nodes,
      n.node_rows_lem,
      n.aggregates,
      n.virtual_storages,
      long (lent (goal.at.find_intervals-requires c).Else-not-well_shaped) c.args.file.now c.args.work.now (is-shaped (goal.at.find_intervals-requires c).Else-not-well_shaped)
          (sym c.in_ok-read_step.was ∙ c.read_step.ensures (lent (goal.at.find_intervals-requires c).Else-not-well_shaped) refl),
    )

pub returns-in_err-read_step : goal.returns-in_err-read_step
returns-in_err-read_step c =
    let p = err_from_is_err_and c.from_residual.result c.from_residual.ensures.1 in
    λ s ec es eh. rw (p.1, p.2)
    (judged_file s c.args.file.now _ (sym (c.well_shaped.ensures s ec es eh) ∙ c.if-not-well_shaped.false)
    (sym c.in_err-read_step.was ∙ c.read_step.ensures s eh))

pub returns : goal.returns
unfolding intervals_in
returns c =
    λ s ec es eh.
    judged_intervals s c.args.file.now _ (sym (c.well_shaped.ensures s ec es eh) ∙ c.if-not-well_shaped.false)
    (sym c.in_ok-read_step.was ∙ c.read_step.ensures s eh)
    c.find_intervals.result (c.find_intervals.ensures s eh).answer (c.find_intervals.ensures s eh).held
