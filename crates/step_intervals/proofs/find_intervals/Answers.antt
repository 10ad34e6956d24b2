-- `find_intervals` meets its contract: the three loops one after the other.
use Rattle.std.proofs.lemmas.Result.{err_from_is_err_and}
use Rattle.step_intervals.proofs.FoundLaws.{nodes_refuse, all_found}
use Rattle.step_intervals.proofs.find_intervals.Goals as goal

pub returns-in_err-find_node_intervals : goal.returns-in_err-find_node_intervals
returns-in_err-find_node_intervals c =
    let p = err_from_is_err_and c.from_residual.result c.from_residual.ensures.1 in
    λ s e. rw (p.1, p.2)
    (nodes_refuse s c.args.shape.now c.args.file.now e c.days-days.result c.days-days.ensures c.kept_sentinel-sentinel.result
    c.kept_sentinel-sentinel.ensures _ _ _ c.find_node_intervals.ensures _ c.in_err-find_node_intervals.was)

pub returns : goal.returns
returns c =
    λ s e. all_found s c.args.shape.now c.args.file.now e c.days-days.result c.days-days.ensures c.kept_sentinel-sentinel.result
    c.kept_sentinel-sentinel.ensures _ _ _ c.find_node_intervals.ensures c.requires.2 c.requires.4
    c.in_ok-find_node_intervals.was _ _ c.find_aggregate_intervals.ensures c.find_virtual_storage_intervals.ensures
