-- `walk_file` meets its contract: the tables one after the other, each good.
use mathlib.Core.Path.{sym, ◌∙◌}
use native.Mathlib.Omega.{arith}
use Rattle.step_walk.proofs.WalkLaws.{stopped, passed_check}
use Rattle.step_walk.proofs.FileLaws.{file_walked}
use Rattle.step_walk.proofs.walk_file.Goals as goal

pub returns-then-file-length : goal.returns-then-file-length
returns-then-file-length c = stopped

pub returns-then-not-walk_nodes : goal.returns-then-not-walk_nodes
returns-then-not-walk_nodes c = stopped

pub returns-then-not-none_beyond : goal.returns-then-not-none_beyond
returns-then-not-none_beyond c = stopped

pub returns-then-not-walk_aggregates : goal.returns-then-not-walk_aggregates
returns-then-not-walk_aggregates c = stopped

pub returns-then-is_err : goal.returns-then-is_err
returns-then-is_err c = stopped

pub returns : goal.returns
returns c =
    λ good s e. file_walked s c.args.shape.now c.args.file.now e
    (omega (arith, c.if-file-length.false, c.from-nodes.ensures, c.from-aggregates.ensures, c.from-virtual_storages.ensures))
    (sym c.check_date.ensures ∙ passed_check _ (sym c.is_err.ensures.value ∙ c.if-is_err.false)) c.days-days.result c.days-days.ensures c.kept_sentinel-sentinel.result
    c.kept_sentinel-sentinel.ensures _ _ _ _
    (c.walk_nodes.ensures (c.if-not-walk_nodes.false))
    (c.none_beyond.ensures (c.if-not-none_beyond.false))
    (c.walk_aggregates.ensures (c.if-not-walk_aggregates.false))
    (c.walk_virtual_storages.ensures good)
    c.requires.2 c.requires.4
