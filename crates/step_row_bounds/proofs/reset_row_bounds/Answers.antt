-- `step_row_bounds::reset_row_bounds` meets its contract.
use mathlib.Core.Path.{◌∙◌}
use Rattle.pywr.specs.Interval.{sentinels}
use Rattle.step_row_bounds.proofs.AdjustLaws.{reset}
use Rattle.step_row_bounds.proofs.reset_row_bounds.Goals as goal

pub returns-clause-rows : goal.returns-clause-rows
unfolding sentinels
returns-clause-rows c =
    λ rows e.
    reset _ rows _ _ _ _ _ e
    (c.fill.ensures ∙ rw (c.from-rows.ensures, c.low.ensures, c.kept_sentinel-sentinel.ensures))
    (c.fill-2.ensures ∙ rw (c.from-rows.ensures, c.high.ensures, c.kept_sentinel-sentinel.ensures))
