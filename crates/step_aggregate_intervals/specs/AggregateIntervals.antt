-- An aggregate's interval by its number, over the words of the shape run. Assumes nothing.
use Rattle.std.specs.Prelude.{ℕ, List}
use Rattle.layout.specs.Layout.{nodes_in}
use Rattle.pywr.specs.declared.Interval.{Interval}
use Rattle.step_file.specs.Decoded.{aggregate_step_at, aggregate_step_place}

unfoldable pub aggregate_numbered : List ℕ → List ℕ → ℕ → Interval
aggregate_numbered shape file k = aggregate_step_at file (aggregate_step_place (nodes_in shape) k)
