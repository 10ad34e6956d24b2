-- A node's interval by its number, over the words of the shape run. Assumes nothing.
use Rattle.std.specs.Prelude.{ℕ, ◌+◌, ◌*◌, List, eqb, Float}
use Rattle.layout.specs.Layout.{nodes_at, node_width, node_kind, node_flag}
use Rattle.pywr.specs.declared.Interval.{Interval}
use Rattle.pywr.specs.declared.Sentinel.{Sentinel}
use Rattle.pywr.specs.StepIntervals.{node_interval}
use Rattle.step_file.specs.Decoded.{node_step_at, node_step_place}

unfoldable pub node_numbered : Sentinel → Float → List ℕ → List ℕ → ℕ → Interval
node_numbered s days shape file k =
    let at : ℕ = nodes_at + node_width * k in
    node_interval s days (node_step_at file (record { kind = node_kind shape at; constant = eqb (node_flag shape at) 1 }) (node_step_place k)).bounds
