-- A virtual storage's interval by its number. Assumes nothing.
use Rattle.std.specs.Prelude.{ℕ, ◌+◌, ◌*◌, List, Float}
use Rattle.layout.specs.Layout.{virtual_storages_at, virtual_storage_width, nodes_in, aggregates_in}
use Rattle.pywr.specs.declared.Interval.{Interval}
use Rattle.pywr.specs.declared.Sentinel.{Sentinel}
use Rattle.step_file.specs.Decoded.{virtual_storage_step_place}
use Rattle.step_virtual_interval.specs.VirtualInterval.{virtual_interval_at}

unfoldable pub virtual_storage_numbered : Sentinel → Float → List ℕ → List ℕ → ℕ → Interval
virtual_storage_numbered s days shape file k =
    virtual_interval_at s days shape file (virtual_storages_at + virtual_storage_width * k) (virtual_storage_step_place (nodes_in shape) (aggregates_in shape) k)
