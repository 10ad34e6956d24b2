-- `node_row_fits` meets its contract: the row's end lies within the columns.
use native.Mathlib.Omega.{arith}
use Prim.Native.Nat.{◌+◌}
use Rattle.store_rows.proofs.Starts.{start_under}
use Rattle.store_node_rows.proofs.node_row_fits.Goals as goal

pub row_holds-requires : goal.row_holds-requires
row_holds-requires c = omega (arith, start_under c.requires.0.starts (c.from-r.result + 1) (omega arith))
