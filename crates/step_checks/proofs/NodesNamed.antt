-- Each node row of a well-shaped store names one of its nodes. Assumes nothing.
use Prim.Native.Nat.{ℕ, ◌+◌, ◌*◌, ◌<◌}
use mathlib.Core.Path.{◌≡◌}
use mathlib.Core.Bool.{Bool, true, ◌&&◌}
use lib.Dec.{leb, ltb, ltb→lt}
use lib.Ieee.Fits.{and_l}
use Rattle.layout.specs.Layout.{node_row_node, node_row_row, node_row_type}
use Rattle.laws.proofs.Tests.{of_true}
use Rattle.pywr.specs.Store.{Store, node_count, node_row_count, varying_count, node_rows_at}
use Rattle.pywr.specs.Misshapen.{node_row_fits}
use Rattle.store_shape.proofs.Entries.{entry_passes}
use Rattle.store.proofs.Passed.{Shaped}

node_row_named : (s : Store) (at : ℕ) → node_row_fits s at ≡ true → node_row_node s.shape at < node_count s
unfolding node_row_fits
node_row_named s at e =
    let a : Bool = ltb (node_row_node s.shape at) (node_count s) in
    let b : Bool = ltb (node_row_row s.shape at) (varying_count s) in
    let c : Bool = leb (node_row_type s.shape at) 2 in
    ltb→lt (node_row_node s.shape at) (node_count s) (and_l a b (and_l (a && b) c (and_l (a && b && c) _ (of_true _ e))))

pub node_rows_named : (s : Store) → Shaped s → (k : ℕ) → k < node_row_count s → node_row_node s.shape (node_rows_at + 4 * k) < node_count s
node_rows_named s h k lt = node_row_named s (node_rows_at + 4 * k) (entry_passes (node_row_fits s) 4 (node_row_count s) node_rows_at h.node_rows_lem k lt)
