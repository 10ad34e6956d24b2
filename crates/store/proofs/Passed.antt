-- What a store has whose lengths, counts and shape passed their tests. Assumes nothing.
use mathlib.Core.Path.{◌≡◌, refl, sym, ◌∙◌}
use Prim.Native.Nat.{ℕ, ◌+◌, ◌≤◌}
use mathlib.Core.Bool.{Bool, true, ◌&&◌}
use mathlib.Core.List.{List, []}
use lib.ListN.{length, get_or}
use lib.Dec.{leb, eqb, leb→le}
use lib.Ieee.Fits.{and_l, and_r}
use Rattle.layout.specs.Layout.{flow_order_at, makers_at, node_row_ceiling, row_starts_length, shape_length}
use Rattle.laws.proofs.Tests.{of_true, to_true}
use Rattle.pywr.specs.Store.{Store, store_has_room, sentinel_code, node_count, edge_count, edge_column_count, set_count, row_count, elements_kept}
use Rattle.pywr.specs.Store.{node_row_count, aggregate_count, virtual_storage_count, nodes_at, edges_at, node_rows_at, aggregates_at, virtual_storages_at, start_of}
use Rattle.pywr.specs.Misshapen.{counts_fit, starts_rise, row_columns_rise, all_entries, well_shaped}
use Rattle.pywr.specs.Misshapen.{node_fits, edge_fits, node_row_fits, aggregate_fits, virtual_storage_fits, maker_fits, flow_order_fits}
use Rattle.pywr.proofs.Represents.{Roomy}
use Rattle.pywr.proofs.DemandThree.{roomy_parts}
use Rattle.store_shape.proofs.Entries.{of_shape}
use Rattle.store_rows.specs.Starts.{StartsRise, RowsWithin}
use Rattle.store_rows.proofs.Starts.{of_runs, starts_told}
use Rattle.store.specs.Reading.{Lengths}

pub lengths : (s : Store) → Lengths s (length s.col_lower) (length s.col_upper) (length s.col_obj_coef) (length s.row_lower) (length s.row_upper)
    (length s.elements) (length s.columns) (length s.row_starts) (length s.shape)
lengths s = record { col_lower = refl; col_upper = refl; col_obj_coef = refl; row_lower = refl; row_upper = refl; elements = refl; columns = refl; row_starts = refl; shape = refl }

pub roomy : (s : Store) → store_has_room s ≡ true → Roomy s
roomy s e = roomy_parts s (of_true (store_has_room s) e)

pub record Counted (s : Store) : Type 0 where
  pub nodes : node_count s ≤ 256
  pub edges : edge_count s ≤ 512
  pub edge_columns_lem : edge_column_count s ≤ 512
  pub sets : set_count s ≤ 128
  pub rows : row_count s ≤ 1024
  pub kept : elements_kept s ≤ 4096
  pub node_rows_lem : node_row_count s ≤ node_row_ceiling
  pub aggregates : aggregate_count s ≤ 64
  pub virtual_storages : virtual_storage_count s ≤ 32

pub counted : (s : Store) → counts_fit s ≡ true → Counted s
unfolding counts_fit
counted s q =
    let a : Bool = leb (node_count s) 256 in
    let b : Bool = leb (edge_count s) 512 in
    let c : Bool = leb (edge_column_count s) 512 in
    let d : Bool = leb (set_count s) 128 in
    let e : Bool = leb (row_count s) 1024 in
    let f : Bool = leb (elements_kept s) 4096 in
    let g : Bool = leb (node_row_count s) node_row_ceiling in
    let h : Bool = leb (aggregate_count s) 64 in
    let i : Bool = leb (virtual_storage_count s) 32 in
    let h9 = of_true (a && b && c && d && e && f && g && h && i) q in
    let h8 = and_l (a && b && c && d && e && f && g && h) i h9 in
    let h7 = and_l (a && b && c && d && e && f && g) h h8 in
    let h6 = and_l (a && b && c && d && e && f) g h7 in
    let h5 = and_l (a && b && c && d && e) f h6 in
    let h4 = and_l (a && b && c && d) e h5 in
    let h3 = and_l (a && b && c) d h4 in
    let h2 = and_l (a && b) c h3 in
    record {
      nodes = leb→le (node_count s) 256 (and_l a b h2);
      edges = leb→le (edge_count s) 512 (and_r a b h2);
      edge_columns_lem = leb→le (edge_column_count s) 512 (and_r (a && b) c h3);
      sets = leb→le (set_count s) 128 (and_r (a && b && c) d h4);
      rows = leb→le (row_count s) 1024 (and_r (a && b && c && d) e h5);
      kept = leb→le (elements_kept s) 4096 (and_r (a && b && c && d && e) f h6);
      node_rows_lem = leb→le (node_row_count s) node_row_ceiling (and_r (a && b && c && d && e && f) g h7);
      aggregates = leb→le (aggregate_count s) 64 (and_r (a && b && c && d && e && f && g) h h8);
      virtual_storages = leb→le (virtual_storage_count s) 32 (and_r (a && b && c && d && e && f && g && h) i h9);
    }

-- ---- the tests of `well_shaped` that the later ones build on

pub counts_passed : {shape : List ℕ} (r b : Bool) → ((s : Store) → s.shape ≡ shape → r ≡ counts_fit s) → (r && b) ≡ true → Counted (of_shape shape)
counts_passed {shape} r b e q = counted (of_shape shape) (sym (e (of_shape shape) refl) ∙ to_true r (and_l r b (of_true (r && b) q)))

pub starts_passed : {row_starts shape : List ℕ} (r : Bool) → ((s : Store) → s.row_starts ≡ row_starts → s.shape ≡ shape → r ≡ (eqb (start_of s 0) 0 && starts_rise s 0 (row_count s))) → r ≡ true
    → StartsRise row_starts (get_or shape 5 0 + get_or shape 6 0) (get_or shape 7 0)
starts_passed {row_starts} {shape} r e q = let s = of_runs [] row_starts shape in starts_told s (row_count s) (sym (e s refl refl) ∙ q)

pub rows_within : {columns row_starts shape : List ℕ} → (4096 ≤ length columns) × (row_starts_length ≤ length row_starts) × (shape_length ≤ length shape) → Counted (of_shape shape)
    → StartsRise row_starts (get_or shape 5 0 + get_or shape 6 0) (get_or shape 7 0) → RowsWithin columns row_starts shape
rows_within room n starts =
    record {
      columns_long = room.0;
      starts_long = room.1;
      shape_long = room.2;
      edge_columns_lem = n.edge_columns_lem;
      sets = n.sets;
      rows = n.rows;
      kept = n.kept;
      starts = starts;
    }

-- ---- what a well shaped store has

pub record Shaped (s : Store) : Type 0 where
  pub counts : Counted s
  pub sentinel : sentinel_code s ≤ 1
  pub starts : StartsRise s.row_starts (row_count s) (elements_kept s)
  pub columns : all_entries (row_columns_rise s) 1 0 (row_count s) ≡ true
  pub nodes : all_entries (node_fits s) 2 nodes_at (node_count s) ≡ true
  pub edges : all_entries (edge_fits s) 3 edges_at (edge_count s) ≡ true
  pub node_rows_lem : all_entries (node_row_fits s) 4 node_rows_at (node_row_count s) ≡ true
  pub aggregates : all_entries (aggregate_fits s) 1 aggregates_at (aggregate_count s) ≡ true
  pub virtual_storages : all_entries (virtual_storage_fits s) 6 virtual_storages_at (virtual_storage_count s) ≡ true
  pub makers : all_entries (maker_fits s) 3 makers_at (row_count s) ≡ true
  pub flow_order_lem : all_entries (flow_order_fits s) 1 flow_order_at (edge_count s) ≡ true

pub shaped : (s : Store) → well_shaped s ≡ true → Shaped s
unfolding well_shaped
shaped s q =
    let a : Bool = counts_fit s in
    let b : Bool = leb (sentinel_code s) 1 in
    let c : Bool = eqb (start_of s 0) 0 && starts_rise s 0 (row_count s) in
    let d : Bool = all_entries (row_columns_rise s) 1 0 (row_count s) in
    let e : Bool = all_entries (node_fits s) 2 nodes_at (node_count s) in
    let f : Bool = all_entries (edge_fits s) 3 edges_at (edge_count s) in
    let g : Bool = all_entries (node_row_fits s) 4 node_rows_at (node_row_count s) in
    let h : Bool = all_entries (aggregate_fits s) 1 aggregates_at (aggregate_count s) in
    let i : Bool = all_entries (virtual_storage_fits s) 6 virtual_storages_at (virtual_storage_count s) in
    let j : Bool = all_entries (maker_fits s) 3 makers_at (row_count s) in
    let k : Bool = all_entries (flow_order_fits s) 1 flow_order_at (edge_count s) in
    let h11 = of_true (a && b && c && d && e && f && g && h && i && j && k) q in
    let h10 = and_l (a && b && c && d && e && f && g && h && i && j) k h11 in
    let h9 = and_l (a && b && c && d && e && f && g && h && i) j h10 in
    let h8 = and_l (a && b && c && d && e && f && g && h) i h9 in
    let h7 = and_l (a && b && c && d && e && f && g) h h8 in
    let h6 = and_l (a && b && c && d && e && f) g h7 in
    let h5 = and_l (a && b && c && d && e) f h6 in
    let h4 = and_l (a && b && c && d) e h5 in
    let h3 = and_l (a && b && c) d h4 in
    let h2 = and_l (a && b) c h3 in
    record {
      counts = counted s (to_true a (and_l a b h2));
      sentinel = leb→le (sentinel_code s) 1 (and_r a b h2);
      starts = starts_told s (row_count s) (to_true c (and_r (a && b) c h3));
      columns = to_true d (and_r (a && b && c) d h4);
      nodes = to_true e (and_r (a && b && c && d) e h5);
      edges = to_true f (and_r (a && b && c && d && e) f h6);
      node_rows_lem = to_true g (and_r (a && b && c && d && e && f) g h7);
      aggregates = to_true h (and_r (a && b && c && d && e && f && g) h h8);
      virtual_storages = to_true i (and_r (a && b && c && d && e && f && g && h) i h9);
      makers = to_true j (and_r (a && b && c && d && e && f && g && h && i) j h10);
      flow_order_lem = to_true k (and_r (a && b && c && d && e && f && g && h && i && j) k h11);
    }
