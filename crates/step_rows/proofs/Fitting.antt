-- What the tables of a well shaped store give to the rows of a step. Assumes nothing.
use mathlib.Core.Path.{◌≡◌}
use Prim.Native.Nat.{ℕ, ◌+◌, ◌*◌, ◌<◌, ◌≤◌}
use native.Mathlib.Omega.{arith}
use mathlib.Core.Bool.{Bool, true, ◌&&◌, ◌||◌}
use mathlib.Core.List.{List}
use lib.ListN.{get_or}
use lib.Seq.{slice}
use lib.Dec.{T, leb, ltb, eqb, ltb→lt, eqb→eq}
use lib.Ieee.{Float}
use lib.Ieee.Fits.{and_l, and_r}
use Rattle.layout.specs.Layout.{aggregates_at, node_row_ceiling, node_rows_at, virtual_storages_at}
use Rattle.laws.proofs.Tests.{of_true, to_true, or_elim}
use Rattle.pywr.specs.Network.{listed}
use Rattle.pywr.specs.Store.{Store, word, node_count, edge_column_count, set_count, varying_count, row_count, node_row_count, aggregate_count, virtual_storage_count, columns_of_row}
use Rattle.pywr.specs.Misshapen.{columns_rise, row_columns_rise, node_row_fits, aggregate_fits, virtual_storage_fits}
use Rattle.store_shape.proofs.Entries.{entry_passes}
use Rattle.store.proofs.Passed.{shaped}
use Rattle.step_row_bounds.specs.RowBounds.{RowTable}
use Rattle.step_node_rows.specs.NodeConstraintBounds.{ShapeFits, NodeRowFits, VaryingFit}
use Rattle.step_rows.specs.ConstraintBounds.{StepRuns}

pub record Fitting (columns row_starts shape : List ℕ) : Type 0 where
  pub shape_fits : ShapeFits shape
  pub varying : VaryingFit columns row_starts shape
  pub node_rows_few : get_or shape 8 0 ≤ node_row_ceiling
  pub node_rows_lem : (k : ℕ) → k < get_or shape 8 0 → NodeRowFits columns row_starts shape (node_rows_at + 4 * k)
  pub aggregates_few : get_or shape 9 0 ≤ 64
  pub virtual_storages_few : get_or shape 10 0 ≤ 32
  pub aggregates : RowTable shape aggregates_at 1 (get_or shape 9 0)
  pub virtual_storages : RowTable shape virtual_storages_at 6 (get_or shape 10 0)

module _ (s : Store) where
  row_rises_lem : (r : ℕ) → row_columns_rise s r ≡ true → columns_rise (edge_column_count s + set_count s) 0 (slice (get_or s.row_starts r 0) (get_or s.row_starts (r + 1) 0) s.columns) ≡ true
  unfolding row_columns_rise columns_of_row
  row_rises_lem r e = e

  node_row_fits_lem : (at : ℕ) → node_row_fits s at ≡ true → NodeRowFits s.columns s.row_starts s.shape at
  unfolding node_row_fits columns_of_row
  node_row_fits_lem at q =
      let a : Bool = ltb (word s at) (node_count s) in
      let b : Bool = ltb (word s (at + 1)) (varying_count s) in
      let c : Bool = leb (word s (at + 2)) 2 in
      let d : Bool = eqb (word s (at + 2)) 0 in
      let e : Bool = ltb (word s (at + 3)) (set_count s) in
      let f : Bool = listed (edge_column_count s + word s (at + 3)) (slice (get_or s.row_starts (word s (at + 1)) 0) (get_or s.row_starts (word s (at + 1) + 1) 0) s.columns) in
      let t = of_true (a && b && c && (d || (e && f))) q in
      let ab : T (a && b) = and_l (a && b) c (and_l (a && b && c) (d || (e && f)) t) in
      let ef : (word s (at + 2) ≡ 0 → ⊥) → T (e && f) = (λ n. or_elim d (e && f) (and_r (a && b && c) (d || (e && f)) t) (λ u. absurd (n (eqb→eq (word s (at + 2)) 0 u))) (λ u. u)) in
      record {
        within = record { node = ltb→lt (word s at) (node_count s) (and_l a b ab); row = ltb→lt (word s (at + 1)) (varying_count s) (and_r a b ab) };
        set = λ n. ltb→lt (word s (at + 3)) (set_count s) (and_l e f (ef n));
        column = λ n. to_true f (and_r e f (ef n));
      }

  aggregate_row_lem : (at : ℕ) → aggregate_fits s at ≡ true → word s at < varying_count s
  unfolding aggregate_fits
  aggregate_row_lem at q = ltb→lt (word s at) (varying_count s) (of_true (ltb (word s at) (varying_count s)) q)

  virtual_storage_row_lem : (at : ℕ) → virtual_storage_fits s at ≡ true → word s at < varying_count s
  unfolding virtual_storage_fits
  virtual_storage_row_lem at q =
      let a : Bool = ltb (word s at) (varying_count s) in
      let b : Bool = leb (word s (at + 1)) 1 in
      ltb→lt (word s at) (varying_count s) (and_l a b (of_true (a && b) q))

  pub fitting : {work : List Float} → StepRuns s work → Fitting s.columns s.row_starts s.shape
  fitting p =
      let h = shaped s p.well_shaped_lem in
      let n = h.counts in
      let few : varying_count s ≤ 1024 = omega (arith, n.rows) in
      record {
        shape_fits = record { shape_long = p.shape_long; nodes = n.nodes; varying = few };
        varying =
            record {
              rows =
                  record {
                    columns_long = p.columns_long;
                    starts_long = p.row_starts_long;
                    shape_long = p.shape_long;
                    edge_columns_lem = n.edge_columns_lem;
                    sets = n.sets;
                    rows = n.rows;
                    kept = n.kept;
                    starts = h.starts;
                  };
              nodes = n.nodes;
              rise = λ r lt.
                  let q : 0 + 1 * r ≡ r = omega arith in
                  let e : row_columns_rise s r ≡ true = rw q at (entry_passes (row_columns_rise s) 1 (row_count s) 0 h.columns r (omega arith)) in
                  row_rises_lem r e;
            };
        node_rows_few = n.node_rows_lem;
        node_rows_lem = λ k lt. node_row_fits_lem (node_rows_at + 4 * k) (entry_passes (node_row_fits s) 4 (node_row_count s) node_rows_at h.node_rows_lem k lt);
        aggregates_few = n.aggregates;
        virtual_storages_few = n.virtual_storages;
        aggregates =
            record {
              shape_long = p.shape_long;
              varying = few;
              some_words = omega arith;
              within = omega (arith, n.aggregates);
              rows = λ k lt. aggregate_row_lem (aggregates_at + 1 * k) (entry_passes (aggregate_fits s) 1 (aggregate_count s) aggregates_at h.aggregates k lt);
            };
        virtual_storages =
            record {
              shape_long = p.shape_long;
              varying = few;
              some_words = omega arith;
              within = omega (arith, n.virtual_storages);
              rows = λ k lt. virtual_storage_row_lem (virtual_storages_at + 6 * k) (entry_passes (virtual_storage_fits s) 6 (virtual_storage_count s) virtual_storages_at h.virtual_storages k lt);
            };
      }
