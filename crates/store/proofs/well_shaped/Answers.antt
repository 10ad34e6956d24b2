-- `well_shaped` meets its contract: what the counts and the row starts passed is what the later parts require.
use mathlib.Core.Path.{◌≡◌, sym, ◌∙◌}
use mathlib.Core.Bool.{true, false, ◌&&◌}
use mathlib.Core.List.{List}
use Prim.Native.Nat.{ℕ}
use lib.Dec.{leb}
use Rattle.pywr.specs.Store.{Store, sentinel_code}
use Rattle.pywr.specs.Misshapen.{counts_fit, well_shaped}
use Rattle.store_shape.proofs.Entries.{of_shape}
use Rattle.store_rows.specs.Starts.{RowsWithin}
use Rattle.store.proofs.Passed.{Counted, counts_passed, starts_passed, rows_within}
use Rattle.store.proofs.well_shaped.Goals.{Else-not-counts_fit-shape, Else-not-starts_rise}
use Rattle.store.proofs.well_shaped.Goals as goal

abbrev words : Else-not-counts_fit-shape → List ℕ
words c = c.args.shape.now

counts : (c : Else-not-counts_fit-shape) → Counted (of_shape (words c))
counts c = counts_passed c.counts_fit.result _ c.counts_fit.ensures c.if-not-counts_fit-shape.false

counts-and-sentinel : (c : Else-not-counts_fit-shape) (s : Store) → s.shape ≡ words c → (counts_fit s && leb (sentinel_code s) 1) ≡ true
counts-and-sentinel c s es =
    rw (← (c.counts_fit.ensures s es), es) c.if-not-counts_fit-shape.false

rows : (c : Else-not-starts_rise) → Counted (of_shape c.args.shape.now) → RowsWithin c.args.columns.now c.args.row_starts.now c.args.shape.now
rows c counted =
    rows_within c.requires counted
    (starts_passed c.starts_rise.result c.starts_rise.ensures c.if-not-starts_rise.false)

pub returns-then-not-counts_fit-shape : goal.returns-then-not-counts_fit-shape
unfolding well_shaped
returns-then-not-counts_fit-shape c =
    λ s ec er es.
    let p : (counts_fit s && leb (sentinel_code s) 1) ≡ false = rw (← (c.counts_fit.ensures s es), es) c.if-not-counts_fit-shape.true in
    rw p

pub starts_rise-requires : goal.starts_rise-requires
starts_rise-requires c =
    (c.requires.1, c.requires.2, (counts (goal.at.starts_rise-requires c).Else-not-counts_fit-shape).rows)

pub returns-then-not-starts_rise : goal.returns-then-not-starts_rise
unfolding well_shaped
returns-then-not-starts_rise c =
    λ s ec er es. rw (counts-and-sentinel (goal.at.returns-then-not-starts_rise c).Else-not-counts_fit-shape s es, sym (c.starts_rise.ensures s er es) ∙ c.if-not-starts_rise.true)

pub columns_rise-requires : goal.columns_rise-requires
columns_rise-requires c = rows (goal.at.columns_rise-requires c).Else-not-starts_rise (counts (goal.at.columns_rise-requires c).Else-not-counts_fit-shape)

pub nodes_fit-requires : goal.nodes_fit-requires
nodes_fit-requires c = (c.requires.2, (counts (goal.at.nodes_fit-requires c).Else-not-counts_fit-shape).nodes)

pub edges_fit-requires : goal.edges_fit-requires
edges_fit-requires c = (c.requires.2, (counts (goal.at.edges_fit-requires c).Else-not-counts_fit-shape).edges)

pub node_rows_fit-requires : goal.node_rows_fit-requires
node_rows_fit-requires c =
    (rows (goal.at.node_rows_fit-requires c).Else-not-starts_rise (counts (goal.at.node_rows_fit-requires c).Else-not-counts_fit-shape), (counts (goal.at.node_rows_fit-requires c).Else-not-counts_fit-shape).node_rows_lem)

pub aggregates_fit-requires : goal.aggregates_fit-requires
aggregates_fit-requires c = (c.requires.2, (counts (goal.at.aggregates_fit-requires c).Else-not-counts_fit-shape).aggregates)

pub virtual_storages_fit-requires : goal.virtual_storages_fit-requires
virtual_storages_fit-requires c = (c.requires.2, (counts (goal.at.virtual_storages_fit-requires c).Else-not-counts_fit-shape).virtual_storages)

pub makers_fit-requires : goal.makers_fit-requires
makers_fit-requires c = (c.requires.2, (counts (goal.at.makers_fit-requires c).Else-not-counts_fit-shape).rows)

pub flow_order_fits-requires : goal.flow_order_fits-requires
flow_order_fits-requires c = (c.requires.2, (counts (goal.at.flow_order_fits-requires c).Else-not-counts_fit-shape).edges)

pub returns : goal.returns
unfolding well_shaped
returns c =
    λ s ec er es.
    rw (
      counts-and-sentinel (goal.at.returns c).Else-not-counts_fit-shape s es,
      sym (c.starts_rise.ensures s er es)
          ∙ c.if-not-starts_rise.false,
      c.columns_rise.ensures s ec er es,
      c.nodes_fit.ensures s es,
      c.edges_fit.ensures s es,
      c.node_rows_fit.ensures s ec er es,
      c.aggregates_fit.ensures s es,
      c.virtual_storages_fit.ensures s es,
      c.makers_fit.ensures s es,
      c.flow_order_fits.ensures s es,
    )
