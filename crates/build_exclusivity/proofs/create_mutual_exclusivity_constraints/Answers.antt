-- `build_exclusivity::create_mutual_exclusivity_constraints` meets its contract: the rows of the first i aggregates are held.
use mathlib.Core.Path.{refl, ◌∙◌, ap}
use Prim.Native.Nat.{◌≤◌}
use native.Mathlib.Omega.{arith}
use lib.ListN.{length}
use Rattle.build_append.specs.LpBuilder.{filled_then}
use Rattle.std.proofs.lemmas.Result.{err_from_is_err_and}
use Rattle.pywr.specs.Rows.{column_map}
use Rattle.network_edge.specs.Edge.{edge_place}
use Rattle.network_laws.specs.NetworkAt.{network_at}
use Rattle.build_node_row.specs.Tables.{network_of}
use Rattle.layout.specs.Layout.{shape_made_at, words_length}
use Rattle.laws.proofs.Tails.{tail_kept, tail_length}
use Rattle.build_makers.proofs.Making.{making_holding}
use Rattle.build_exclusivity.specs.ExclusivityRow.{MapOf}
use Rattle.build_exclusivity.proofs.KnownSets.{aggregate_inside, aggregate_starts, known_sets, map_of}
use Rattle.build_exclusivity.proofs.ExclusivityRows.{AddingAggregates, aggregates_first, aggregate_more, aggregate_over, aggregate_rise, aggregates_done_lem}
use Rattle.build_exclusivity.proofs.create_mutual_exclusivity_constraints.Goals as goal

pub edges_end-at-requires : goal.edges_end-at-requires
edges_end-at-requires c =
    let sections = c.requires.0 in
    omega (arith, sections.few_nodes, sections.few_edges)

pub loop-i-init : goal.loop-i-init
loop-i-init c = (aggregates_first _ _ _ _ _ _ _, record { words = refl; numbers = refl; words_long = refl; numbers_long = refl; sentinel = refl })

pub add_exclusivity_row-requires : goal.add_exclusivity_row-requires
add_exclusivity_row-requires c =
    -- the column map of the network
    let map_is : MapOf c.args.tables.now.file.now c.args.sets.now.at c.args.sets.now.count c.args.tables.now.edge_columns (column_map (network_of c.args.tables.now.file.now c.args.tables.now.counts)) = map_of _ _ _ _ _ _ _ _ c.requires.2 c.requires.3 in
    -- the invariant, the aggregates standing behind the edges
    let adding : let p = c.args in let l = c.loop-i in AddingAggregates p.tables.now.file.now (MapOf p.tables.now.file.now p.sets.now.at p.sets.now.count p.tables.now.edge_columns) (edge_place p.tables.now.counts.nodes p.tables.now.counts.edges) p.tables.now.counts.aggregates p.lp.now.words.now p.lp.now.numbers.now p.lp.now.filled l.lp.words.now l.lp.numbers.now l.lp.filled l.at l.i = rw c.edges_end-at.ensures at c.loop-i.invariant.0 in
    let p = c.requires in
    let l = c.loop-i.invariant in (
      p.1,
      p.4,
      aggregate_starts _ _ _ _ _ _ p.0 _ c.loop-i-test.true _ adding.stands,
      known_sets _ _ _ _ _ _ p.0 _ c.loop-i-test.true _ adding.stands _ _ p.1 p.2,
      record { words_room = omega (arith, l.1.words_long, p.5.words_room); numbers_room = omega (arith, l.1.numbers_long, p.5.numbers_room) },
      making_holding _ _ _ _ _ _ _ _ (l.0.making _ map_is p.6.rows p.6.makers p.6.held),
    )

pub returns-in_err-add_exclusivity_row-clause-rows : goal.returns-in_err-add_exclusivity_row-clause-rows
unfolding network_at
returns-in_err-add_exclusivity_row-clause-rows c =
    -- the column map of the network
    let map_is : MapOf c.args.tables.now.file.now c.args.sets.now.at c.args.sets.now.count c.args.tables.now.edge_columns (column_map (network_of c.args.tables.now.file.now c.args.tables.now.counts)) = map_of _ _ _ _ _ _ _ _ c.requires.2 c.requires.3 in
    -- the invariant, the aggregates standing behind the edges
    let adding : let p = c.args in let l = c.loop-i in AddingAggregates p.tables.now.file.now (MapOf p.tables.now.file.now p.sets.now.at p.sets.now.count p.tables.now.edge_columns) (edge_place p.tables.now.counts.nodes p.tables.now.counts.edges) p.tables.now.counts.aggregates p.lp.now.words.now p.lp.now.numbers.now p.lp.now.filled l.lp.words.now l.lp.numbers.now l.lp.filled l.at l.i = rw c.edges_end-at.ensures at c.loop-i.invariant.0 in
    let p = err_from_is_err_and c.from_residual.result c.from_residual.ensures.1 in
    rw p.1 (aggregate_over _ _ _ _ _ _ _ _ _ _ _ _ adding c.loop-i-test.true _ refl _ _ _ c.add_exclusivity_row.ensures.rows
    _ (ap (λ r. filled_then r c.add_exclusivity_row.new.lp.filled) c.in_err-add_exclusivity_row.was) _ map_is)

pub slice_bounds-shape-start : goal.slice_bounds-shape-start
slice_bounds-shape-start c =
    -- the words after the row are long enough
    let room : words_length ≤ length c.add_exclusivity_row.new.lp.words.now = omega (arith, c.add_exclusivity_row.ensures.same.words_long, c.loop-i.invariant.1.words_long, c.requires.5.words_room) in
    omega (arith, room)

pub overflow_cast-i : goal.overflow_cast-i
overflow_cast-i c = omega (arith, c.loop-i-test.true, c.requires.0.few_aggregates_lem)

pub put_makers-requires : goal.put_makers-requires
put_makers-requires c =
    -- the column map of the network
    let map_is : MapOf c.args.tables.now.file.now c.args.sets.now.at c.args.sets.now.count c.args.tables.now.edge_columns (column_map (network_of c.args.tables.now.file.now c.args.tables.now.counts)) = map_of _ _ _ _ _ _ _ _ c.requires.2 c.requires.3 in
    -- the words after the row are long enough
    let room : words_length ≤ length c.add_exclusivity_row.new.lp.words.now = omega (arith, c.add_exclusivity_row.ensures.same.words_long, c.loop-i.invariant.1.words_long, c.requires.5.words_room) in
    let h = c.requires.6 in
    let rise = aggregate_rise _ _ _ _ _ _ _ _ _ _ _ _ c.loop-i.invariant.0 c.loop-i-test.true _ refl _ _ _
    c.add_exclusivity_row.ensures.rows _ (ap (λ r. filled_then r c.add_exclusivity_row.new.lp.filled) c.in_ok-add_exclusivity_row.was) _ map_is h.rows h.makers h.held in
    (rise.0, rise.1, omega (arith, room, tail_length shape_made_at c.add_exclusivity_row.new.lp.words.now))

pub aggregate_end-at-requires : goal.aggregate_end-at-requires
aggregate_end-at-requires c =
    -- the invariant, the aggregates standing behind the edges
    let adding : let p = c.args in let l = c.loop-i in AddingAggregates p.tables.now.file.now (MapOf p.tables.now.file.now p.sets.now.at p.sets.now.count p.tables.now.edge_columns) (edge_place p.tables.now.counts.nodes p.tables.now.counts.edges) p.tables.now.counts.aggregates p.lp.now.words.now p.lp.now.numbers.now p.lp.now.filled l.lp.words.now l.lp.numbers.now l.lp.filled l.at l.i = rw c.edges_end-at.ensures at c.loop-i.invariant.0 in
    aggregate_inside _ _ _ _ _ _ c.requires.0 _ c.loop-i-test.true _ adding.stands

pub loop-i-preserved : goal.loop-i-preserved
loop-i-preserved c =
    -- the words after the row are long enough
    let room : words_length ≤ length c.add_exclusivity_row.new.lp.words.now = omega (arith, c.add_exclusivity_row.ensures.same.words_long, c.loop-i.invariant.1.words_long, c.requires.5.words_room) in
    let words₁ = c.add_exclusivity_row.new.lp.words.now in (
      rw c.aggregate_end-at.ensures (aggregate_more _ _ _ _ _ _ _ _ _ _ _ _ c.loop-i.invariant.0 c.loop-i-test.true _ refl _ _ _
          c.add_exclusivity_row.ensures.rows _ (ap (λ r. filled_then r c.add_exclusivity_row.new.lp.filled) c.in_ok-add_exclusivity_row.was) _ room c.put_makers.ensures),
      record {
        words = c.add_exclusivity_row.ensures.same.words ∙ c.loop-i.invariant.1.words;
        numbers = c.add_exclusivity_row.ensures.same.numbers ∙ c.loop-i.invariant.1.numbers;
        words_long = tail_kept shape_made_at words₁ c.put_makers.new.shape c.put_makers.auto.shape ∙ c.add_exclusivity_row.ensures.same.words_long ∙ c.loop-i.invariant.1.words_long;
        numbers_long = c.add_exclusivity_row.ensures.same.numbers_long ∙ c.loop-i.invariant.1.numbers_long;
        sentinel = c.add_exclusivity_row.ensures.same.sentinel ∙ c.loop-i.invariant.1.sentinel;
      },
    )

pub returns-clause-rows : goal.returns-clause-rows
unfolding network_at
returns-clause-rows c =
    -- the column map of the network
    let map_is : MapOf c.args.tables.now.file.now c.args.sets.now.at c.args.sets.now.count c.args.tables.now.edge_columns (column_map (network_of c.args.tables.now.file.now c.args.tables.now.counts)) = map_of _ _ _ _ _ _ _ _ c.requires.2 c.requires.3 in
    -- the invariant, the aggregates standing behind the edges
    let adding : let p = c.args in let l = c.loop-i in AddingAggregates p.tables.now.file.now (MapOf p.tables.now.file.now p.sets.now.at p.sets.now.count p.tables.now.edge_columns) (edge_place p.tables.now.counts.nodes p.tables.now.counts.edges) p.tables.now.counts.aggregates p.lp.now.words.now p.lp.now.numbers.now p.lp.now.filled l.lp.words.now l.lp.numbers.now l.lp.filled l.at l.i = rw c.edges_end-at.ensures at c.loop-i.invariant.0 in
    aggregates_done_lem _ _ _ _ _ _ _ _ _ _ _ _ adding c.loop-i-test.false _ map_is
