-- `build_rows::add_all_rows` meets its contract.
use mathlib.Core.Path.{◌≡◌, refl, sym, ap}
use mathlib.Core.List.{List, ◌++◌}
use Prim.Native.Nat.{ℕ, ◌≤◌}
use native.Mathlib.Omega.{arith}
use lib.ListN.{length}
use lib.Ieee.{Float}
use Rattle.build_node_table.specs.NodeTable.{node_rows, node_rows_then}
use Rattle.build_append.specs.LpBuilder.{filled_then}
use Rattle.std.proofs.lemmas.Result.{err_from_is_err_and}
use Rattle.layout.specs.Layout.{node_row_ceiling, shape_made_at, words_length}
use Rattle.laws.proofs.Tails.{put_tail, tail_kept}
use Rattle.pywr.specs.declared.Sentinel.{Sentinel}
use Rattle.pywr.specs.Network.{Network}
use Rattle.pywr.specs.Rows.{column_map}
use Rattle.pywr.specs.Makers.{fixed_makers}
use Rattle.pywr.specs.Build.{programme_of}
use Rattle.network_laws.proofs.Index.{aggregate_count_lem, virtual_storage_count_lem}
use Rattle.build_node_row.specs.Tables.{network_of}
use Rattle.build_makers.specs.MadeRows.{MadeHeld, AfterMade}
use Rattle.build_varying.specs.VaryingLaid.{VaryingLaid}
use Rattle.build_varying.proofs.Varying.{asks_few}
use Rattle.build_rows.proofs.LaidOut.{shape_room}
use Rattle.build_rows.proofs.VaryingMade.{makers_of_varying, rows_under, still_laid, varying_made}
use Rattle.build_rows.proofs.Finish.{varying_refused, fixed_refused, few, varying_most, all_made}
use Rattle.build_rows.proofs.add_all_rows.Goals as goal

pub add_varying_rows-requires : goal.add_varying_rows-requires
add_varying_rows-requires c = (
  c.requires.0,
  record { aggregate_set_at = _; sets = _; tables = c.requires.1 },
  c.requires.2,
  c.requires.3,
  c.requires.4,
)

pub put_varying_makers-requires : goal.put_varying_makers-requires
put_varying_makers-requires c =
    let words₁ : List ℕ = c.add_varying_rows.new.lp.words.now in
    let numbers₁ : List Float = c.add_varying_rows.new.lp.numbers.now in
    let net : Network = network_of c.args.tables.now.file.now c.args.tables.now.counts in
    let varying : VaryingLaid c.args.lp.now.sentinel net (node_rows c.add_varying_rows.new.lp c.in_ok-node_rows.node_rows) words₁ numbers₁ = c.add_varying_rows.ensures.rows.done _ (ap (λ r. node_rows_then r c.add_varying_rows.new.lp) c.in_ok-node_rows.was) in
    let room₁ : words_length ≤ length words₁ = omega (arith, c.add_varying_rows.ensures.same.words_long, c.requires.3.words_room) in
    let few-rows : c.in_ok-node_rows.node_rows ≤ node_row_ceiling = omega (arith, varying.counted, asks_few _ _ _ _ c.requires.0 (record { aggregate_set_at = _; sets = _; tables = c.requires.1 })) in
    let aggregates_are : c.args.tables.now.counts.aggregates ≡ length net.aggregates = let k = c.args.tables.now.counts in sym (aggregate_count_lem _ k.nodes k.edges k.aggregates k.virtual_storages) in
    let virtual_storages_are : c.args.tables.now.counts.virtual_storages ≡ length net.virtual_storages = let k = c.args.tables.now.counts in sym (virtual_storage_count_lem _ k.nodes k.edges k.aggregates k.virtual_storages) in
    let sections = c.requires.0.sections in (
      omega (arith, varying.held.row_count, varying.held.few_rows),
      few-rows,
      sections.few_aggregates_lem,
      sections.few_virtual_storages_lem,
      shape_room words₁ room₁,
      rows_under _ _ _ _ _ varying room₁ _ _ aggregates_are virtual_storages_are,
    )

pub slice_bounds-put_varying_makers-start : goal.slice_bounds-put_varying_makers-start
slice_bounds-put_varying_makers-start c =
    let words₁ : List ℕ = c.add_varying_rows.new.lp.words.now in
    let room₁ : words_length ≤ length words₁ = omega (arith, c.add_varying_rows.ensures.same.words_long, c.requires.3.words_room) in
    omega (arith, room₁)

pub add_fixed_rows-requires : goal.add_fixed_rows-requires
add_fixed_rows-requires c =
    let words₁ : List ℕ = c.add_varying_rows.new.lp.words.now in
    let numbers₁ : List Float = c.add_varying_rows.new.lp.numbers.now in
    let net : Network = network_of c.args.tables.now.file.now c.args.tables.now.counts in
    let varying : VaryingLaid c.args.lp.now.sentinel net (node_rows c.add_varying_rows.new.lp c.in_ok-node_rows.node_rows) words₁ numbers₁ = c.add_varying_rows.ensures.rows.done _ (ap (λ r. node_rows_then r c.add_varying_rows.new.lp) c.in_ok-node_rows.was) in
    let room₁ : words_length ≤ length words₁ = omega (arith, c.add_varying_rows.ensures.same.words_long, c.requires.3.words_room) in
    let aggregates_are : c.args.tables.now.counts.aggregates ≡ length net.aggregates = let k = c.args.tables.now.counts in sym (aggregate_count_lem _ k.nodes k.edges k.aggregates k.virtual_storages) in
    let virtual_storages_are : c.args.tables.now.counts.virtual_storages ≡ length net.virtual_storages = let k = c.args.tables.now.counts in sym (virtual_storage_count_lem _ k.nodes k.edges k.aggregates k.virtual_storages) in
    let words₂ : List ℕ = put_tail shape_made_at words₁ c.put_varying_makers.new.shape in
    let long₂ : length words₂ ≡ length words₁ = tail_kept shape_made_at words₁ c.put_varying_makers.new.shape c.put_varying_makers.auto.shape in
    let made : MadeHeld (programme_of c.args.lp.now.sentinel net).programme.varying (makers_of_varying c.args.lp.now.sentinel net) words₂ numbers₁ c.add_varying_rows.new.lp.filled =
    varying_made c.args.lp.now.sentinel net (node_rows c.add_varying_rows.new.lp c.in_ok-node_rows.node_rows) words₁ numbers₁ varying room₁
    c.args.tables.now.counts.aggregates c.args.tables.now.counts.virtual_storages aggregates_are virtual_storages_are c.put_varying_makers.new.shape
    c.put_varying_makers.ensures.0 c.put_varying_makers.ensures.1 in
    let room₂ : words_length ≤ length words₂ = omega (arith, long₂, room₁) in (
      c.requires.0,
      c.requires.1,
      c.requires.2,
      record {
        words_room = room₂;
        numbers_room = omega
            (arith, c.add_varying_rows.ensures.same.numbers_long, c.requires.3.numbers_room);
      },
      record { rows = _; makers = _; held = made },
    )

pub finish_shape-requires : goal.finish_shape-requires
finish_shape-requires c =
    let words₁ : List ℕ = c.add_varying_rows.new.lp.words.now in
    let numbers₁ : List Float = c.add_varying_rows.new.lp.numbers.now in
    let net : Network = network_of c.args.tables.now.file.now c.args.tables.now.counts in
    let varying : VaryingLaid c.args.lp.now.sentinel net (node_rows c.add_varying_rows.new.lp c.in_ok-node_rows.node_rows) words₁ numbers₁ = c.add_varying_rows.ensures.rows.done _ (ap (λ r. node_rows_then r c.add_varying_rows.new.lp) c.in_ok-node_rows.was) in
    let room₁ : words_length ≤ length words₁ = omega (arith, c.add_varying_rows.ensures.same.words_long, c.requires.3.words_room) in
    let few-rows : c.in_ok-node_rows.node_rows ≤ node_row_ceiling = omega (arith, varying.counted, asks_few _ _ _ _ c.requires.0 (record { aggregate_set_at = _; sets = _; tables = c.requires.1 })) in
    let aggregates_are : c.args.tables.now.counts.aggregates ≡ length net.aggregates = let k = c.args.tables.now.counts in sym (aggregate_count_lem _ k.nodes k.edges k.aggregates k.virtual_storages) in
    let virtual_storages_are : c.args.tables.now.counts.virtual_storages ≡ length net.virtual_storages = let k = c.args.tables.now.counts in sym (virtual_storage_count_lem _ k.nodes k.edges k.aggregates k.virtual_storages) in
    let words₂ : List ℕ = put_tail shape_made_at words₁ c.put_varying_makers.new.shape in
    let long₂ : length words₂ ≡ length words₁ = tail_kept shape_made_at words₁ c.put_varying_makers.new.shape c.put_varying_makers.auto.shape in
    let made : MadeHeld (programme_of c.args.lp.now.sentinel net).programme.varying (makers_of_varying c.args.lp.now.sentinel net) words₂ numbers₁ c.add_varying_rows.new.lp.filled =
    varying_made c.args.lp.now.sentinel net (node_rows c.add_varying_rows.new.lp c.in_ok-node_rows.node_rows) words₁ numbers₁ varying room₁
    c.args.tables.now.counts.aggregates c.args.tables.now.counts.virtual_storages aggregates_are virtual_storages_are c.put_varying_makers.new.shape
    c.put_varying_makers.ensures.0 c.put_varying_makers.ensures.1 in
    let laid : VaryingLaid c.args.lp.now.sentinel net (node_rows c.add_varying_rows.new.lp c.in_ok-node_rows.node_rows) words₂ numbers₁ =
    let sections = c.requires.0.sections in
    still_laid c.args.lp.now.sentinel net (node_rows c.add_varying_rows.new.lp c.in_ok-node_rows.node_rows) words₁ numbers₁ varying room₁
    c.args.tables.now.counts.aggregates c.args.tables.now.counts.virtual_storages aggregates_are virtual_storages_are c.put_varying_makers.new.shape
    c.put_varying_makers.ensures.0 c.put_varying_makers.ensures.1 few-rows sections.few_aggregates_lem sections.few_virtual_storages_lem in
    let room₂ : words_length ≤ length words₂ = omega (arith, long₂, room₁) in
    let words₃ : List ℕ = c.add_fixed_rows.new.lp.words.now in
    let room₃ : words_length ≤ length words₃ = omega (arith, c.add_fixed_rows.ensures.same.words_long, room₂) in
    let fixed : let s : Sentinel = c.args.lp.now.sentinel in AfterMade ((programme_of s net).programme.varying ++ (programme_of s net).programme.fixed) (makers_of_varying s net ++ fixed_makers s (column_map net) net) words₂ (filled_then c.add_fixed_rows.result c.add_fixed_rows.new.lp.filled) words₃ c.add_fixed_rows.new.lp.numbers.now = (rw c.add_varying_rows.ensures.same.sentinel at c.add_fixed_rows.ensures.rows) _ _ made in
    let t = c.requires.0 in (
      t,
      few c.args.lp.now.sentinel _ c.args.tables.now.counts _ t _ _ _ c.requires.1 _ c.requires.2 _ _ _ _ _ _ laid _
          fixed (ap (λ r. filled_then r c.add_fixed_rows.new.lp.filled) c.in_ok-add_fixed_rows.was),
      refl,
      refl,
      varying_most c.args.lp.now.sentinel _ c.args.tables.now.counts _ t _ _ _ c.requires.1 _ c.requires.2 _ _ _ _ _ _ laid _
          fixed (ap (λ r. filled_then r c.add_fixed_rows.new.lp.filled) c.in_ok-add_fixed_rows.was),
      room₃,
    )

pub returns-in_err-node_rows-clause-assembled : goal.returns-in_err-node_rows-clause-assembled
returns-in_err-node_rows-clause-assembled c =
    let p = err_from_is_err_and c.from_residual.result c.from_residual.ensures.1 in
    rw (p.1, p.2) (varying_refused c.args.lp.now.sentinel _ c.args.tables.now.counts _ c.requires.0 _ _ (c.add_varying_rows.ensures.rows.full _ (ap (λ r. node_rows_then r c.add_varying_rows.new.lp) c.in_err-node_rows.was)))

pub returns-in_err-add_fixed_rows-clause-assembled : goal.returns-in_err-add_fixed_rows-clause-assembled
returns-in_err-add_fixed_rows-clause-assembled c =
    let words₁ : List ℕ = c.add_varying_rows.new.lp.words.now in
    let numbers₁ : List Float = c.add_varying_rows.new.lp.numbers.now in
    let net : Network = network_of c.args.tables.now.file.now c.args.tables.now.counts in
    let varying : VaryingLaid c.args.lp.now.sentinel net (node_rows c.add_varying_rows.new.lp c.in_ok-node_rows.node_rows) words₁ numbers₁ = c.add_varying_rows.ensures.rows.done _ (ap (λ r. node_rows_then r c.add_varying_rows.new.lp) c.in_ok-node_rows.was) in
    let room₁ : words_length ≤ length words₁ = omega (arith, c.add_varying_rows.ensures.same.words_long, c.requires.3.words_room) in
    let aggregates_are : c.args.tables.now.counts.aggregates ≡ length net.aggregates = let k = c.args.tables.now.counts in sym (aggregate_count_lem _ k.nodes k.edges k.aggregates k.virtual_storages) in
    let virtual_storages_are : c.args.tables.now.counts.virtual_storages ≡ length net.virtual_storages = let k = c.args.tables.now.counts in sym (virtual_storage_count_lem _ k.nodes k.edges k.aggregates k.virtual_storages) in
    let words₂ : List ℕ = put_tail shape_made_at words₁ c.put_varying_makers.new.shape in
    let made : MadeHeld (programme_of c.args.lp.now.sentinel net).programme.varying (makers_of_varying c.args.lp.now.sentinel net) words₂ numbers₁ c.add_varying_rows.new.lp.filled =
    varying_made c.args.lp.now.sentinel net (node_rows c.add_varying_rows.new.lp c.in_ok-node_rows.node_rows) words₁ numbers₁ varying room₁
    c.args.tables.now.counts.aggregates c.args.tables.now.counts.virtual_storages aggregates_are virtual_storages_are c.put_varying_makers.new.shape
    c.put_varying_makers.ensures.0 c.put_varying_makers.ensures.1 in
    let words₃ : List ℕ = c.add_fixed_rows.new.lp.words.now in
    let fixed : let s : Sentinel = c.args.lp.now.sentinel in AfterMade ((programme_of s net).programme.varying ++ (programme_of s net).programme.fixed) (makers_of_varying s net ++ fixed_makers s (column_map net) net) words₂ (filled_then c.add_fixed_rows.result c.add_fixed_rows.new.lp.filled) words₃ c.add_fixed_rows.new.lp.numbers.now = (rw c.add_varying_rows.ensures.same.sentinel at c.add_fixed_rows.ensures.rows) _ _ made in
    let p = err_from_is_err_and c.from_residual-in_err-add_fixed_rows.result c.from_residual-in_err-add_fixed_rows.ensures.1 in
    rw (p.1, p.2) (fixed_refused c.args.lp.now.sentinel _ c.args.tables.now.counts _ c.requires.0 _ _ (fixed.full _ (ap (λ r. filled_then r c.add_fixed_rows.new.lp.filled) c.in_err-add_fixed_rows.was)))

pub returns-clause-assembled : goal.returns-clause-assembled
returns-clause-assembled c =
    let words₁ : List ℕ = c.add_varying_rows.new.lp.words.now in
    let numbers₁ : List Float = c.add_varying_rows.new.lp.numbers.now in
    let net : Network = network_of c.args.tables.now.file.now c.args.tables.now.counts in
    let varying : VaryingLaid c.args.lp.now.sentinel net (node_rows c.add_varying_rows.new.lp c.in_ok-node_rows.node_rows) words₁ numbers₁ = c.add_varying_rows.ensures.rows.done _ (ap (λ r. node_rows_then r c.add_varying_rows.new.lp) c.in_ok-node_rows.was) in
    let room₁ : words_length ≤ length words₁ = omega (arith, c.add_varying_rows.ensures.same.words_long, c.requires.3.words_room) in
    let few-rows : c.in_ok-node_rows.node_rows ≤ node_row_ceiling = omega (arith, varying.counted, asks_few _ _ _ _ c.requires.0 (record { aggregate_set_at = _; sets = _; tables = c.requires.1 })) in
    let aggregates_are : c.args.tables.now.counts.aggregates ≡ length net.aggregates = let k = c.args.tables.now.counts in sym (aggregate_count_lem _ k.nodes k.edges k.aggregates k.virtual_storages) in
    let virtual_storages_are : c.args.tables.now.counts.virtual_storages ≡ length net.virtual_storages = let k = c.args.tables.now.counts in sym (virtual_storage_count_lem _ k.nodes k.edges k.aggregates k.virtual_storages) in
    let words₂ : List ℕ = put_tail shape_made_at words₁ c.put_varying_makers.new.shape in
    let long₂ : length words₂ ≡ length words₁ = tail_kept shape_made_at words₁ c.put_varying_makers.new.shape c.put_varying_makers.auto.shape in
    let made : MadeHeld (programme_of c.args.lp.now.sentinel net).programme.varying (makers_of_varying c.args.lp.now.sentinel net) words₂ numbers₁ c.add_varying_rows.new.lp.filled =
    varying_made c.args.lp.now.sentinel net (node_rows c.add_varying_rows.new.lp c.in_ok-node_rows.node_rows) words₁ numbers₁ varying room₁
    c.args.tables.now.counts.aggregates c.args.tables.now.counts.virtual_storages aggregates_are virtual_storages_are c.put_varying_makers.new.shape
    c.put_varying_makers.ensures.0 c.put_varying_makers.ensures.1 in
    let laid : VaryingLaid c.args.lp.now.sentinel net (node_rows c.add_varying_rows.new.lp c.in_ok-node_rows.node_rows) words₂ numbers₁ =
    let sections = c.requires.0.sections in
    still_laid c.args.lp.now.sentinel net (node_rows c.add_varying_rows.new.lp c.in_ok-node_rows.node_rows) words₁ numbers₁ varying room₁
    c.args.tables.now.counts.aggregates c.args.tables.now.counts.virtual_storages aggregates_are virtual_storages_are c.put_varying_makers.new.shape
    c.put_varying_makers.ensures.0 c.put_varying_makers.ensures.1 few-rows sections.few_aggregates_lem sections.few_virtual_storages_lem in
    let room₂ : words_length ≤ length words₂ = omega (arith, long₂, room₁) in
    let words₃ : List ℕ = c.add_fixed_rows.new.lp.words.now in
    let room₃ : words_length ≤ length words₃ = omega (arith, c.add_fixed_rows.ensures.same.words_long, room₂) in
    let fixed : let s : Sentinel = c.args.lp.now.sentinel in AfterMade ((programme_of s net).programme.varying ++ (programme_of s net).programme.fixed) (makers_of_varying s net ++ fixed_makers s (column_map net) net) words₂ (filled_then c.add_fixed_rows.result c.add_fixed_rows.new.lp.filled) words₃ c.add_fixed_rows.new.lp.numbers.now = (rw c.add_varying_rows.ensures.same.sentinel at c.add_fixed_rows.ensures.rows) _ _ made in
    all_made c.args.lp.now.sentinel _ c.args.tables.now.counts _ c.requires.0 _ _ _ c.requires.1 _ c.requires.2 _ _ _ _ _ _ laid _
    fixed (ap (λ r. filled_then r c.add_fixed_rows.new.lp.filled) c.in_ok-add_fixed_rows.was) _ room₂ room₃ (rw (c.add_fixed_rows.ensures.same.sentinel, c.add_varying_rows.ensures.same.sentinel) at c.finish_shape.ensures)
