-- `build_write::write_elements` meets its contract. The loop's invariant: the first r rows are written.
use native.Mathlib.Omega.{arith}
use Rattle.build_write.proofs.RowByRow.{more, row_fits}
use borrow.Author.Rules.{rules}
use Rattle.build_write.proofs.write_elements.Goals as goal

pub slice_bounds-row-end : goal.slice_bounds-row-end
slice_bounds-row-end c =
    let p = c.requires in
    (row_fits c.args.z _ p.1 _ _ _ c.loop-r.r _ _ p.0 p.2.numbers_room p.3 c.loop-r-test.true
    c.from-start.ensures c.from-end.ensures c.loop-r.invariant).held

pub slice_bounds-write_row-count : goal.slice_bounds-write_row-count
slice_bounds-write_row-count c =
    let p = c.requires in
    let fits = row_fits c.args.z _ p.1 _ _ _ c.loop-r.r _ _ p.0 p.2.numbers_room p.3 c.loop-r-test.true
    c.from-start.ensures c.from-end.ensures c.loop-r.invariant in
    omega (arith, fits.within)

pub write_row-requires : goal.write_row-requires
write_row-requires c =
    let p = c.requires in
    (row_fits c.args.z _ p.1 _ _ _ c.loop-r.r _ _ p.0 p.2.numbers_room p.3 c.loop-r-test.true
    c.from-start.ensures c.from-end.ensures c.loop-r.invariant).room _ (omega arith)

pub loop-r-preserved : goal.loop-r-preserved
loop-r-preserved c =
    let p = c.requires in
    more c.args.z _ p.1 _ _ _ _ c.loop-r.r _ _ p.0 p.2.numbers_room p.3 c.loop-r-test.true
    c.from-start.ensures c.from-end.ensures c.write_row.ensures c.write_row.auto.elements c.loop-r.invariant

pub slice_bounds-write_row-start : goal.slice_bounds-write_row-start
slice_bounds-write_row-start c =
    let p = c.requires in
    let fits = row_fits c.args.z _ p.1 _ _ _ c.loop-r.r _ _ p.0 p.2.numbers_room p.3 c.loop-r-test.true
    c.from-start.ensures c.from-end.ensures c.loop-r.invariant in
    search (rules, fits.within)
