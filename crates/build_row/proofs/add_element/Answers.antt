-- `build_row::add_element` meets its contract: `Added.antt` has what it promises, from the place that `place_of` found.
use mathlib.Core.Path.{◌≡◌}
use native.Mathlib.Omega.{arith}
use lib.ListN.{length}
use Rattle.build_row.proofs.Added.{place_free, element_added, element_inserted}
use Rattle.build_row.proofs.add_element.Goals as goal

pub insert_at-requires : goal.insert_at-requires
insert_at-requires c =
    let long : length c.args.columns.now ≡ 640 = omega arith in
    let free = place_free _ _ _ _ long c.requires.0 c.requires.2 c.requires.3 c.in-Err.ensures in
    (free.0, omega (arith, free.1))

pub returns-in-Ok : goal.returns-in-Ok
returns-in-Ok c =
    let long : length c.args.columns.now ≡ 640 = omega arith in
    element_added _ _ _ _ long c.requires.0 c.requires.2 c.requires.3 _ _ c.requires.1 c.in-Ok.ensures

pub returns-in-Err : goal.returns-in-Err
returns-in-Err c =
    let long : length c.args.columns.now ≡ 640 = omega arith in
    rw (c.insert_at.ensures, c.insert_at-in-Err.ensures)
    (element_inserted _ _ _ _ long c.requires.0 c.requires.2 c.requires.3 _ _ c.requires.1 c.in-Err.ensures)
