-- `build_append::start_rows` meets its contract.
use native.Mathlib.Omega.{arith}
use lib.Seq.{drop-set-lt}
use Rattle.layout.specs.Layout.{shape_made_at}
use Rattle.build_append.proofs.RowsHeldLaws.{held_none}
use Rattle.build_append.proofs.start_rows.Goals as goal

pub returns : goal.returns
returns c =
    let words = c.args.words.now in
    (λ numbers. held_none words numbers (omega arith), drop-set-lt shape_made_at words 4096 0 (omega arith))
