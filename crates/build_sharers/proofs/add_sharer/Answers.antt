-- `build_sharers::add_sharer` meets its contract.
use mathlib.Core.Path.{sym, ap, ◌∙◌}
use Prim.Native.Nat.{◌+◌, ◌*◌}
use lib.Seq.{sets}
use Rattle.layout.specs.Layout.{makers_at}
use Rattle.build_makers.specs.MakerKind.{kind_number}
use Rattle.build_sharers.specs.Sharers.{maker_in}
use Rattle.build_sharers.proofs.OneMore.{first_words, counted_words}
use Rattle.build_sharers.proofs.add_sharer.Goals as goal

pub returns-then-before-eq0 : goal.returns-then-before-eq0
returns-then-before-eq0 c =
    let a = c.args in
    c.put_maker.ensures
    ∙ ap (sets a.shape.now (makers_at + 3 * a.row)) (sym (first_words (kind_number a.kind) a.index (maker_in a.shape.now a.row) c.if-before-eq0.true))

pub returns-else-before-eq0 : goal.returns-else-before-eq0
returns-else-before-eq0 c =
    let a = c.args in
    counted_words (kind_number a.kind) a.index a.shape.now (makers_at + 3 * a.row) c.if-before-eq0.false
