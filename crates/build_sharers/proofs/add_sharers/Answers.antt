-- `build_sharers::add_sharers` meets its contract. The loop's invariant: the first i have been counted.
use mathlib.Core.Path.{◌≡◌, ◌∙◌}
use Prim.Native.Nat.{ℕ, suc, ◌+◌, ◌*◌, ◌<◌, ◌≤◌}
use native.Mathlib.Nat.{mul-le-mul_left, mul-suc}
use native.Mathlib.Omega.{arith}
use lib.ListN.{get_or}
use Rattle.layout.specs.Layout.{makers_at}
use Rattle.build_makers.specs.MakerKind.{kind_number}
use Rattle.build_sharers.proofs.Walk.{walked_none, walked_more, next_under, next_room, word_kept}
use Rattle.build_sharers.proofs.add_sharers.Goals as goal

-- an entry of the table lies in it
inside : (at width count i : ℕ) → i < count → 1 ≤ width → at + width * count ≤ makers_at → at + width * i < makers_at
inside at width count i h w r =
    let more : width * suc i ≤ width * count = mul-le-mul_left width h in
    omega (arith, more, mul-suc width i)

pub loop-i-init : goal.loop-i-init
loop-i-init c = walked_none _ _ _

pub overflow_mul-width : goal.overflow_mul-width
overflow_mul-width c =
    let entry-inside : c.args.at + c.args.width * c.loop-i.i < makers_at = inside _ _ _ _ c.loop-i-test.true c.requires.2 c.requires.0 in
    omega (arith, entry-inside)

pub overflow_add-at : goal.overflow_add-at
overflow_add-at c =
    let entry-inside : c.args.at + c.args.width * c.loop-i.i < makers_at = inside _ _ _ _ c.loop-i-test.true c.requires.2 c.requires.0 in
    omega (arith, entry-inside)

pub offset_bounds-shape-at : goal.offset_bounds-shape-at
offset_bounds-shape-at c =
    let entry-inside : c.args.at + c.args.width * c.loop-i.i < makers_at = inside _ _ _ _ c.loop-i-test.true c.requires.2 c.requires.0 in
    omega (arith, entry-inside)

pub bounds-shape-at : goal.bounds-shape-at
bounds-shape-at c =
    let entry-inside : c.args.at + c.args.width * c.loop-i.i < makers_at = inside _ _ _ _ c.loop-i-test.true c.requires.2 c.requires.0 in
    omega (arith, entry-inside, c.requires.3, c.loop-i.invariant.long)

pub add_sharer-requires : goal.add_sharer-requires
add_sharer-requires c =
    let entry-inside : c.args.at + c.args.width * c.loop-i.i < makers_at = inside _ _ _ _ c.loop-i-test.true c.requires.2 c.requires.0 in
    -- the row of entry i is read as it stood
    let row_is : let p : ℕ = c.args.at + c.args.width * c.loop-i.i in get_or c.loop-i.shape p 0 ≡ get_or c.args.shape.now p 0 = word_kept c.args.shape.now c.loop-i.shape _ entry-inside c.loop-i.invariant.counted.kept in
    let row = c.from-row.ensures ∙ row_is in (
      rw row (next_under _ _ _ c.requires.4 _ _ c.loop-i-test.true c.loop-i.invariant),
      omega (arith, c.requires.3, c.loop-i.invariant.long),
      rw row (next_room _ _ _ c.requires.4 _ _ c.loop-i-test.true c.loop-i.invariant),
    )

pub loop-i-preserved : goal.loop-i-preserved
loop-i-preserved c =
    let entry-inside : c.args.at + c.args.width * c.loop-i.i < makers_at = inside _ _ _ _ c.loop-i-test.true c.requires.2 c.requires.0 in
    -- the row of entry i is read as it stood
    let row_is : let p : ℕ = c.args.at + c.args.width * c.loop-i.i in get_or c.loop-i.shape p 0 ≡ get_or c.args.shape.now p 0 = word_kept c.args.shape.now c.loop-i.shape _ entry-inside c.loop-i.invariant.counted.kept in
    walked_more _ _ _ c.requires.4 _ _ c.loop-i-test.true c.loop-i.invariant c.requires.3 _
    (λ j. record { kind = kind_number c.args.kind; index = c.loop-i.i; row = (c.from-row.ensures ∙ row_is) j }) _
    c.add_sharer.ensures
