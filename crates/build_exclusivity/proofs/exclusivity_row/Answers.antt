-- `build_exclusivity::exclusivity_row` meets its contract: the first i sets were added.
use mathlib.Core.Path.{refl, ◌∙◌}
use native.Mathlib.Omega.{arith}
use lib.Ieee.{of_bits}
use Rattle.pywr.specs.Numbers.{one64}
use Rattle.build_exclusivity.proofs.Gathering.{gathering_first, next_known, gathering_next, gathering_done}
use borrow.Author.Rules.{rules}
use Rattle.build_exclusivity.proofs.exclusivity_row.Goals as goal

pub set_count-end-requires : goal.set_count-end-requires
set_count-end-requires c = c.requires.2

pub sets_at-here-requires : goal.sets_at-here-requires
sets_at-here-requires c = let h = c.requires.2 in search rules

pub loop-init : goal.loop-init
loop-init c = (rw c.sets_at-here.ensures (gathering_first _ _ _ _ _ _ c.set_count-end.ensures.0 _ _), refl)

pub set_number-k-requires : goal.set_number-k-requires
set_number-k-requires c = (c.requires.0, (next_known _ _ _ _ _ _ _ _ _ _ _ c.loop.invariant.0 c.loop-test.true c.requires.3).0)

pub overflow_add-column : goal.overflow_add-column
overflow_add-column c =
    let k = (next_known _ _ _ _ _ _ _ _ _ _ _ c.loop.invariant.0 c.loop-test.true c.requires.3).1 in omega (arith, k, c.set_number-k.ensures, c.requires.0.few, c.requires.1)

pub overflow_cast-column : goal.overflow_cast-column
overflow_cast-column c =
    let k = (next_known _ _ _ _ _ _ _ _ _ _ _ c.loop.invariant.0 c.loop-test.true c.requires.3).1 in omega (arith, k, c.set_number-k.ensures, c.requires.0.few, c.requires.1)

pub add_element-n-requires : goal.add_element-n-requires
add_element-n-requires c =
    let k = (next_known _ _ _ _ _ _ _ _ _ _ _ c.loop.invariant.0 c.loop-test.true c.requires.3).1 in (
      c.loop.invariant.0.few,
      omega (arith, c.loop.invariant.1, c.requires.4),
      omega
          (arith, k, c.set_number-k.ensures, c.requires.0.few, c.requires.1),
      c.loop.invariant.0.rising,
    )

pub set_end-here-requires : goal.set_end-here-requires
set_end-here-requires c =
    let k = (next_known _ _ _ _ _ _ _ _ _ _ _ c.loop.invariant.0 c.loop-test.true c.requires.3).0 in omega (arith, k)

pub loop-preserved : goal.loop-preserved
unfolding one64 of_bits
loop-preserved c = (
  rw c.set_end-here.ensures (gathering_next _ _ _ _ _ _ _ _ _ _ _ c.loop.invariant.0 c.loop-test.true _ _ _ _ _ _
      c.set_number-k.ensures refl refl c.add_element-n.ensures),
  c.add_element-n.auto.elements ∙ c.loop.invariant.1,
)

pub shape_of-elements : goal.shape_of-elements
shape_of-elements c = c.loop.invariant.1

pub returns : goal.returns
returns c = gathering_done _ _ _ _ _ _ _ _ _ _ _ c.loop.invariant.0 c.loop-test.false
