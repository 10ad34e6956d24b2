-- `ExclusiveSets::add_sets` meets its contract: the first sets were added where they were not known.
use mathlib.Core.Path.{sym, ◌∙◌}
use native.Mathlib.Omega.{arith}
use Rattle.build_exclusive_sets.proofs.Accepted.{fields_within}
use Rattle.build_exclusive_sets.proofs.AddSets.{next_fits, adding_first, adding_known, adding_new, adding_over, adding_done}
use Rattle.build_exclusive_sets.proofs.ExclusiveSets.add_sets.Goals as goal
use Rattle.build_exclusive_sets.proofs.ExclusiveSets.add_sets.Goals.{then-set_number-self+else-self-eq-SET_CEILING, else-set_number-self}

pub set_count-sets-requires : goal.set_count-sets-requires
set_count-sets-requires c = fields_within _ _ _ c.requires.0

pub sets_at-here-requires : goal.sets_at-here-requires
sets_at-here-requires c = let h = fields_within _ _ _ c.requires.0 in omega arith

pub loop-init : goal.loop-init
loop-init c = rw c.sets_at-here.ensures (adding_first _ _ _ _ _ c.set_count-sets.ensures.0 c.requires.1)

pub set_number-requires : goal.set_number-requires
set_number-requires c =
    let fits = next_fits _ _ _ _ _ _ _ _ _ c.loop.invariant c.loop-test.true c.requires.0 in
    (c.loop.invariant.fit, fits.within)

pub overflow_cast-self : goal.overflow_cast-self
overflow_cast-self c =
    let fits = next_fits _ _ _ _ _ _ _ _ _ c.loop.invariant c.loop-test.true c.requires.0 in
    omega (arith, fits.within, c.requires.2)

pub returns-then-self-eq-SET_CEILING : goal.returns-then-self-eq-SET_CEILING
returns-then-self-eq-SET_CEILING c =
    adding_over _ _ _ _ _ _ _ _ _ c.loop.invariant c.loop-test.true (sym c.set_number.ensures ∙ c.if-set_number-self.true) c.if-self-eq-SET_CEILING.true _

pub set_end-here-requires : goal.set_end-here-requires
set_end-here-requires c =
    let fits = next_fits _ _ _ _ _ _ _ _ _ c.loop.invariant c.loop-test.true c.requires.0 in
    let h = fits.within in omega arith

pub loop-preserved : goal.loop-preserved
loop-preserved c =
    let fits = next_fits _ _ _ _ _ _ _ _ _ c.loop.invariant c.loop-test.true c.requires.0 in
    elim c.if-set_number-self.branch [
      | then-set_number-self+else-self-eq-SET_CEILING w ↦
          rw (w.self-is, c.set_end-here.ensures)
          (adding_new _ _ _ _ _ _ _ _ _ c.loop.invariant c.loop-test.true (sym c.set_number.ensures ∙ w.if-set_number-self.true) w.if-self-eq-SET_CEILING.false fits)
      | else-set_number-self w ↦
          rw (w.self-is, c.set_end-here.ensures)
          (adding_known _ _ _ _ _ _ _ _ _ c.loop.invariant c.loop-test.true (rw c.set_number.ensures at w.if-set_number-self.false))
    ]

pub returns : goal.returns
returns c = adding_done _ _ _ _ _ _ _ _ _ c.loop.invariant c.loop-test.false
