-- `build_exclusive_sets::collect_sets` meets its contract: the sets of the first aggregates were collected.
use mathlib.Core.Path.{sym, ap, ◌∙◌}
use Prim.Native.Nat.{ℕ}
use lib.ListN.{length-replicate}
use Rattle.build_exclusive_sets.specs.Sets.{sets_then}
use native.Mathlib.Omega.{arith}
use Rattle.build_exclusive_sets.proofs.Accepted.{fields_within, few_bytes, aggregate_passed_256}
use Rattle.build_exclusive_sets.proofs.CollectSets.{collecting_first, collecting_plain, collecting_more, collecting_over, collecting_done, next_passes, of_network_lem}
use Rattle.std.proofs.lemmas.Result.{err_from_is_err_and}
use Rattle.build_exclusive_sets.proofs.collect_sets.Goals as goal
use Rattle.build_exclusive_sets.proofs.collect_sets.Goals.{then-is_exclusive+in_ok-add_sets, else-is_exclusive}

pub loop-init : goal.loop-init
loop-init c = rw c.edges_end-at.ensures (collecting_first _ _ _ _ (length-replicate {A = ℕ} 128 0))

pub is_exclusive-requires : goal.is_exclusive-requires
is_exclusive-requires c =
    let fits = next_passes _ _ _ _ _ _ _ c.loop.invariant c.loop-test.true (aggregate_passed_256 _ _ _ _ _ _ c.requires) in
    fields_within _ _ _ fits

pub add_sets-requires : goal.add_sets-requires
add_sets-requires c =
    let fits = next_passes _ _ _ _ _ _ _ c.loop.invariant c.loop-test.true (aggregate_passed_256 _ _ _ _ _ _ c.requires) in
    (fits, c.loop.invariant.fit, let h = few_bytes _ _ _ _ _ _ c.requires in omega arith)

pub returns-in_err-add_sets : goal.returns-in_err-add_sets
returns-in_err-add_sets c =
    let p = c.args in
    let e = err_from_is_err_and c.from_residual.result c.from_residual.ensures.1 in
    rw e.1
    (of_network_lem p.s.now p.c.nodes p.c.edges p.c.aggregates _ _
    (collecting_over _ _ _ _ _ _ _ c.loop.invariant c.loop-test.true (sym c.is_exclusive.ensures ∙ c.if-is_exclusive.true) _
    c.add_sets.ensures _ (ap (λ r. sets_then r c.add_sets.new.self) c.in_err-add_sets.was)))

pub aggregate_end-at-requires : goal.aggregate_end-at-requires
aggregate_end-at-requires c =
    let fits = next_passes _ _ _ _ _ _ _ c.loop.invariant c.loop-test.true (aggregate_passed_256 _ _ _ _ _ _ c.requires) in
    fits.within

pub loop-preserved : goal.loop-preserved
loop-preserved c =
    elim c.if-is_exclusive.branch [
      | then-is_exclusive+in_ok-add_sets w ↦
          rw (w.sets-is, c.aggregate_end-at.ensures)
          (collecting_more _ _ _ _ _ _ _ c.loop.invariant c.loop-test.true (sym c.is_exclusive.ensures ∙ w.if-is_exclusive.true) _
          w.add_sets.ensures _ (ap (λ r. sets_then r w.add_sets.new.self) w.in_ok-add_sets.was))
      | else-is_exclusive w ↦
          rw (w.sets-is, c.aggregate_end-at.ensures)
          (collecting_plain _ _ _ _ _ _ _ c.loop.invariant c.loop-test.true (sym c.is_exclusive.ensures ∙ w.if-is_exclusive.false))
    ]

pub returns : goal.returns
returns c =
    let p = c.args in
    of_network_lem p.s.now p.c.nodes p.c.edges p.c.aggregates _ _ (collecting_done _ _ _ _ _ _ _ c.loop.invariant c.loop-test.false)
