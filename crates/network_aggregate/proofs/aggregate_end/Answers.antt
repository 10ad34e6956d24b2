-- `network_aggregate::aggregate_end` meets its contract. The invariant: the record ends where the sets from `here` on do.
use native.Mathlib.Omega.{arith}
use mathlib.Core.Path.{◌≡◌, sym, ◌∙◌, ap}
use Prim.Native.Nat.{ℕ, ◌+◌, ◌-◌, ◌<◌, ◌≤◌}
use mathlib.Core.List.{List}
use lib.ListN.{length}
use Rattle.fields.specs.Records.{records_end}
use Rattle.fields.proofs.RecordLaws.{end_after, end_left, end_over}
use Rattle.pywr.specs.Bytes.{byte}
use Rattle.network_aggregate.specs.AggregatedNode.{set_end, aggregate_end}
use Rattle.network_aggregate.proofs.aggregate_end.Goals as goal

-- a set that is not the last ends within the record
set-inside : (s : List ℕ) (at count i here : ℕ) → aggregate_end s at ≤ length s → aggregate_end s at ≡ records_end (set_end s) (count - i) here → i < count → set_end s here ≤ length s
set-inside s at count i here h e lt =
    omega (arith, h, e, end_left (set_end s) count i here lt, end_after (set_end s) (λ y. omega arith) (count - (i + 1)) (set_end s here))

fields-inside : (s : List ℕ) (at : ℕ) → aggregate_end s at ≤ length s → at + 12 ≤ length s
fields-inside s at h = omega (arith, h, end_after (set_end s) (λ y. omega arith) (byte s (at + 3)) (at + 12))

pub set_count-count-requires : goal.set_count-count-requires
set_count-count-requires c = fields-inside c.args.s.now c.args.at c.requires

pub overflow_add-here : goal.overflow_add-here
overflow_add-here c = omega (arith, fields-inside c.args.s.now c.args.at c.requires)

pub set_end-here-requires : goal.set_end-here-requires
set_end-here-requires c =
    omega (
      arith,
      set-inside c.args.s.now c.args.at c.set_count-count.result c.loop.counter c.loop.here c.requires
          c.loop.invariant c.loop-test.true,
    )

pub loop-preserved : goal.loop-preserved
loop-preserved c =
    c.loop.invariant ∙ end_left _ _ _ _ c.loop-test.true ∙ ap (records_end (set_end c.args.s.now) _) (sym c.set_end-here.ensures)

pub returns : goal.returns
returns c = sym (c.loop.invariant ∙ end_over _ _ _ _ c.loop-test.false)
