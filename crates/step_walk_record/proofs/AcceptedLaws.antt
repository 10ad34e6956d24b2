-- A record whose mark and fields passed in one look passes its check. Assumes nothing.
use Rattle.std.specs.Prelude.{Ok}
use Prim.Native.Nat.{ℕ, ◌+◌, ◌≤◌}
use mathlib.Core.Path.{◌≡◌}
use mathlib.Core.Bool.{true}
use mathlib.Core.List.{List}
use native.Mathlib.Omega.{arith}
use lib.ListN.{length}
use borrow.Author.Tests.{le-leb}
use Rattle.pywr.specs.Bytes.{le64, mark_is}
use Rattle.pywr.specs.Programme.{NodeShape}
use Rattle.pywr.specs.StepFile.{is_storage}
use Rattle.step_record.specs.declared.Range.{Range}
use Rattle.step_record.specs.declared.Range.TheVariants.{Flow, Small}
use Rattle.step_record.specs.Check.{in_range, bound_range, volume_range, check_mark, check_field, answer_then, check_node, check_aggregate, check_virtual_storage_step}
use Rattle.step_record.specs.Check.{node_step_length, node_cost_offset, node_min_offset, node_max_offset, node_volume_offset, aggregate_step_length, aggregate_lower_offset}
use Rattle.step_record.specs.Check.{aggregate_upper_offset, virtual_storage_step_length, virtual_min_offset, virtual_max_offset, virtual_volume_offset}
use Rattle.step_walk_record.proofs.GoodLaws.{FlowsFit, VolumesFit}

module _ (file : List ℕ) (place : ℕ) where
  mark_accepted : (a b : ℕ) → place + 2 ≤ length file → mark_is file place a b ≡ true → check_mark file place a b ≡ Ok tt
  unfolding check_mark
  mark_accepted a b h e = rw (le-leb (place + 2) (length file) h, e)

  field_accepted : (at : ℕ) (range : Range) → at + 8 ≤ length file → in_range range (le64 file at) ≡ true → check_field file place at range ≡ Ok tt
  unfolding check_field
  field_accepted at range h e = rw (le-leb (at + 8) (length file) h, e)

module _ (file : List ℕ) (at : ℕ) where
  -- the ranges of a node's fields behind its cost
  pub record BoundsFit (n : NodeShape) : Type 0 where
    pub min : in_range (bound_range n.constant (is_storage n)) (le64 file (at + node_min_offset)) ≡ true
    pub max : in_range (bound_range n.constant (is_storage n)) (le64 file (at + node_max_offset)) ≡ true
    pub volume : in_range (volume_range (is_storage n)) (le64 file (at + node_volume_offset)) ≡ true

  pub node_accepted : (n : NodeShape) → at + node_step_length ≤ length file → mark_is file at 78 66 ≡ true → in_range Small (le64 file (at + node_cost_offset)) ≡ true
      → BoundsFit n
      → check_node file n at ≡ Ok tt
  unfolding check_node answer_then
  node_accepted n h m c b =
      rw (
        mark_accepted file at 78 66 (omega arith) m,
        field_accepted file at (at + node_cost_offset) Small (omega arith) c,
        field_accepted file at (at + node_min_offset) (bound_range n.constant (is_storage n)) (omega arith) b.min,
        field_accepted file at (at + node_max_offset) (bound_range n.constant (is_storage n)) (omega arith) b.max,
        field_accepted file at (at + node_volume_offset) (volume_range (is_storage n)) (omega arith) b.volume,
      )

  pub aggregate_accepted : at + aggregate_step_length ≤ length file → mark_is file at 71 66 ≡ true
      → FlowsFit (le64 file (at + aggregate_lower_offset)) (le64 file (at + aggregate_upper_offset))
      → check_aggregate file at ≡ Ok tt
  unfolding check_aggregate answer_then in_range
  aggregate_accepted h m f =
      rw (
        mark_accepted file at 71 66 (omega arith) m,
        field_accepted file at (at + aggregate_lower_offset) Flow (omega arith) f.lower,
        field_accepted file at (at + aggregate_upper_offset) Flow (omega arith) f.upper,
      )

  pub virtual_storage_accepted : at + virtual_storage_step_length ≤ length file → mark_is file at 86 66 ≡ true
      → VolumesFit (le64 file (at + virtual_min_offset)) (le64 file (at + virtual_max_offset)) (le64 file (at + virtual_volume_offset))
      → check_virtual_storage_step file at ≡ Ok tt
  unfolding check_virtual_storage_step answer_then in_range
  virtual_storage_accepted h m v =
      rw (
        mark_accepted file at 86 66 (omega arith) m,
        field_accepted file at (at + virtual_min_offset) Small (omega arith) v.min,
        field_accepted file at (at + virtual_max_offset) Small (omega arith) v.max,
        field_accepted file at (at + virtual_volume_offset) Small (omega arith) v.volume,
      )
