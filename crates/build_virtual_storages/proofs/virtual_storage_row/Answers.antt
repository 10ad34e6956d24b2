-- `build_virtual_storages::virtual_storage_row` meets its contract. The invariant: the parts left, added to the row so far, make the virtual storage's row.
use mathlib.Core.Path.{refl, ◌∙◌}
use Prim.Native.Nat.{◌+◌, ◌<◌}
use native.Mathlib.Omega.{arith}
use Rattle.pywr.specs.Bytes.{byte}
use Rattle.build_virtual_storages.proofs.VirtualStorageLaws.{parts_none, parts_more, parts_all, virtual_storage_within, fields_within, part_told}
use Rattle.build_virtual_storages.proofs.virtual_storage_row.Goals as goal

pub part_count-k-end-requires : goal.part_count-k-end-requires
part_count-k-end-requires c = fields_within _ _ _ c.requires.1

pub loop-k-init : goal.loop-k-init
loop-k-init c = (parts_none _ c.args.tables.now.counts _ _ _, refl)

pub part_node-node-requires : goal.part_node-node-requires
part_node-node-requires c = (virtual_storage_within _ _ _ c.requires.1, omega (arith, c.part_count-k-end.ensures.0, c.loop-k-test.true))

pub part_factor-factor-requires : goal.part_factor-factor-requires
part_factor-factor-requires c =
    let l = c.loop-k in
    let lt : l.k < byte c.args.tables.now.file.now (c.args.at + 7) = omega (arith, c.part_count-k-end.ensures.0, c.loop-k-test.true) in
    (virtual_storage_within _ _ _ c.requires.1, lt, (part_told _ _ _ c.requires.1 _ lt).factor)

pub add_node-n-requires : goal.add_node-n-requires
add_node-n-requires c =
    let l = c.loop-k in
    let lt : l.k < byte c.args.tables.now.file.now (c.args.at + 7) = omega (arith, c.part_count-k-end.ensures.0, c.loop-k-test.true) in
    (c.requires.0, omega (arith, c.part_node-node.ensures, (part_told _ _ _ c.requires.1 _ lt).node), l.invariant.0.few, omega (arith, l.invariant.1, c.requires.2), l.invariant.0.rising)

pub loop-k-preserved : goal.loop-k-preserved
loop-k-preserved c =
    let l = c.loop-k in
    let lt : l.k < byte c.args.tables.now.file.now (c.args.at + 7) = omega (arith, c.part_count-k-end.ensures.0, c.loop-k-test.true) in (
      parts_more _ c.args.tables.now.counts _ _ _ _ _ l.invariant.0 _ _ _ _ _ lt c.part_node-node.ensures c.part_factor-factor.ensures
          c.add_node-n.ensures,
      c.add_node-n.auto.elements ∙ l.invariant.1,
    )

pub shape_of-elements : goal.shape_of-elements
shape_of-elements c = c.loop-k.invariant.1

pub returns : goal.returns
returns c =
    parts_all _ c.args.tables.now.counts _ _ _ _ _ c.loop-k.invariant.0 (omega (arith, c.part_count-k-end.ensures.0, c.loop-k-test.false))
