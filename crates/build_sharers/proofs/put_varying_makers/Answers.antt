-- `build_sharers::put_varying_makers` meets its contract.
use native.Mathlib.Omega.{arith}
use Rattle.build_sharers.proofs.Table.{nodes_ready, aggregates_ready, virtual_storages_ready, all_counted}
use Rattle.build_sharers.proofs.put_varying_makers.Goals as goal

pub add_node_sharers-requires : goal.add_node_sharers-requires
add_node_sharers-requires c =
    let p = c.requires in (
      p.1,
      omega (arith, p.4, c.put_makers.auto.shape),
      nodes_ready _ _ _ _ _ p.0 p.1 p.2 p.3 p.4 p.5 _ c.put_makers.ensures,
    )

pub add_sharers-requires : goal.add_sharers-requires
add_sharers-requires c =
    let p = c.requires in (
      omega (arith, p.2),
      p.2,
      omega arith,
      omega (arith, p.4, c.put_makers.auto.shape, c.add_node_sharers.auto.shape),
      aggregates_ready _ _ _ _ _ p.0 p.1 p.2 p.3 p.4 p.5 _ c.put_makers.ensures _
          c.add_node_sharers.ensures,
    )

pub add_sharers-requires-2 : goal.add_sharers-requires-2
add_sharers-requires-2 c =
    let p = c.requires in (
      omega (arith, p.3),
      omega (arith, p.3),
      omega arith,
      omega (
        arith,
        p.4,
        c.put_makers.auto.shape,
        c.add_node_sharers.auto.shape,
        c.add_sharers.auto.shape,
      ),
      virtual_storages_ready _ _ _ _ _ p.0 p.1 p.2 p.3 p.4 p.5 _ c.put_makers.ensures _
          c.add_node_sharers.ensures _ c.add_sharers.ensures,
    )

pub returns : goal.returns
returns c =
    let p = c.requires in
    all_counted _ _ _ _ _ p.0 p.1 p.2 p.3 p.4 p.5 _ c.put_makers.ensures _
    c.add_node_sharers.ensures _ c.add_sharers.ensures _ c.add_sharers-2.ensures
