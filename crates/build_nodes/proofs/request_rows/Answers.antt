-- `build_nodes::request_rows` meets its contract: `NodeOrder.antt` has what a node asks for.
use native.Mathlib.Omega.{arith}
use Rattle.build_nodes.proofs.NodeOrder.{node_within, node_under, constant_after, own_room, own_after, listed_room, listed_after}
use Rattle.build_nodes.proofs.request_rows.Goals as goal

pub is_constant-requires : goal.is_constant-requires
is_constant-requires c = node_within _ _ _ c.requires.0 _ c.requires.1

pub returns-then-is_constant-clause-rows : goal.returns-then-is_constant-clause-rows
returns-then-is_constant-clause-rows c =
    let p = c.requires in
    constant_after _ _ _ p.0 _ p.1 _ c.is_constant.ensures c.if-is_constant.true _ _ _ _ p.5

pub bounds-memberships-from : goal.bounds-memberships-from
bounds-memberships-from c =
    let under = node_under _ _ _ c.requires.0 _ c.requires.1 in
    omega (arith, c.from.ensures)

pub request_node_row-requires : goal.request_node_row-requires
request_node_row-requires c =
    let p = c.requires in (
      p.0,
      p.1,
      p.4,
      record { asks = _; held = p.5 },
      own_room _ _ _ p.0 _ p.3 _ _ c.from.ensures p.1 _
          c.is_constant.ensures c.if-is_constant.false c.if-memberships-from-eq0.true _ _ _ _ p.5,
    )

pub returns-then-memberships-from-eq0-clause-rows : goal.returns-then-memberships-from-eq0-clause-rows
returns-then-memberships-from-eq0-clause-rows c =
    let p = c.requires in
    own_after _ _ _ p.0 _ p.3 _ _ c.from.ensures p.1 _ c.is_constant.ensures c.if-is_constant.false
    c.if-memberships-from-eq0.true _ _ _ _ (c.request_node_row.ensures.rows _ p.5)

pub request_exclusive_rows-requires : goal.request_exclusive_rows-requires
request_exclusive_rows-requires c =
    let p = c.requires in (
      p.0,
      p.1,
      p.2,
      p.3,
      p.4,
      p.5,
      listed_room _ _ _ p.0 _ p.3 _ _ c.from.ensures p.1 _
          c.is_constant.ensures c.if-is_constant.false c.if-memberships-from-eq0.false,
    )

pub returns-clause-rows : goal.returns-clause-rows
returns-clause-rows c =
    let p = c.requires in
    listed_after _ _ _ p.0 _ p.3 _ _ c.from.ensures p.1 _ c.is_constant.ensures c.if-is_constant.false
    c.if-memberships-from-eq0.false _ _ _ _ c.request_exclusive_rows.ensures.rows
