-- `build_constants::add_constant_rows` meets its contract.
use mathlib.Core.Path.{sym, ◌∙◌}
use native.Mathlib.Omega.{arith}
use Rattle.build_constants.proofs.ConstantRows.{varying_none, no_membership, some_membership}
use Rattle.build_constants.proofs.add_constant_rows.Goals as goal

pub is_constant-requires : goal.is_constant-requires
is_constant-requires c = omega (arith, c.requires.0.sections.fixed, c.requires.0.sections.inside, c.requires.1)

pub returns-then-not-is_constant-clause-rows : goal.returns-then-not-is_constant-clause-rows
returns-then-not-is_constant-clause-rows c =
    varying_none _ _ _ _ (sym c.is_constant.ensures ∙ c.if-not-is_constant.true) _ _ _

pub bounds-memberships-from : goal.bounds-memberships-from
bounds-memberships-from c = omega (arith, c.from.ensures, c.requires.1, c.requires.0.sections.few_nodes)

pub add_node_row-requires : goal.add_node_row-requires
add_node_row-requires c = let p = c.requires in (p.0, p.1, p.4, p.5)

pub returns-then-memberships-from-eq0-clause-rows : goal.returns-then-memberships-from-eq0-clause-rows
returns-then-memberships-from-eq0-clause-rows c =
    no_membership _ _ _ c.requires.3 _ _ c.from.ensures (omega (arith, c.requires.1, c.requires.0.sections.few_nodes)) _ _
    (sym c.is_constant.ensures ∙ c.if-not-is_constant.false) _ _ _ _ _ _ c.if-memberships-from-eq0.true c.add_node_row.ensures.rows

pub add_exclusive_rows-requires : goal.add_exclusive_rows-requires
add_exclusive_rows-requires c = c.requires

pub returns-clause-rows : goal.returns-clause-rows
returns-clause-rows c =
    some_membership _ _ _ c.requires.3 _ _ c.from.ensures (omega (arith, c.requires.1, c.requires.0.sections.few_nodes)) _ _
    (sym c.is_constant.ensures ∙ c.if-not-is_constant.false) _ _ _ _ _ _ c.if-memberships-from-eq0.false
    c.add_exclusive_rows.ensures.rows
