-- `network_checks::check_constants` meets its contract: the marks are those of the nodes that an exclusive aggregate lists.
use native.Mathlib.Omega.{arith}
use mathlib.Core.Path.{◌∙◌, ap}
use mathlib.Core.List.{List}
use mathlib.Core.Bool.{Bool, false}
use lib.ListN.{get_or}
use Rattle.network_laws.specs.NetworkAt.{network_at}
use Rattle.network_laws.proofs.Accepted.{fixed_within, node_accepted, aggregate_accepted}
use Rattle.network_laws.proofs.Passed.{aggregate_more}
use Rattle.network_checks.proofs.MarkLaws.{exclusive_marked}
use Rattle.network_checks.proofs.check_constants.Goals as goal

pub mark_exclusive-requires : goal.mark_exclusive-requires
mark_exclusive-requires c =
    rw c.edges_end.ensures (fixed_within _ _ _ _ _ _ c.requires, λ k lt. aggregate_more _ _ _ _ c.requires.few_nodes (aggregate_accepted _ _ _ _ _ _ c.requires k lt))

pub first_bad_constant-requires : goal.first_bad_constant-requires
unfolding network_at
first_bad_constant-requires c =
    let marked = rw c.edges_end.ensures at c.mark_exclusive.ensures in (
      c.requires.few_nodes,
      node_accepted _ _ _ _ _ _ c.requires,
      λ i lt. ap (λ (marks : List Bool). get_or marks i false) marked ∙ exclusive_marked _ 256 i (omega (arith, lt, c.requires.few_nodes)),
    )
