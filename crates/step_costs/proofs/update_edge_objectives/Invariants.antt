-- `step_costs::update_edge_objectives` meets its contract. The loop's invariant: the costs of i edges of the flow order were added.
use Rattle.step_costs.proofs.CostLaws.{Added}
use Rattle.step_costs.proofs.update_edge_objectives.Given as goal

abbrev pub invariant-loop-i : goal.invariant-loop-i
invariant-loop-i l = Added l.file l.shape l.initial.col_obj_coef l.col_obj_coef l.i
