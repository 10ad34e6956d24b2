-- `check_nodes` meets its contract. The loop's invariant: the check of all nodes is that of those that are left.
use mathlib.Core.Path.{sym, ◌∙◌}
use native.Mathlib.Nat.{sub-zero}
use Rattle.std.proofs.lemmas.Result.{err_from_is_err_and}
use Rattle.pywr.specs.Store.{node_entry}
use Rattle.store_shape.proofs.Entries.{of_shape}
use Rattle.step_file.proofs.LoopLaws.{nodes_refused, nodes_more, nodes_done_lem, nodes_of}
use Rattle.step_file.proofs.check_nodes.Goals as goal

pub loop-k-init : goal.loop-k-init
loop-k-init c = rw sub-zero

pub returns-in_err-check_node : goal.returns-in_err-check_node
unfolding node_entry
returns-in_err-check_node c =
    let p = err_from_is_err_and c.from_residual.result c.from_residual.ensures.1 in
    λ s e. rw (p.1, p.2, nodes_of s c.args.shape.now e, ← c.from-nodes.ensures)
    (nodes_refused _ (node_entry (of_shape c.args.shape.now)) _ _ _ c.loop-k.invariant c.loop-k-test.true (sym c.check_node.ensures ∙ c.in_err-check_node.was))

pub loop-k-preserved : goal.loop-k-preserved
unfolding node_entry
loop-k-preserved c =
    nodes_more _ (node_entry (of_shape c.args.shape.now)) _ _ c.loop-k.invariant c.loop-k-test.true (sym c.check_node.ensures ∙ c.in_ok-check_node.was)

pub returns : goal.returns
returns c =
    λ s e. rw (nodes_of s c.args.shape.now e, ← c.from-nodes.ensures)
    (nodes_done_lem _ (node_entry (of_shape c.args.shape.now)) _ _ c.loop-k.invariant c.loop-k-test.false)
