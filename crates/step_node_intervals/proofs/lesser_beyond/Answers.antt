-- `lesser_beyond` meets its contract: at each return, the tests that led there.
use Rattle.step_node_intervals.proofs.BinaryRowLaws.{row_passed, row_continuous, row_beyond, row_within}
use Rattle.step_node_intervals.proofs.lesser_beyond.Goals as goal

pub returns-then-first-node : goal.returns-then-first-node
returns-then-first-node c =
    let a = c.args in
    row_passed a.sentinel a.work.now a.shape.now a.at a.first _ c.from-node.ensures c.if-first-node.true

pub returns-then-shape-at-eq0 : goal.returns-then-shape-at-eq0
returns-then-shape-at-eq0 c =
    let a = c.args in
    row_continuous a.sentinel a.work.now a.shape.now a.at a.first _ c.from-node.ensures c.if-shape-at-eq0.true

pub returns-then-is_beyond : goal.returns-then-is_beyond
returns-then-is_beyond c =
    let a = c.args in
    row_beyond a.sentinel a.work.now a.shape.now a.at a.first _ c.from-node.ensures c.if-first-node.false
    c.if-shape-at-eq0.false c.requires.2 c.requires.1 _ _ c.is_beyond.ensures c.is_beyond-2.ensures c.if-is_beyond.true

pub returns : goal.returns
returns c =
    let a = c.args in
    row_within a.sentinel a.work.now a.shape.now a.at a.first _ c.from-node.ensures c.if-first-node.false
    c.if-shape-at-eq0.false c.requires.2 c.requires.1 _ _ c.is_beyond.ensures c.is_beyond-2.ensures c.if-is_beyond.false
