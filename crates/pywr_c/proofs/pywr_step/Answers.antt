-- `pywr_step` meets its contract.
use Rattle.pywr_c_answers.proofs.CrossingLaws.{step_crossed}
use Rattle.pywr_c.proofs.pywr_step.Goals as goal

pub returns : goal.returns
returns c = step_crossed c.step-answer.result c.step-answer.ensures c.from.ensures
