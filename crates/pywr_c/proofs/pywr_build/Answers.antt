-- `pywr_build` meets its contract.
use Rattle.pywr_c_answers.proofs.CrossingLaws.{build_crossed}
use Rattle.pywr_c.proofs.pywr_build.Goals as goal

pub returns : goal.returns
returns c = build_crossed _ c.build-answer.result c.sentinel.ensures c.build-answer.ensures c.from.ensures
