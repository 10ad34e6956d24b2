-- `pywr_row` meets its contract.
use Rattle.pywr_c_answers.proofs.CrossingLaws.{inside_rises, row_crossed}
use Rattle.pywr_c.proofs.pywr_row.Goals as goal

pub part_of-requires : goal.part_of-requires
part_of-requires c = let answered = c.row_answer-answer in inside_rises answered.result _ answered.ensures.inside

pub returns : goal.returns
returns c = let answered = c.row_answer-answer in row_crossed answered.result answered.ensures c.part_of.ensures
