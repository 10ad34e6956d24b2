-- 15 is no number of an exported call. Assumes nothing.
use Rattle.theorem_refusals.specs.Retired.{retired}
use Rattle.theorem_exported_calls.specs.Retired.{NeverNumbered}
use Rattle.theorem_exported_calls.proofs.AnswerNumbers.{build_number, step_number, row_number}

pub retired_never : NeverNumbered retired
retired_never =
    record {
      build = λ s file old new words words' numbers numbers' place c. build_number c;
      step = λ file old new work work' place c. step_number c;
      row = λ store row place start size c. row_number c;
    }
