-- 15 is among no call's numbers. Assumes nothing.
use Rattle.theorem_refusals.specs.Retired.{retired, NeverAnswered}
use Rattle.theorem_refusals.proofs.CallNumbers.{build_numbers_lem, step_numbers, row_numbers}

pub retired_never : NeverAnswered retired
retired_never =
    record {
      build = λ s file old words numbers place e. build_numbers_lem s file old words numbers retired place e;
      step = λ store file work place e. step_numbers store file work retired place e;
      row = λ store row place e. row_numbers store row retired place e;
    }
