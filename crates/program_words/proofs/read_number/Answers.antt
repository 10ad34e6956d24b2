-- `program_words::read_number` meets its contract.
use Rattle.std.proofs.Common.{rules, sym, arith, ◌∙◌}
use Rattle.std.proofs.lemmas.Grind.{common_steps}
use Rattle.program_words.proofs.WordLaws.{empty, begins, ends, no_digit, too_large, goes_on}
use Rattle.program_words.proofs.read_number.Goals as goal
use Rattle.program_words.proofs.read_number.Goals.{then-not-is_ascii_digit-via-then-not-is_ascii_digit, then-not-is_ascii_digit-via-else-not-is_ascii_digit+then-value-gt99999}

pub loop-b-init : goal.loop-b-init
loop-b-init c = (search rules, begins _ (grind (arith, common_steps)))

pub returns-then-is_empty : goal.returns-then-is_empty
returns-then-is_empty c = empty _ (grind (arith, common_steps))

pub returns : goal.returns
returns c = ends _ _ _ c.loop-b-test.false c.loop-b.invariant.1

pub returns-then-not-is_ascii_digit : goal.returns-then-not-is_ascii_digit
returns-then-not-is_ascii_digit c =
    elim c.then-not-is_ascii_digit.branch [
      | then-not-is_ascii_digit-via-then-not-is_ascii_digit w ↦ no_digit _ _ _ c.loop-b-test.true c.loop-b.invariant.1 (sym c.is_ascii_digit.ensures.value ∙ w.if-not-is_ascii_digit.true)
      | then-not-is_ascii_digit-via-else-not-is_ascii_digit+then-value-gt99999 w ↦ too_large _ _ _ c.loop-b-test.true c.loop-b.invariant.1 w.if-value-gt99999.true
    ]

pub loop-b-preserved : goal.loop-b-preserved
loop-b-preserved c =
    let goes = goes_on _ _ _ c.loop-b-test.true c.loop-b.invariant.1 (sym c.is_ascii_digit.ensures.value ∙ c.if-not-is_ascii_digit.false) c.if-value-gt99999.false in
    (grind (arith, common_steps), rw c.from.ensures goes)
