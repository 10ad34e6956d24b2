-- `program_words::read_number` meets its contract. The loop's invariant: the word is the number whose digits so far have this value.
use Rattle.std.proofs.Common.{◌≡◌, ◌≤◌, drop}
use Rattle.program_words.specs.Words.{number_from, number_in}
use Rattle.program_words.proofs.read_number.Given as goal

abbrev pub invariant-loop-b : goal.invariant-loop-b
invariant-loop-b l = (l.value ≤ 999999) × (number_in l.word ≡ number_from l.value (drop l.b-index l.word))
