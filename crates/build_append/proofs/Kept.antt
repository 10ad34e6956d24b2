-- What calls in turn leave of a builder's runs. Assumes nothing.
use mathlib.Core.Path.{◌∙◌}
use native.Mathlib.Omega.{arith}
use Rattle.layout.specs.WorkRoom.{WorkRoom}
use Rattle.build_append.specs.LpBuilder.{SameRuns}
use Rattle.build_append.specs.declared.LpBuilder.{LpBuilder}

pub same_then : {old mid new : LpBuilder} → SameRuns old mid → SameRuns mid new → SameRuns old new
same_then a b =
    record {
      words = b.words ∙ a.words;
      numbers = b.numbers ∙ a.numbers;
      words_long = b.words_long ∙ a.words_long;
      numbers_long = b.numbers_long ∙ a.numbers_long;
      sentinel = b.sentinel ∙ a.sentinel;
    }

pub room_kept : {old new : LpBuilder} → SameRuns old new → WorkRoom old.words.now old.numbers.now → WorkRoom new.words.now new.numbers.now
room_kept s r = record { words_room = omega (arith, r.words_room, s.words_long); numbers_room = omega (arith, r.numbers_room, s.numbers_long) }
