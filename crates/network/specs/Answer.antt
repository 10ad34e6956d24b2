-- What the reading of a network file answers: the type of src/. Assumes nothing.
use Rattle.std.specs.Prelude.{Result}
use Rattle.pywr.specs.declared.Refusal.{Refusal}
use Rattle.network_record.specs.declared.Counts.{Counts}

-- the counts of an accepted file, or the refusal
abbrev pub Loaded : Type 0
Loaded = Result Counts Refusal
