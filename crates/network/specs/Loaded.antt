-- What the reading of a network file answers, in the definition's terms, and what holds of an accepted file. Assumes nothing.
use Rattle.std.specs.Prelude.{ℕ, List, Ok, Err}
use Rattle.pywr.specs.Result.{Result, value, refused}
use Rattle.pywr.specs.Network.{Network}
use Rattle.pywr.specs.NetworkFile.{Reading, empty_network}
use Rattle.network_record.specs.Counts.{network_of, SectionsOf}
use Rattle.network.specs.Answer.{Loaded}

-- before the first record
abbrev pub start : Reading
start = record { network = empty_network; at = 0; stage = 0 }

-- an accepted file's network is what stands at its records' places; a refusal is its number and place
abbrev pub result_of : List ℕ → Loaded → Result Network
result_of file (Ok c) = value (network_of file c)
result_of file (Err refusal) = refused refusal.number refusal.place

abbrev pub Placed : List ℕ → Loaded → Type 0
Placed file (Ok c) = SectionsOf file c
Placed file (Err refusal) = Unit {0}
