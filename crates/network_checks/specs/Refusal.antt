-- The refusal that a check answers, in the definition's terms. Assumes nothing.
use Rattle.std.specs.Prelude.{ℕ, Ok, Err}
use Rattle.std.proofs.Math.Option.{Option, none, some}
use Rattle.pywr.specs.Answer.{Answer}
use Rattle.pywr.specs.Result.{Result, value, refused}
use Rattle.pywr.specs.Network.{Network}

-- what is found of the nodes
abbrev pub found_by : Answer → Option (ℕ × ℕ)
found_by (Ok _) = none
found_by (Err refusal) = some (refusal.number, refusal.place)

-- the network's result
abbrev pub result_with : Network → Answer → Result Network
result_with net (Ok _) = value net
result_with net (Err refusal) = refused refusal.number refusal.place
