-- `build_room::build_has_room` meets its contract.
use Rattle.pywr.specs.Calls.{build_room}
use Rattle.build_room.proofs.build_has_room.Goals as goal

pub returns : goal.returns
unfolding build_room
returns c = λ s w x h ew ex. rw (c.has_room.ensures s h, ew, ex)
