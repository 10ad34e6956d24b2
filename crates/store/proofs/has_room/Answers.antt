-- `has_room` meets its contract.
use Rattle.pywr.specs.Store.{store_has_room}
use Rattle.store.proofs.has_room.Goals as goal

pub returns : goal.returns
unfolding store_has_room
returns c =
    λ s h. rw (h.col_lower, h.col_upper, h.col_obj_coef, h.row_lower, h.row_upper, h.elements, h.columns, h.row_starts, h.shape)
