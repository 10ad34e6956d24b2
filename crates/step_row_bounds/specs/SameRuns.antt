-- What a change of a store's rows leaves. Assumes nothing.
use Rattle.std.specs.Prelude.{◌≡◌, length}
use Rattle.step_row_bounds.specs.declared.StoreRows.{StoreRows}

-- the runs that were lent, each as long as it was, and the tables as they were
pub record SameRuns (old new : StoreRows) : Type 0 where
  pub row_lower : new.row_lower.ghost_name ≡ old.row_lower.ghost_name
  pub row_upper : new.row_upper.ghost_name ≡ old.row_upper.ghost_name
  pub elements : new.elements.ghost_name ≡ old.elements.ghost_name
  pub lower_long : length new.row_lower.now ≡ length old.row_lower.now
  pub upper_long : length new.row_upper.now ≡ length old.row_upper.now
  pub elements_long : length new.elements.now ≡ length old.elements.now
  pub columns : new.columns.now ≡ old.columns.now
  pub row_starts : new.row_starts.now ≡ old.row_starts.now
  pub shape : new.shape.now ≡ old.shape.now

-- of the runs the bounds alone may have other numbers
pub record BoundsAlone (old new : StoreRows) : Type 0 where
  pub runs : SameRuns old new
  pub factors : new.elements.now ≡ old.elements.now

-- or the elements alone
pub record ElementsAlone (old new : StoreRows) : Type 0 where
  pub runs : SameRuns old new
  pub lowers : new.row_lower.now ≡ old.row_lower.now
  pub uppers : new.row_upper.now ≡ old.row_upper.now
