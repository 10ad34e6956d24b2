-- Runs that were changed one after another are those that were lent. Assumes nothing.
use mathlib.Core.Path.{refl, ◌∙◌}
use Rattle.step_row_bounds.specs.declared.StoreRows.{StoreRows}
use Rattle.step_row_bounds.specs.SameRuns.{SameRuns, BoundsAlone, ElementsAlone}

pub same_runs : (s : StoreRows) → SameRuns s s
same_runs s =
    record {
      row_lower = refl;
      row_upper = refl;
      elements = refl;
      lower_long = refl;
      upper_long = refl;
      elements_long = refl;
      columns = refl;
      row_starts = refl;
      shape = refl;
    }

pub same_then : {r s t : StoreRows} → SameRuns r s → SameRuns s t → SameRuns r t
same_then a b =
    record {
      row_lower = b.row_lower ∙ a.row_lower;
      row_upper = b.row_upper ∙ a.row_upper;
      elements = b.elements ∙ a.elements;
      lower_long = b.lower_long ∙ a.lower_long;
      upper_long = b.upper_long ∙ a.upper_long;
      elements_long = b.elements_long ∙ a.elements_long;
      columns = b.columns ∙ a.columns;
      row_starts = b.row_starts ∙ a.row_starts;
      shape = b.shape ∙ a.shape;
    }

pub bounds_alone : (s : StoreRows) → BoundsAlone s s
bounds_alone s = record { runs = same_runs s; factors = refl }

pub alone_then : {r s t : StoreRows} → BoundsAlone r s → BoundsAlone s t → BoundsAlone r t
alone_then a b = record { runs = same_then a.runs b.runs; factors = b.factors ∙ a.factors }

pub elements_alone : (s : StoreRows) → ElementsAlone s s
elements_alone s = record { runs = same_runs s; lowers = refl; uppers = refl }

pub elements_then : {r s t : StoreRows} → ElementsAlone r s → ElementsAlone s t → ElementsAlone r t
elements_then a b = record { runs = same_then a.runs b.runs; lowers = b.lowers ∙ a.lowers; uppers = b.uppers ∙ a.uppers }
