-- The period of a virtual storage as a struct and in the words of the shape run. Assumes nothing.
use Rattle.std.specs.Prelude.{ℕ, List, eqb}
use Rattle.layout.specs.Layout.{period_flag, period_start_month, period_start_day, period_end_month, period_end_day}
use Rattle.pywr.specs.Network.{Period}
use Rattle.step_period.specs.declared.Period as declared

abbrev pub period_of : declared.Period → Period
period_of p = record { always = p.always; start_month = p.start.month; start_day = p.start.day; end_month = p.end.month; end_day = p.end.day }

unfoldable pub period_at : List ℕ → ℕ → Period
period_at shape place =
    record {
      always = eqb (period_flag shape place) 0;
      start_month = period_start_month shape place;
      start_day = period_start_day shape place;
      end_month = period_end_month shape place;
      end_day = period_end_day shape place;
    }
