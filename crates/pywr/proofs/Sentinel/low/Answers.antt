-- `pywr::Sentinel::low` meets its contract: it negates what `high` ensures.
use mathlib.Core.Path.{ap}
use lib.Ieee.{neg}
use Rattle.pywr.specs.Numbers.{low}
use Rattle.pywr.proofs.Sentinel.low.Goals as goal

pub returns : goal.returns
unfolding low
returns c = ap neg c.high.ensures
