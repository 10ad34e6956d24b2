-- `build_row::place_of` meets its contract.
use native.Mathlib.Omega.{arith}
use Rattle.build_row.proofs.Search.{place_searched, place_last}
use Rattle.build_row.proofs.place_of.Goals as goal

pub returns-in-Some : goal.returns-in-Some
returns-in-Some c = place_searched _ _ c.requires _ c.binary_search.ensures.position

pub returns-in_default : goal.returns-in_default
returns-in_default c = place_last _ _ c.requires (λ h. let d = c.if-column-last.false in omega (arith, c.in-Some.ensures.item.3.1 0))
