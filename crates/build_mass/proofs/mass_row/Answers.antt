-- `build_mass::mass_row` meets its contract.
use mathlib.Core.Path.{refl, ap, ◌∙◌}
use native.Mathlib.Omega.{arith}
use lib.Ieee.{of_bits, neg}
use Rattle.pywr.specs.Numbers.{one64}
use Rattle.pywr.specs.Rows.{add_on}
use Rattle.pywr.specs.Store.{elements_of}
use Rattle.pywr.specs.Misshapen.{columns_rise}
use Rattle.build_row.specs.RowBuilder.{gathered}
use Rattle.build_row.specs.EdgeList.{columns_of}
use Rattle.build_mass.proofs.mass_row.Goals as goal

pub add_columns-n-requires : goal.add_columns-n-requires
unfolding columns_rise
add_columns-n-requires c = (omega arith, c.requires.0, refl, rw c.from-k.ensures c.requires.2)

pub add_columns-requires : goal.add_columns-requires
add_columns-requires c =
    (c.add_columns-n.ensures.few, omega (arith, c.add_columns-n.auto.elements, c.requires.0), c.add_columns-n.ensures.rising, rw c.from-k.ensures c.requires.3)

pub returns-clause-row : goal.returns-clause-row
unfolding one64 of_bits gathered elements_of
returns-clause-row c =
    λ into out li lo. record {
      is = c.add_columns.ensures.row out (rw c.from-k.ensures lo) ∙ ap (add_on (columns_of c.args.tables.now.edge_to_col out) (neg one64)) (c.add_columns-n.ensures.row into (rw c.from-k.ensures li));
      rising = c.add_columns.ensures.rising;
      few = c.add_columns.ensures.few;
    }
