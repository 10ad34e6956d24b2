-- `build_node_row::bounded_row` meets its contract.
use mathlib.Core.Path.{◌∙◌, ap}
use Rattle.pywr.specs.Misshapen.{columns_rise}
use Rattle.pywr.specs.Store.{elements_of}
use Rattle.pywr.specs.Rows.{add_element}
use Rattle.build_row.specs.RowBuilder.{gathered}
use borrow.Author.Rules.{rules}
use Rattle.build_node_row.proofs.bounded_row.Goals as goal

pub add_node-n-requires : goal.add_node-n-requires
unfolding columns_rise
add_node-n-requires c = search rules

pub returns : goal.returns
unfolding gathered elements_of
returns c =
    record {
      is = c.add_element.ensures.row
          ∙ ap (add_element _ _) c.add_node-n.ensures.row;
      rising = c.add_element.ensures.rising;
      few = c.add_element.ensures.few;
    }
