-- File order: networks with the same nodes and edges have the same columns but for the numbers, and mass rows at the same links. Assumes nothing.
use mathlib.Core.Path.{◌≡◌, refl, sym, ap, ◌∙◌}
use lib.ListN.{length}
use Rattle.pywr.specs.Network.{Network}
use Rattle.pywr.specs.ColEdgeMap.{mapped_edges}
use Rattle.pywr.specs.Rows.{column_map, mass_row}
use Rattle.pywr.specs.Programme.{by_mass}
use Rattle.pywr.specs.FixedRows.{mass_rows_from}
use Rattle.pywr.specs.Makers.{mass_makers}
use Rattle.pywr.proofs.MakerLaws.{masses_in_turn, in_turn_length}
use Rattle.pywr.proofs.ReadLaws.{Sound, read_sound}
use Rattle.theorem_file_order.specs.FileOrder.{SameButOrder, SameColumns, FileOrder}
use Rattle.theorem_file_order.proofs.Places.{turned}
use Rattle.theorem_file_order.proofs.Order.{turned_edge, together_there, same_count}
use Rattle.theorem_file_order.proofs.RowsAlike.{with_edges}
use Rattle.theorem_file_order.proofs.FixedAlike.{mass_makers_alike}
use Rattle.theorem_file_order.proofs.NewNumbers.{edges_moved}

-- a mass row is made from the edges alone
masses_by_edges : (a b : Network) → mass_makers (with_edges (column_map a) (mapped_edges b)) 0 a.nodes ≡ mass_makers (column_map b) 0 a.nodes
unfolding mass_makers mass_rows_from mass_row column_map with_edges
masses_by_edges a b = refl

mass_links_lem : (a b : Network) → SameButOrder a b → Sound a → Sound b → mass_makers (column_map a) 0 a.nodes ≡ mass_makers (column_map b) 0 b.nodes
mass_links_lem a b same sa sb =
    mass_makers_alike (edges_moved a b same sa sb) a.nodes ∙ masses_by_edges a b ∙ ap (mass_makers (column_map b) 0) same.nodes

mass_count : (net : Network) → length (mass_makers (column_map net) 0 net.nodes) ≡ length (mass_rows_from (column_map net) 0 net.nodes)
unfolding mass_makers
mass_count net = in_turn_length by_mass (mass_rows_from (column_map net)) (masses_in_turn (column_map net)) 0 net.nodes

pub same_columns : (a b : Network) → SameButOrder a b → Sound a → Sound b → SameColumns a b
same_columns a b same sa sb =
    record {
      count = same_count a b same sa sb;
      together = λ e f e' f' se sf. (
        together_there a b same sa sb e f e' f' se sf,
        together_there b a (turned same) sb sa e' f' e f (turned_edge se) (turned_edge sf),
      );
      mass_links = mass_links_lem a b same sa sb;
      mass_rows = sym (mass_count a) ∙ ap length (mass_links_lem a b same sa sb) ∙ mass_count b;
    }

pub file_order : FileOrder
file_order first second a b read_a read_b same = same_columns a b same (read_sound first a read_a) (read_sound second b read_b)
