-- What reading the file told, and the columns by their count. Assumes nothing.
use mathlib.Core.Path.{◌≡◌, refl, ◌∙◌, ap, subst}
use Prim.Native.Nat.{ℕ}
use Rattle.std.specs.Prelude.{Ok, Err}
use mathlib.Core.List.{List}
use Rattle.pywr.specs.declared.Refusal.{Refusal}
use Rattle.pywr.specs.Result.{value, refused}
use Rattle.pywr.specs.NetworkFile.{parse_network}
use Rattle.pywr.specs.ColEdgeMap.{Columns}
use Rattle.network_record.specs.declared.Counts.{Counts}
use Rattle.network_record.specs.Counts.{SectionsOf}
use Rattle.network.specs.Answer.{Loaded}
use Rattle.network.specs.Loaded.{result_of, Placed}
use Rattle.build_col_edge_map.specs.Mapped.{Mapped}
use Rattle.build_node_row.specs.Tables.{network_of}

-- the columns by their own count
pub mapped_so : (c : Columns) (table : List ℕ) (count : ℕ) → Mapped c table count → Mapped c table c.count
mapped_so c table count h = record { table_is = h.table_is; count_is = refl }

-- what reading the file told, for each answer
module _ (file : List ℕ) (r : Loaded) where
  pub read_as : (c : Counts) → r ≡ Ok c → parse_network file ≡ result_of file r → parse_network file ≡ value (network_of file c)
  read_as c e h = h ∙ ap (result_of file) e

  pub placed_as : (c : Counts) → r ≡ Ok c → Placed file r → SectionsOf file c
  placed_as c e = subst (Placed file) e

  pub refused_as : (refusal : Refusal) → r ≡ Err refusal → parse_network file ≡ result_of file r → parse_network file ≡ refused refusal.number refusal.place
  refused_as refusal e h = h ∙ ap (result_of file) e
