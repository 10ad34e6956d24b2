-- What is promised of the rows' makers: document 02, L5, of the store that any accepted build left, after any list of steps. Assumes nothing.
use Rattle.std.specs.Prelude.{◌≡◌, ◌≢◌, ℕ, ◌+◌, ◌<◌, ◌≤◌, true, Float}
use mathlib.Core.List.{List, [], ◌∷◌, Memᴰ}
use Rattle.std.proofs.Math.Option.{some}
use Rattle.std.proofs.Math.ListN.{get_elem?}
use Rattle.pywr.specs.declared.Sentinel.{Sentinel}
use Rattle.pywr.specs.Result.{value}
use Rattle.pywr.specs.Network.{Node, Aggregate, Network}
use Rattle.pywr.specs.NetworkFile.{parse_network}
use Rattle.pywr.specs.Rows.{column_map}
use Rattle.pywr.specs.Programme.{Row, NodeRow, Maker, by_mass, by_node, by_aggregate, by_exclusivity}
use Rattle.pywr.specs.FixedRows.{mass_rows_from, constant_rows_from, exclusivity_rows}
use Rattle.pywr.specs.Makers.{Asker, askers, references}
use Rattle.pywr.specs.Build.{programme_of}
use Rattle.pywr.specs.Store.{Store, varying_count, row_count, shape_of, makers_in, row_maker}
use Rattle.pywr.specs.Misshapen.{makers_of_kind}
use Rattle.pywr.specs.Calls.{build_answer, build_store, is_accepted}
use Rattle.pywr.specs.Correspondence.{Call, store_after}

-- what 17 asks of a row's maker
pub record RowMade (s : Store) (r : ℕ) : Type 0 where
  pub kind_most : (row_maker s r).kind ≤ by_exclusivity
  pub index_under : (row_maker s r).index < makers_of_kind s (row_maker s r).kind
  pub shared : 1 ≤ (row_maker s r).shared_by

-- an asker of the row, with the maker's kind and index, before which no asker of the row stands
pub record FirstAsker (row : ℕ) (all : List Asker) (m : Maker) : Type 0 where
  pub at : ℕ
  pub asker : Asker
  pub found : get_elem? all at ≡ some asker
  pub given : asker.row ≡ row
  pub kind : m.kind ≡ asker.kind
  pub index : m.index ≡ asker.index
  pub shared : 1 ≤ m.shared_by
  pub none_before : (i : ℕ) (a : Asker) → i < at → get_elem? all i ≡ some a → a.row ≢ row

-- the row is one of those that its maker, the node or aggregate with the maker's index, makes
pub data FixedBy (w : Sentinel) (net : Network) (row : Row) (m : Maker) : Type 0 where
  mass : (x : Node) → m.kind ≡ by_mass → get_elem? net.nodes m.index ≡ some x → Memᴰ row (mass_rows_from (column_map net) m.index (x ∷ [])) → FixedBy w net row m
  constant : (x : Node) → m.kind ≡ by_node → get_elem? net.nodes m.index ≡ some x → Memᴰ row (constant_rows_from w (column_map net) m.index (x ∷ [])) → FixedBy w net row m
  exclusivity : (x : Aggregate) → m.kind ≡ by_exclusivity → get_elem? net.aggregates m.index ≡ some x → Memᴰ row (exclusivity_rows (column_map net) (x ∷ [])) → FixedBy w net row m

-- of a store, and the network that it was built from
pub record MakersKept (w : Sentinel) (net : Network) (s : Store) : Type 0 where
  -- the definition's makers, one for each row
  pub built : makers_in s ≡ (programme_of w net).makers
  -- "in range and the count at least 1"
  pub every : (r : ℕ) → r < row_count s → RowMade s r
  -- of varying rows, "its first maker's kind .. and index", by the tables that the store keeps
  pub first : (r : ℕ) → r < varying_count s → FirstAsker r (askers (shape_of s)) (row_maker s r)
  -- so a row that a node asked for is a node's, and one that an aggregate asked for no virtual storage's
  pub nodes_first : (r i : ℕ) (n : NodeRow) → get_elem? (shape_of s).node_rows i ≡ some n → n.row ≡ r → r < varying_count s → (row_maker s r).kind ≡ by_node
  pub aggregates_first : (r : ℕ) → Memᴰ r (shape_of s).aggregates → r < varying_count s → (row_maker s r).kind ≤ by_aggregate
  -- "how many makers share it, one that asks twice counted twice"
  pub shared : (r : ℕ) → r < varying_count s → (row_maker s r).shared_by ≡ references (shape_of s) r
  -- of fixed rows: one maker, which makes the row
  pub alone : (r : ℕ) → varying_count s ≤ r → r < row_count s → (row_maker s r).shared_by ≡ 1
  pub fixed : (i : ℕ) (row : Row) → get_elem? (programme_of w net).programme.fixed i ≡ some row → FixedBy w net row (row_maker s (varying_count s + i))

abbrev pub MakersStay : Type 0
MakersStay = (network_file : List ℕ) (w : Sentinel) (old : Store) (words : List ℕ) (numbers : List Float) (net : Network) → parse_network network_file ≡ value net
    → is_accepted (build_answer w network_file old words numbers) ≡ true → (calls : List Call) → MakersKept w net (store_after (build_store w network_file old words numbers) calls)
