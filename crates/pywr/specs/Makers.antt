-- Who made each row. Document 02, L5: "Each row carries its first maker's kind (mass, node, aggregate, virtual storage, exclusivity) and index, and how many makers share it,
-- one that asks twice counted twice." Assumes nothing.
use Rattle.std.specs.Prelude.{ℕ, zero, suc, ◌+◌, cond, List, [], ◌∷◌, ◌++◌, map, length, eqb}
use Rattle.pywr.specs.declared.Sentinel.{Sentinel}
use Rattle.pywr.specs.Network.{Node, Aggregate, Network, keep_if}
use Rattle.pywr.specs.Rows.{ColumnMap}
use Rattle.pywr.specs.Programme.{Row, NodeRow, VirtualStorageShape, Shape, Maker, by_mass, by_node, by_aggregate, by_virtual_storage, by_exclusivity}
use Rattle.pywr.specs.FixedRows.{mass_rows_from, constant_rows_from, exclusivity_rows}

-- ---- varying rows, which makers may share

-- one that asked for a varying row: a request with the row that it was given
pub record Asker : Type 0 where
  pub kind : ℕ
  pub index : ℕ
  pub row : ℕ

-- "An exclusive node's rows are of kind node". A node listed twice in a set stands here twice, for the upper and the lower row each
unfoldable pub askers_by_nodes : List NodeRow → List Asker
askers_by_nodes node_rows = map (λ (n : NodeRow). record { kind = by_node; index = n.node; row = n.row }) node_rows

-- the rows that makers of one kind were given; the first of the list is the maker with this index
unfoldable pub askers_in_turn : ℕ → ℕ → List ℕ → List Asker
askers_in_turn kind index [] = []
askers_in_turn kind index (row ∷ rows) = record { kind = kind; index = index; row = row } ∷ askers_in_turn kind (suc index) rows

-- in the order of asking, document 01's "varying first (nodes, aggregates, virtual storages)"
unfoldable pub askers : Shape → List Asker
askers shape =
    askers_by_nodes shape.node_rows
    ++ askers_in_turn by_aggregate 0 shape.aggregates
    ++ askers_in_turn by_virtual_storage 0 (map (λ (v : VirtualStorageShape). v.row) shape.virtual_storages)

-- those who were given this row
unfoldable pub sharers_of : ℕ → List Asker → List Asker
sharers_of row [] = []
sharers_of row (a ∷ rest) = keep_if (eqb a.row row) a (sharers_of row rest)

-- the first of them, and how many they are. Each row of a build has one at least
unfoldable pub first_of : List Asker → Maker
first_of [] = record { kind = 0; index = 0; shared_by = 0 }
first_of (first ∷ rest) = record { kind = first.kind; index = first.index; shared_by = suc (length rest) }

unfoldable pub maker_of : List Asker → ℕ → Maker
maker_of all row = first_of (sharers_of row all)

-- those of so many rows, from this row on
unfoldable pub varying_makers : List Asker → ℕ → ℕ → List Maker
varying_makers all row zero = []
varying_makers all row (suc count) = maker_of all row ∷ varying_makers all (suc row) count

-- ---- how often the shape's tables name a row; laws hold `shared_by` to it

unfoldable pub times_named : {A : Type 0} → (A → ℕ) → ℕ → List A → ℕ
times_named row_of row [] = 0
times_named row_of row (x ∷ xs) = cond (eqb (row_of x) row) 1 0 + times_named row_of row xs

unfoldable pub references : Shape → ℕ → ℕ
references shape row =
    times_named (λ (n : NodeRow). n.row) row shape.node_rows
    + times_named (λ (a : ℕ). a) row shape.aggregates
    + times_named (λ (v : VirtualStorageShape). v.row) row shape.virtual_storages

-- ---- fixed rows, which never join: each has one maker

unfoldable pub made_by : ℕ → ℕ → List Row → List Maker
made_by kind index rows = map (λ (row : Row). record { kind = kind; index = index; shared_by = 1 }) rows

-- of the rows that makers of one kind make; the first of the list is the maker with this index
unfoldable pub made_in_turn : {A : Type 0} → ℕ → (ℕ → A → List Row) → ℕ → List A → List Maker
made_in_turn kind rows_by index [] = []
made_in_turn kind rows_by index (x ∷ xs) = made_by kind index (rows_by index x) ++ made_in_turn kind rows_by (suc index) xs

unfoldable pub mass_makers : ColumnMap → ℕ → List Node → List Maker
mass_makers mapping index nodes = made_in_turn by_mass (λ (n : ℕ) (x : Node). mass_rows_from mapping n (x ∷ [])) index nodes

unfoldable pub constant_makers : Sentinel → ColumnMap → ℕ → List Node → List Maker
constant_makers s mapping index nodes = made_in_turn by_node (λ (n : ℕ) (x : Node). constant_rows_from s mapping n (x ∷ [])) index nodes

-- "an exclusivity row's index is its aggregate's"
unfoldable pub exclusivity_makers : ColumnMap → ℕ → List Aggregate → List Maker
exclusivity_makers mapping index aggregates = made_in_turn by_exclusivity (λ (n : ℕ) (x : Aggregate). exclusivity_rows mapping (x ∷ [])) index aggregates

-- document 01: "then fixed (mass, constant nodes, exclusivity)"
unfoldable pub fixed_makers : Sentinel → ColumnMap → Network → List Maker
fixed_makers s mapping net =
    mass_makers mapping 0 net.nodes ++ constant_makers s mapping 0 net.nodes ++ exclusivity_makers mapping 0 net.aggregates
