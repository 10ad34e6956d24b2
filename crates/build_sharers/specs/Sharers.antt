-- Those who asked for varying rows, as the tables of the shape run name them, and the entries of the table of makers that they give. Assumes nothing.
use Rattle.std.specs.Prelude.{◌≡◌, ℕ, zero, suc, ◌+◌, ◌*◌, ◌<◌, ◌≤◌, cond, List, [], ◌∷◌, ◌++◌, length, take, eqb}
use Rattle.layout.specs.Layout.{row_ceiling, node_rows_at, aggregates_at, virtual_storages_at, makers_at, node_row_width, aggregate_width, virtual_storage_width, maker_width}
use Rattle.layout.specs.Layout.{node_row_node, node_row_row, entry_row, maker_kind, maker_index, maker_shared_by}
use Rattle.laws.specs.Part.{part}
use Rattle.pywr.specs.Programme.{Maker, by_node, by_aggregate, by_virtual_storage}
use Rattle.pywr.specs.Makers.{Asker, maker_of}
use Rattle.pywr.specs.Written.{maker_words}

-- the entry of a row
abbrev pub maker_in : List ℕ → ℕ → Maker
maker_in shape row =
    record {
      kind = maker_kind shape (makers_at + maker_width * row);
      index = maker_index shape (makers_at + maker_width * row);
      shared_by = maker_shared_by shape (makers_at + maker_width * row);
    }

-- the entry with one more that asked for the row
unfoldable pub one_more : ℕ → ℕ → Maker → Maker
one_more kind index m =
    cond (eqb m.shared_by 0) (record { kind = kind; index = index; shared_by = 1 }) (record { kind = m.kind; index = m.index; shared_by = m.shared_by + 1 })

-- who asked for the row of node row i
abbrev pub node_asker : List ℕ → ℕ → Asker
node_asker shape i = record { kind = by_node; index = node_row_node shape (node_rows_at + node_row_width * i); row = node_row_row shape (node_rows_at + node_row_width * i) }

-- who asked for the row that stands first in entry i of a table
abbrev pub entry_asker : List ℕ → ℕ → ℕ → ℕ → ℕ → Asker
entry_asker shape at width kind i = record { kind = kind; index = i; row = entry_row shape (at + width * i) }

-- the first `count` of those who asked
unfoldable pub askers_to : (ℕ → Asker) → ℕ → List Asker
askers_to asker zero = []
askers_to asker (suc count) = askers_to asker count ++ (asker count ∷ [])

-- all who asked, by the tables
abbrev pub askers_in : List ℕ → ℕ → ℕ → ℕ → List Asker
askers_in shape node_rows aggregates virtual_storages =
    askers_to (node_asker shape) node_rows
    ++ askers_to (entry_asker shape aggregates_at aggregate_width by_aggregate) aggregates
    ++ askers_to (entry_asker shape virtual_storages_at virtual_storage_width by_virtual_storage) virtual_storages

abbrev pub RowsUnder : ℕ → List Asker → Type 0
RowsUnder rows [] = Unit {0}
RowsUnder rows (a ∷ rest) = (a.row < rows) × RowsUnder rows rest

-- the entries of the first rows are those that these give
abbrev pub MakersOf : List Asker → ℕ → List ℕ → Type 0
MakersOf all rows shape = (r : ℕ) → r < rows → part (makers_at + maker_width * r) maker_width shape ≡ maker_words (maker_of all r)

-- before more are counted: some were, and there is room for these
pub record Counting (shape : List ℕ) (more : List Asker) : Type 0 where
  pub rows : ℕ
  pub all : List Asker
  pub few : rows ≤ row_ceiling
  pub room : length all + length more ≤ 65535
  pub under : RowsUnder rows more
  pub held : MakersOf all rows shape

-- these were counted behind all that were counted before; the words before the table of makers stay
pub record Counted (shape : List ℕ) (more : List Asker) (shape' : List ℕ) : Type 0 where
  pub held : (rows : ℕ) (all : List Asker) → MakersOf all rows shape → MakersOf (all ++ more) rows shape'
  pub kept : take makers_at shape' ≡ take makers_at shape
