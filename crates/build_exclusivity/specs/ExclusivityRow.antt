-- An exclusive aggregate's row gathered: 1 on the column of each of its sets. Assumes nothing.
use Rattle.std.specs.Prelude.{◌≡◌, ℕ, ◌+◌, ◌<◌, ◌≤◌, List, length, Float}
use Rattle.layout.specs.Layout.{column_ceiling}
use Rattle.pywr.specs.Bytes.{byte}
use Rattle.pywr.specs.ExclusiveSets.{set_number}
use Rattle.pywr.specs.Rows.{ColumnMap, exclusivity_row}
use Rattle.fields.specs.Records.{records_end}
use Rattle.network_aggregate.specs.AggregatedNode.{aggregate_set_at, set_end, aggregate_at, set_count_offset, sets_offset}
use Rattle.build_exclusive_sets.specs.Sets.{sets_at}
use Rattle.build_row.specs.RowBuilder.{gathered, Rising}

module _ (file : List ℕ) where
  -- each set of the aggregate whose record stands at `at` lies within the file and is one of the first `count` at these places
  pub record KnownSets (places : List ℕ) (count at : ℕ) : Type 0 where
    pub within : (i : ℕ) → i < byte file (at + set_count_offset) → set_end file (records_end (set_end file) i (at + sets_offset)) ≤ length file
    pub numbered : (i : ℕ) → i < byte file (at + set_count_offset) → set_number (aggregate_set_at file (records_end (set_end file) i (at + sets_offset))) (sets_at file places count) < count

  -- the column map has this many edge columns, and its sets are the first `count` at these places
  pub record MapOf (places : List ℕ) (count edge_columns : ℕ) (map : ColumnMap) : Type 0 where
    pub edges : map.edge_columns ≡ edge_columns
    pub sets : map.sets ≡ sets_at file places count

  -- what gathering the row of the aggregate at `at` promises: its elements, its count and its order
  pub record ExclusivityRow (places : List ℕ) (count edge_columns at : ℕ) (columns : List ℕ) (elements : List Float) (r : ℕ) : Type 0 where
    pub row : (map : ColumnMap) → MapOf places count edge_columns map → gathered columns elements r ≡ exclusivity_row map (aggregate_at file at)
    pub rising : Rising columns r
    pub few : r ≤ column_ceiling
