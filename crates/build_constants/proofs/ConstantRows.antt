-- The rows of a list of constant nodes, one node at a time. Assumes nothing.
use mathlib.Core.Path.{◌≡◌, refl, ◌∙◌}
use Prim.Native.Nat.{ℕ, ◌<◌}
use mathlib.Core.Bool.{true, false, cond}
use mathlib.Core.Logic.{◌≢◌, ◌↔◌}
use Rattle.std.specs.Prelude.{Result, Ok}
use mathlib.Core.List.{List, [], ◌∷◌, append-nil}
use lib.ListN.{get_or}
use lib.Ieee.{Float}
use Rattle.pywr.specs.declared.Sentinel.{Sentinel}
use Rattle.pywr.specs.Numbers.{one64}
use Rattle.pywr.specs.Network.{Node, Network}
use Rattle.pywr.specs.ExclusiveSets.{sets_with_node}
use Rattle.pywr.specs.Rows.{ColumnMap, column_map, node_row}
use Rattle.pywr.specs.FixedRows.{exclusive_rows, constant_rows, constant_rows_from}
use Rattle.pywr.specs.Programme.{Row}
use Rattle.network_record.specs.declared.Counts.{Counts}
use Rattle.pywr.specs.Store.{elements_of}
use Rattle.build_row.specs.RowBuilder.{gathered}
use Rattle.build_node_row.specs.NodeAdded.{NodeAdded}
use Rattle.build_append.specs.declared.Filled.{Filled}
use Rattle.build_exclusive_sets.specs.declared.ProgrammeFull.{ProgrammeFull}
use Rattle.build_exclusive_sets.specs.declared.Memberships.{Memberships}
use Rattle.build_exclusive_sets.proofs.MembershipLaws.{no_sets}
use Rattle.build_node_row.specs.Tables.{network_of, MembershipTables}
use Rattle.build_append.proofs.AddingRows.{Adds, adds_none}

-- the rows of the first node
abbrev of_first : Sentinel → ColumnMap → ℕ → Node → List Row
of_first s f n x = cond x.constant (constant_rows s f n x (sets_with_node n 0 f.sets)) []

module _ (s : Sentinel) (f : ColumnMap) (n : ℕ) (x : Node) where
  of_first_lem : constant_rows_from s f n (x ∷ []) ≡ of_first s f n x
  unfolding constant_rows_from
  of_first_lem = append-nil (of_first s f n x)

  pub varying_none : x.constant ≡ false → (words : List ℕ) (numbers : List Float) (g : Filled) → Adds (constant_rows_from s f n (x ∷ [])) words numbers g (Ok g) words numbers
  varying_none e words numbers g = rw (of_first_lem, e) (adds_none words numbers g)

  module _ (constant : x.constant ≡ true) where
    constant_rows_lem : constant_rows_from s f n (x ∷ []) ≡ constant_rows s f n x (sets_with_node n 0 f.sets)
    constant_rows_lem = of_first_lem ∙ rw constant

    alone : (ks : List ℕ) → ks ≡ [] → constant_rows s f n x ks ≡ record { lower = x.min; upper = x.max; elements = node_row f n } ∷ []
    unfolding constant_rows
    alone ks e = rw e

    listed : (ks : List ℕ) → ks ≢ [] → constant_rows s f n x ks ≡ exclusive_rows s f n x ks
    unfolding constant_rows
    listed [] h = absurd (h refl)
    listed (k ∷ ks) h = refl

    pub constant_alone : sets_with_node n 0 f.sets ≡ [] → constant_rows_from s f n (x ∷ []) ≡ record { lower = x.min; upper = x.max; elements = node_row f n } ∷ []
    constant_alone e = constant_rows_lem ∙ alone (sets_with_node n 0 f.sets) e

    pub constant_listed : sets_with_node n 0 f.sets ≢ [] → constant_rows_from s f n (x ∷ []) ≡ exclusive_rows s f n x (sets_with_node n 0 f.sets)
    constant_listed h = constant_rows_lem ∙ listed (sets_with_node n 0 f.sets) h

-- a node added to an empty row with the factor 1
pub node_row_lem : (file : List ℕ) (c : Counts) (n : ℕ) (factor : Float) (columns : List ℕ) (elements : List Float) (columns' : List ℕ) (elements' : List Float) (r : ℕ) → factor ≡ one64
    → NodeAdded file c n factor columns elements 0 columns' elements' r → gathered columns' elements' r ≡ node_row (column_map (network_of file c)) n
unfolding node_row gathered elements_of
node_row_lem file c n factor columns elements columns' elements' r e a = a.row ∙ rw e

-- a constant node by its first membership; k is its number as the code widens it
module _ (file : List ℕ) (c : Counts) (memberships : Memberships) (t : MembershipTables file c memberships) (n k : ℕ) (e : k ≡ n) (under : n < 256) where
  abbrev net : Network
  net = network_of file c

  -- no set lists the node exactly if its first membership is 0
  unlisted : (sets_with_node n 0 (column_map net).sets ≡ []) ↔ (get_or memberships.first k 0 ≡ 0)
  unfolding column_map
  unlisted = rw e (no_sets file t.aggregate_set_at t.sets t.tables.fit net t.tables.held n memberships.next (get_or memberships.first n 0) (t.tables.listed n under))

  module _ (s : Sentinel) (x : Node) (constant : x.constant ≡ true) (words : List ℕ) (numbers : List Float) (g : Filled) (r : Result Filled ProgrammeFull) (words' : List ℕ) (numbers' : List Float) where
    pub no_membership : get_or memberships.first k 0 ≡ 0 → Adds (record { lower = x.min; upper = x.max; elements = node_row (column_map net) n } ∷ []) words numbers g r words' numbers'
        → Adds (constant_rows_from s (column_map net) n (x ∷ [])) words numbers g r words' numbers'
    no_membership z added = rw (constant_alone s (column_map net) n x constant (unlisted.1 z)) added

    pub some_membership : get_or memberships.first k 0 ≢ 0 → Adds (exclusive_rows s (column_map net) n x (sets_with_node n 0 (column_map net).sets)) words numbers g r words' numbers'
        → Adds (constant_rows_from s (column_map net) n (x ∷ [])) words numbers g r words' numbers'
    some_membership ne added = rw (constant_listed s (column_map net) n x constant (λ q. ne (unlisted.0 q))) added
