-- The nodes of a set, the sets of an aggregate and the aggregates of a network, each in turn, and what a passed record tells of them. Assumes nothing.
use mathlib.Core.Path.{◌≡◌, refl, sym, ap, ap₂, ◌∙◌}
use Prim.Native.Nat.{ℕ, ◌+◌, ◌*◌, ◌<◌, ◌≤◌}
use native.Mathlib.Omega.{arith}
use mathlib.Core.List.{List, []}
use Rattle.std.specs.Prelude.{Result, Ok}
use lib.ListN.{length, get_or, length-map}
use lib.Ieee.{Float}
use Rattle.pywr.specs.Bytes.{byte, le16}
use Rattle.pywr.specs.Numbers.{one64}
use Rattle.pywr.specs.Misshapen.{columns_rise}
use Rattle.pywr.specs.Store.{elements_of}
use Rattle.pywr.specs.Rows.{Element, ColumnMap, column_map, add_node, add_nodes, add_sets_of, aggregate_row}
use Rattle.pywr.proofs.ListLaws.{found_get, found_map}
use Rattle.fields.specs.Records.{records_at, records_end}
use Rattle.pywr.specs.declared.Refusal.{Refusal}
use Rattle.fields.proofs.RecordLaws.{end_more, end_after}
use Rattle.network_aggregate.specs.AggregatedNode.{aggregate_set_at, set_end, aggregate_at, aggregate_end, check_aggregate}
use Rattle.network_laws.specs.NetworkAt.{aggregate_start}
use Rattle.network_laws.specs.Sections.{Sections}
use Rattle.network_laws.specs.Passed.{SetPassed, AggregatePassed}
use Rattle.network_laws.proofs.Passed.{aggregate_passed}
use Rattle.network_laws.proofs.Index.{aggregate_count_lem, aggregate_index}
use Rattle.network_record.specs.declared.Counts.{Counts}
use Rattle.build_row.specs.RowBuilder.{gathered, Rising}
use Rattle.build_node_row.specs.Tables.{network_of}
use Rattle.build_node_row.specs.NodeAdded.{NodeAdded}
use Rattle.build_row.specs.Gathered.{Gathered}
use Rattle.build_join.proofs.GatherLaws.{Adding, adding_none, adding_more, adding_all}
use Rattle.build_aggregates.specs.AggregateRows.{aggregate_rows}

module _ (file : List ℕ) (c : Counts) (at : ℕ) where
  abbrev f : ColumnMap
  f = column_map (network_of file c)

  -- ---- the nodes of the set at `at`

  module _ (whole : List Element) where
    -- the nodes from number k on are left
    abbrev pub AddingNodes : ℕ → List ℕ → List Float → ℕ → Type 0
    AddingNodes k columns elements n = Adding (add_nodes f) (le16 file) (λ x. x + 2) (byte file at) whole k (at + 1 + 2 * k) columns elements n

    pub nodes_none : (columns : List ℕ) (elements : List Float) (n : ℕ) → whole ≡ add_nodes f (aggregate_set_at file at) (gathered columns elements n) → Rising columns n → n ≤ 640
        → AddingNodes 0 columns elements n
    nodes_none columns elements n e rising few =
        let first : at + 1 ≡ at + 1 + 2 * 0 = omega arith in
        adding_none (add_nodes f) (le16 file) (λ x. x + 2) (byte file at) whole (at + 1 + 2 * 0) columns elements n
        (e ∙ ap (λ (k : ℕ). add_nodes f (records_at (le16 file) (λ x. x + 2) (byte file at) k) (gathered columns elements n)) first) rising few

    module _ (k : ℕ) (columns : List ℕ) (elements : List Float) (n : ℕ) (a : AddingNodes k columns elements n) where
      pub nodes_more : (node : ℕ) (x : Float) (columns' : List ℕ) (elements' : List Float) (r : ℕ) → k < byte file at → node ≡ le16 file (at + 1 + 2 * k) → x ≡ one64
          → NodeAdded file c node x columns elements n columns' elements' r → AddingNodes (k + 1) columns' elements' r
      unfolding add_nodes
      nodes_more node x columns' elements' r lt en ex h =
          adding_more (add_nodes f) (le16 file) (λ x. x + 2) (byte file at) whole k (at + 1 + 2 * k) columns elements n a (λ node row. add_node f node one64 row) (λ x xs row. refl) lt
          (at + 1 + 2 * (k + 1)) columns' elements' r (omega arith)
          (record {
            is = h.row ∙ ap₂ (λ (j : ℕ) (y : Float). add_node f j y (gathered columns elements n)) en ex;
            rising = h.rising;
            few = h.few;
          })

      pub nodes_all : byte file at ≤ k → Gathered whole columns elements n
      unfolding add_nodes
      nodes_all le = adding_all (add_nodes f) (le16 file) (λ x. x + 2) (byte file at) whole k (at + 1 + 2 * k) columns elements n a (λ row. refl) le

  -- ---- the sets of the aggregate at `at`

  -- the sets from number i on, the first at `here`, are left
  abbrev pub AddingSets : ℕ → ℕ → List ℕ → List Float → ℕ → Type 0
  AddingSets i here columns elements n = Adding (add_sets_of f) (aggregate_set_at file) (set_end file) (byte file (at + 3)) (aggregate_row f (aggregate_at file at)) i here columns elements n

  pub sets_none : (columns : List ℕ) (elements : List Float) → AddingSets 0 (at + 12) columns elements 0
  unfolding aggregate_row gathered elements_of columns_rise
  sets_none columns elements =
      adding_none (add_sets_of f) (aggregate_set_at file) (set_end file) (byte file (at + 3)) (aggregate_row f (aggregate_at file at)) (at + 12) columns elements 0 refl refl (omega arith)

  module _ (i here : ℕ) (columns : List ℕ) (elements : List Float) (n : ℕ) (a : AddingSets i here columns elements n) where
    pub sets_more : (next : ℕ) (columns' : List ℕ) (elements' : List Float) (r : ℕ) → i < byte file (at + 3) → next ≡ set_end file here
        → Gathered (add_nodes f (aggregate_set_at file here) (gathered columns elements n)) columns' elements' r → AddingSets (i + 1) next columns' elements' r
    unfolding add_sets_of
    sets_more next columns' elements' r lt e g =
        adding_more (add_sets_of f) (aggregate_set_at file) (set_end file) (byte file (at + 3)) (aggregate_row f (aggregate_at file at)) i here columns elements n a (add_nodes f) (λ x xs row. refl) lt
        next columns' elements' r e g

    pub sets_all : byte file (at + 3) ≤ i → Gathered (aggregate_row f (aggregate_at file at)) columns elements n
    unfolding add_sets_of
    sets_all le = adding_all (add_sets_of f) (aggregate_set_at file) (set_end file) (byte file (at + 3)) (aggregate_row f (aggregate_at file at)) i here columns elements n a (λ row. refl) le

-- ---- an aggregate that passed

module _ (file : List ℕ) (nodes at : ℕ) (passed : check_aggregate file nodes at ≡ Ok (aggregate_end file at)) where
  told : AggregatePassed file nodes at
  told = aggregate_passed file nodes at (aggregate_end file at) passed

  pub aggregate_within : aggregate_end file at ≤ length file
  aggregate_within = told.within

  pub fields_within : at + 12 ≤ length file
  fields_within = omega (arith, told.within, end_after (set_end file) (λ y. omega arith) (byte file (at + 3)) (at + 12))

  module _ (i here : ℕ) (lt : i < byte file (at + 3)) (e : here ≡ records_end (set_end file) i (at + 12)) where
    set_told : SetPassed file nodes here
    set_told = rw e (told.sets i lt)

    pub set_within : set_end file here ≤ length file
    set_within = set_told.within

    pub set_nodes : (k : ℕ) → k < byte file here → le16 file (here + 1 + 2 * k) < nodes
    set_nodes = set_told.members

    pub set_next : (next : ℕ) → next ≡ set_end file here → next ≡ records_end (set_end file) (i + 1) (at + 12)
    set_next next q = q ∙ ap (set_end file) e ∙ sym (end_more (set_end file) i (at + 12))

-- ---- the aggregates of a network

module _ (file : List ℕ) (c : Counts) (sections : Sections file c.nodes c.edges c.aggregates c.virtual_storages c.virtual_storages_at) where
  pub asked_count : length (aggregate_rows (network_of file c)) ≡ c.aggregates
  asked_count = length-map (network_of file c).aggregates (aggregate_row (column_map (network_of file c))) ∙ aggregate_count_lem file c.nodes c.edges c.aggregates c.virtual_storages

  module _ (i at : ℕ) (lt : i < c.aggregates) (e : at ≡ aggregate_start file c.nodes c.edges i) where
    pub aggregate_check : check_aggregate file c.nodes at ≡ Ok (aggregate_end file at)
    aggregate_check = rw e (sections.aggregates_pass i lt ∙ ap {B = Result ℕ Refusal} (λ (x : ℕ). Ok x) (end_more (aggregate_end file) i (20 * c.nodes + 6 * c.edges)))

    pub aggregate_next : (next : ℕ) → next ≡ aggregate_end file at → next ≡ aggregate_start file c.nodes c.edges (i + 1)
    aggregate_next next q = q ∙ ap (aggregate_end file) e ∙ sym (end_more (aggregate_end file) i (20 * c.nodes + 6 * c.edges))

    pub asked_under : i < length (aggregate_rows (network_of file c))
    asked_under = omega (arith, asked_count)

    pub asked_row : get_or (aggregate_rows (network_of file c)) i [] ≡ aggregate_row (column_map (network_of file c)) (aggregate_at file at)
    asked_row =
        let under : i < length (network_of file c).aggregates = omega (arith, aggregate_count_lem file c.nodes c.edges c.aggregates c.virtual_storages) in
        found_get (aggregate_rows (network_of file c)) i _ [] (found_map (aggregate_row (column_map (network_of file c))) (network_of file c).aggregates (aggregate_at file 0) i under)
        ∙ ap (aggregate_row (column_map (network_of file c)))
        (aggregate_index file c.nodes c.edges c.aggregates c.virtual_storages i (aggregate_at file 0) lt ∙ ap (aggregate_at file) (sym e))
