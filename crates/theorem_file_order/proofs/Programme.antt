-- The programmes of two networks that differ in the order of their edges alone are one but for the numbers of the edge columns, and a build answers both alike.
-- Assumes nothing.
use mathlib.Core.Path.{◌≡◌, refl, sym, ap, ap₂, ◌∙◌, subst}
use Prim.Native.Nat.{ℕ, suc, ◌+◌}
use mathlib.Core.Bool.{Bool, true, false}
use mathlib.Core.List.{List, [], ◌++◌, map}
use lib.ListN.{length}
use Rattle.pywr.specs.declared.Sentinel.{Sentinel}
use Rattle.pywr.specs.Result.{value, ◌>>=◌, need}
use Rattle.pywr.specs.Answers.{answer_of}
use Rattle.pywr.specs.Network.{Node, Aggregate, VirtualStorage, Network}
use Rattle.pywr.specs.NetworkFile.{parse_network}
use Rattle.pywr.specs.ColEdgeMap.{columns, mapped_edges}
use Rattle.pywr.specs.ExclusiveSets.{exclusive_sets, sets_from}
use Rattle.pywr.specs.Rows.{ColumnMap, column_map, aggregate_row, virtual_storage_row}
use Rattle.pywr.specs.VariableRows.{Joined, add_variable_rows}
use Rattle.pywr.specs.Programme.{Row, Shape, Maker, Built}
use Rattle.pywr.specs.VaryingRows.{requests_from, fresh_row}
use Rattle.pywr.specs.Makers.{Asker, askers, varying_makers, fixed_makers}
use Rattle.pywr.specs.Build.{all_columns, placed_node_rows, placed_virtual_storages, requested_row, assemble, programme_of, element_count, under_ceilings, build}
use Rattle.pywr.specs.Calls.{build_room, build_answer}
use Rattle.pywr.proofs.ReadLaws.{Sound, read_sound}
use Rattle.theorem_file_order.specs.ProgrammeOrder.{SameNetwork, RowsRenumbered, no_rows, and_row, SameProgramme, ProgrammeOrder, AnswerOrder}
use Rattle.theorem_file_order.proofs.Order.{same_count}
use Rattle.theorem_file_order.proofs.Renumbering.{Renumbering}
use Rattle.theorem_file_order.proofs.RowsAlike.{with_edges, MovedEdges, aggregate_row_alike, virtual_storage_row_alike}
use Rattle.theorem_file_order.proofs.JoinedAlike.{Each, each_append, each_length, each_map, each_of_one, JoinedAlike, joins_alike, requests_alike, placed_alike}
use Rattle.theorem_file_order.proofs.FixedAlike.{RowAlike, masses_alike, constants_alike, exclusivities_alike, fixed_makers_alike}
use Rattle.theorem_file_order.proofs.NewNumbers.{new, new_over, new_inside, new_edge, edges_moved}

pub record BuiltAlike (to : Renumbering) (x y : Built) : Type 0 where
  pub columns : x.programme.columns ≡ y.programme.columns
  pub varying : Each (RowAlike to) x.programme.varying y.programme.varying
  pub fixed : Each (RowAlike to) x.programme.fixed y.programme.fixed
  pub node_rows : x.shape.node_rows ≡ y.shape.node_rows
  pub aggregates : x.shape.aggregates ≡ y.shape.aggregates
  pub virtual_storages : x.shape.virtual_storages ≡ y.shape.virtual_storages
  pub makers : x.makers ≡ y.makers

askers_alike : (x y : Shape) → x.node_rows ≡ y.node_rows → x.aggregates ≡ y.aggregates → x.virtual_storages ≡ y.virtual_storages → askers x ≡ askers y
unfolding askers
askers_alike x y p q r = rw (p, q, r)

module _ (s : Sentinel) (a b : Network) (same : SameNetwork a b) (sa : Sound a) (sb : Sound b) where
  abbrev to : Renumbering
  to = new a b same.but_order sa sb

  abbrev f : ColumnMap
  f = column_map a

  abbrev g : ColumnMap
  g = with_edges (column_map a) (mapped_edges b)

  -- the first network with the second's edges
  abbrev other_edges : Network
  other_edges = record { nodes = a.nodes; edges = b.edges; aggregates = a.aggregates; virtual_storages = a.virtual_storages }

  -- the second network's programme is made from the first's nodes, aggregates and virtual storages, with its own edges
  second_is : programme_of s b ≡ assemble s other_edges g
  unfolding programme_of assemble column_map exclusive_sets with_edges fixed_makers
  second_is =
      ap₂ (λ (nodes : List Node) (count : ℕ). from nodes count b.aggregates b.virtual_storages) (sym same.but_order.nodes)
      (sym (same_count a b same.but_order sa sb))
      ∙ ap₂ (from a.nodes (columns a).count) (sym same.aggregates) (sym same.virtual_storages)
    where
      from : List Node → ℕ → List Aggregate → List VirtualStorage → Built
      from nodes count aggregates storages =
          assemble s (record { nodes = nodes; edges = b.edges; aggregates = aggregates; virtual_storages = storages })
          (record { nodes = nodes; mapped_edges = mapped_edges b; edge_columns = count; sets = sets_from [] aggregates })

  -- ---- row for row

  moved : MovedEdges to f (mapped_edges b)
  moved = edges_moved a b same.but_order sa sb

  abbrev for_nodes : ColumnMap → Joined
  for_nodes m = add_variable_rows (map requested_row (requests_from m 0 a.nodes)) (record { rows = []; places = [] })

  abbrev for_aggregates : ColumnMap → Joined
  for_aggregates m = add_variable_rows (map (aggregate_row m) a.aggregates) (record { rows = (for_nodes m).rows; places = [] })

  abbrev for_virtual_storages : ColumnMap → Joined
  for_virtual_storages m = add_variable_rows (map (virtual_storage_row m) a.virtual_storages) (record { rows = (for_aggregates m).rows; places = [] })

  nodes_join : JoinedAlike to (for_nodes f) (for_nodes g)
  unfolding requested_row
  nodes_join =
      joins_alike (each_map requested_row requested_row (λ p q h. h.row) (requests_alike moved 0 a.nodes)) (record { rows = Each.none; places = refl })

  aggregates_join : JoinedAlike to (for_aggregates f) (for_aggregates g)
  aggregates_join =
      joins_alike (each_of_one (aggregate_row f) (aggregate_row g) (aggregate_row_alike moved) a.aggregates)
      (record { rows = nodes_join.rows; places = refl })

  virtual_storages_join : JoinedAlike to (for_virtual_storages f) (for_virtual_storages g)
  virtual_storages_join =
      joins_alike (each_of_one (virtual_storage_row f) (virtual_storage_row g) (virtual_storage_row_alike moved) a.virtual_storages)
      (record { rows = aggregates_join.rows; places = refl })

  node_rows_lem : placed_node_rows (requests_from f 0 a.nodes) (for_nodes f).places ≡ placed_node_rows (requests_from g 0 a.nodes) (for_nodes g).places
  node_rows_lem = placed_alike (requests_alike moved 0 a.nodes) (for_nodes f).places ∙ ap (placed_node_rows (requests_from g 0 a.nodes)) nodes_join.places

  both_alike : BuiltAlike to (assemble s a f) (assemble s other_edges g)
  unfolding assemble all_columns with_edges fresh_row askers fixed_makers
  both_alike =
      let nodes = node_rows_lem in
      let aggregates = aggregates_join.places in
      let storages = ap (placed_virtual_storages a.virtual_storages) virtual_storages_join.places in
      record {
        columns = refl;
        varying = each_map (fresh_row s) (fresh_row s) (λ r r' h. record { lower = refl; upper = refl; elements = h }) virtual_storages_join.rows;
        fixed =
            each_append (each_append (masses_alike moved 0 a.nodes) (constants_alike moved s 0 a.nodes))
            (exclusivities_alike moved a.aggregates);
        node_rows = nodes;
        aggregates = aggregates;
        virtual_storages = storages;
        makers =
            ap₂ (λ (p q : List Maker). p ++ q)
            (ap₂ (λ (all : List Asker) (count : ℕ). varying_makers all 0 count) (askers_alike (assemble s a f).shape (assemble s other_edges g).shape nodes aggregates storages)
            (each_length virtual_storages_join.rows))
            (fixed_makers_alike moved s a.nodes a.aggregates);
      }

  programmes_alike : BuiltAlike to (programme_of s a) (programme_of s b)
  unfolding programme_of
  programmes_alike = subst (BuiltAlike to (assemble s a f)) (sym second_is) both_alike

  -- ---- the same programme

  renumbered_rows : {xs ys : List Row} → Each (RowAlike to) xs ys → RowsRenumbered to.to xs ys
  renumbered_rows Each.none = no_rows
  renumbered_rows (Each.more h hs) =
      and_row (record { lower = h.lower; upper = h.upper; elements = h.elements.elements; values = h.elements.values }) (renumbered_rows hs)

  pub same_programme : SameProgramme s a b
  same_programme =
      let h = programmes_alike in
      record {
        to = to.to;
        edge = new_edge a b same.but_order sa sb;
        set = new_over a b same.but_order sa sb;
        inside = new_inside a b same.but_order sa sb;
        apart = λ c d under-c under-d q. sym (to.from_to_lem c) ∙ ap to.from q ∙ to.from_to_lem d;
        columns_alike = h.columns;
        varying = renumbered_rows h.varying;
        fixed = renumbered_rows h.fixed;
        node_rows = h.node_rows;
        aggregates = h.aggregates;
        virtual_storages = h.virtual_storages;
        makers = h.makers;
      }

pub programme_order : ProgrammeOrder
programme_order first second a b read_a read_b same s = same_programme s a b same (read_sound first a read_a) (read_sound second b read_b)

-- ---- the same answer

rows_length : {to : ℕ → ℕ} {xs ys : List Row} → RowsRenumbered to xs ys → length xs ≡ length ys
rows_length no_rows = refl
rows_length (and_row h hs) = ap suc (rows_length hs)

rows_elements : {to : ℕ → ℕ} {xs ys : List Row} → RowsRenumbered to xs ys → element_count xs ≡ element_count ys
unfolding element_count
rows_elements no_rows = refl
rows_elements (and_row h hs) = ap₂ (λ (m n : ℕ). m + n) h.elements (rows_elements hs)

module _ (s : Sentinel) (a b : Network) (same : SameNetwork a b) (p : SameProgramme s a b) where
  ceilings_alike : under_ceilings (column_map a) (programme_of s a).programme ≡ under_ceilings (column_map b) (programme_of s b).programme
  unfolding under_ceilings column_map exclusive_sets
  ceilings_alike = rw (rows_length p.varying, rows_length p.fixed, rows_elements p.varying, rows_elements p.fixed, same.aggregates)

-- the value does not show in the answer
needed : {A : Type 0} (t : Bool) (number place : ℕ) (x y : A) → answer_of (need t number place x) ≡ answer_of (need t number place y)
unfolding need answer_of
needed true number place x y = refl
needed false number place x y = refl

module _ (first second : List ℕ) (a b : Network) (read_a : parse_network first ≡ value a) (read_b : parse_network second ≡ value b)
    (same : SameNetwork a b) (s : Sentinel) where
  build_alike : answer_of (build s first) ≡ answer_of (build s second)
  unfolding build ◌>>=◌
  build_alike =
      rw (read_a, read_b)
      (ap (λ (t : Bool). answer_of (need t 11 0 (programme_of s a))) (ceilings_alike s a b same (programme_order first second a b read_a read_b same s))
      ∙ needed (under_ceilings (column_map b) (programme_of s b).programme) 11 0 (programme_of s a) (programme_of s b))

pub answer_order : AnswerOrder
unfolding build_answer need ◌>>=◌ answer_of
answer_order first second a b read_a read_b same s store words numbers = go (build_room store words numbers)
  where
    go : (room : Bool) → answer_of (need room 16 0 store >>= λ old. build s first) ≡ answer_of (need room 16 0 store >>= λ old. build s second)
    go true = build_alike first second a b read_a read_b same s
    go false = refl
