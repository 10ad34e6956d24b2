-- The whole programme laid out, and the answers of the assembling. Assumes nothing.
use mathlib.Core.Path.{◌≡◌, refl, sym, ◌∙◌, ap, subst}
use Prim.Native.Nat.{ℕ, ◌+◌, ◌*◌, ◌<◌, ◌≤◌}
use Rattle.std.specs.Prelude.{Result, Ok, Err}
use mathlib.Core.List.{List, ◌++◌, map, flat_map}
use mathlib.Core.Bool.{false}
use native.Mathlib.Omega.{arith}
use lib.ListN.{length, take, length-append, length-map}
use lib.Seq.{length-take-le}
use lib.Ieee.{Float}
use Rattle.layout.specs.Layout.{aggregates_made_at, makers_at, makers_made_at, node_rows_made_at, shape_made_at, virtual_storages_made_at, words_length}
use Rattle.laws.specs.Part.{part}
use Rattle.pywr.specs.declared.Sentinel.{Sentinel}
use Rattle.pywr.specs.declared.Reason.{Reason}
use Rattle.pywr.specs.declared.Refusal.{Refusal}
use Rattle.pywr.specs.Answers.{refusal_at}
use Rattle.pywr.specs.Result.{value, refused}
use Rattle.pywr.specs.Network.{Network}
use Rattle.pywr.specs.ColEdgeMap.{columns, mapped_edges}
use Rattle.pywr.specs.FlowOrder.{flow_order}
use Rattle.pywr.specs.ExclusiveSets.{exclusive_sets}
use Rattle.pywr.specs.Rows.{column_map}
use Rattle.pywr.specs.Programme.{Maker, Built}
use Rattle.pywr.specs.Makers.{fixed_makers}
use Rattle.pywr.specs.Build.{node_shape, assemble, programme_of, build}
use Rattle.pywr.specs.Written.{node_words, edge_words, maker_words, count_words, rows_of}
use Rattle.pywr.proofs.FlowLaws.{flow_length}
use Rattle.network_laws.specs.NetworkAt.{node_records, network_at}
use Rattle.network_laws.proofs.Index.{node_count_lem, edge_count, aggregate_count_lem, virtual_storage_count_lem}
use Rattle.network_record.specs.declared.Counts.{Counts}
use Rattle.build_exclusive_sets.specs.Sets.{sets_at}
use Rattle.build_col_edge_map.proofs.EdgeColumns.{columns_few}
use Rattle.build_write.specs.declared.Sizes.{Sizes}
use Rattle.build_write.specs.Lp.{Few}
use Rattle.build_append.specs.declared.Filled.{Filled}
use Rattle.build_exclusive_sets.specs.declared.ProgrammeFull.{ProgrammeFull}
use Rattle.build_exclusive_sets.specs.declared.Memberships.{Memberships}
use Rattle.build_append.specs.LpBuilder.{RowsHeld, within_ceilings}
use Rattle.build_append.proofs.RowsHeldLaws.{held_within, over_more}
use Rattle.build_node_row.specs.declared.EdgeTables.{EdgeTables}
use Rattle.build_node_row.specs.Tables.{network_of, TablesOf, SetTables}
use Rattle.build_node_table.specs.NodeTable.{NodeRows}
use Rattle.build_shape.specs.ShapeTables.{edge_entries, counts}
use Rattle.build_shape.proofs.Table.{nodes_length, edges_length, edges_many}
use Rattle.build_varying.specs.VaryingLaid.{VaryingLaid}
use Rattle.build_rows.specs.Assembled.{Laid, Made, AfterAssemble, shape_finished}
use Rattle.build_rows.proofs.Ceilings.{rows_over, sets_over, none_over, eleven, accepted}
use Rattle.build_rows.proofs.EdgeTable.{entries_are}
use Rattle.build_rows.proofs.LaidOut.{RowsLaid, laid_out}
use Rattle.build_rows.proofs.Counts.{SizesAre, columns_are, counts_are}
use Rattle.build_varying.proofs.Varying.{inside, asks_few}
use Rattle.build_makers.specs.MadeRows.{AfterMade}
use Rattle.build_rows.proofs.VaryingMade.{makers_of_varying, makers_are}

counts_long : (s : Sentinel) (z : Sizes) (varying : ℕ) → length (counts s z varying) ≡ 11
unfolding counts
counts_long s z varying = refl

-- a refusal and a programme are answered apart
pub refused_so : (s : Sentinel) (file : List ℕ) (refusal : Refusal) (words : List ℕ) (numbers : List Float) → build s file ≡ refused refusal.number refusal.place
    → AfterAssemble s file (Err refusal) words numbers
refused_so s file refusal words numbers e =
    record { refusal = λ other q. let same : refusal ≡ other = cc in rw (← same) e; made = λ z r. absurd (cc) }

module _ (s : Sentinel) (file : List ℕ) (c : Counts) (tables : EdgeTables) (t : TablesOf file c tables) where
  abbrev net : Network
  net = network_of file c

  abbrev table : List ℕ
  table = tables.edge_to_col

  abbrev b : Built
  b = programme_of s net

  shape_nodes : flat_map node_words (map node_shape (node_records file c.nodes)) ≡ flat_map node_words b.shape.nodes
  unfolding programme_of assemble network_at
  shape_nodes = refl

  shape_edges : flat_map edge_words (mapped_edges net) ≡ flat_map edge_words b.shape.mapped_edges
  unfolding programme_of assemble column_map
  shape_edges = refl

  edge_count_is : length net.edges ≡ c.edges
  edge_count_is = edge_count file c.nodes c.edges c.aggregates c.virtual_storages

  shape_flow_order : flow_order net ≡ b.shape.flow_order
  unfolding programme_of assemble
  shape_flow_order = refl

  -- 11: too many sets, or rows over the ceilings
  pub sets_refused : (words : List ℕ) (numbers : List Float) → 128 < length (exclusive_sets net) → AfterAssemble s file (Err (refusal_at Reason.OverCeilings 0)) words numbers
  sets_refused words numbers h = refused_so s file (refusal_at Reason.OverCeilings 0) words numbers (eleven s file net t.parsed (sets_over net b.programme h))

  rows_refused : (words : List ℕ) (numbers : List Float) → within_ceilings (rows_of b.programme) ≡ false → AfterAssemble s file (Err (refusal_at Reason.OverCeilings 0)) words numbers
  rows_refused words numbers e = refused_so s file (refusal_at Reason.OverCeilings 0) words numbers (eleven s file net t.parsed (rows_over net b.programme e))

  pub varying_refused : (words : List ℕ) (numbers : List Float) → within_ceilings b.programme.varying ≡ false → AfterAssemble s file (Err (refusal_at Reason.OverCeilings 0)) words numbers
  unfolding rows_of
  varying_refused words numbers e = rows_refused words numbers (over_more b.programme.varying b.programme.fixed e)

  pub fixed_refused : (words : List ℕ) (numbers : List Float) → within_ceilings (b.programme.varying ++ b.programme.fixed) ≡ false → AfterAssemble s file (Err (refusal_at Reason.OverCeilings 0)) words numbers
  unfolding rows_of
  fixed_refused words numbers e = rows_refused words numbers e

  module _ (aggregate_set_at : List ℕ) (memberships : Memberships) (sets₀ : ℕ) (l : SetTables file c aggregate_set_at sets₀ memberships)
      (edge_columns : ℕ) (columns-is : edge_columns ≡ (columns net).count) (n : NodeRows) (g : Filled) where
    abbrev pub sizes : Sizes
    sizes =
        record {
          nodes = c.nodes;
          edges = c.edges;
          edge_columns = edge_columns;
          sets = sets₀;
          rows = g.rows;
          elements = g.elements;
          node_rows = n.count;
          aggregates = c.aggregates;
          virtual_storages = c.virtual_storages;
        }

    sets_are : length (exclusive_sets net) ≡ sets₀
    sets_are =
        let long : length (sets_at file aggregate_set_at sets₀) ≡ length (take sets₀ aggregate_set_at) = simp length-map in
        sym (ap (λ (x : List (List ℕ)). length x) l.held) ∙ long ∙ length-take-le sets₀ aggregate_set_at (omega (arith, l.fit.long, l.fit.few))

    module _ (words₁ words₂ : List ℕ) (numbers₁ numbers₂ : List Float) (v : VaryingLaid s net n words₁ numbers₁)
        (r : Result Filled ProgrammeFull) (a : AfterMade (b.programme.varying ++ b.programme.fixed) (makers_of_varying s net ++ fixed_makers s (column_map net) net) words₁ r words₂ numbers₂) (done : r ≡ Ok g) where
      held : RowsHeld (rows_of b.programme) words₂ numbers₂ g
      unfolding rows_of
      held = (a.held g done).held

      -- as many makers as rows
      makers_many : length b.makers ≡ g.rows
      unfolding rows_of
      makers_many = ap (λ (l : List Maker). length l) (sym (makers_are s net)) ∙ (a.held g done).each ∙ sym held.row_count

      are : SizesAre s net sizes
      are =
          record {
            nodes = sym (node_count_lem file c.nodes c.edges c.aggregates c.virtual_storages);
            edges = sym (ap (λ (x : List _). length x) (sym (entries_are file c tables t)) ∙ edges_many file table c.nodes c.edges 0);
            edge_columns = columns-is;
            sets = sym sets_are;
            rows = held.row_count;
            elements = held.elements_count;
            node_rows = v.counted;
            aggregates = sym (aggregate_count_lem file c.nodes c.edges c.aggregates c.virtual_storages);
            virtual_storages = sym (virtual_storage_count_lem file c.nodes c.edges c.aggregates c.virtual_storages);
          }

      pub few : Few sizes
      few =
          record {
            nodes = t.sections.few_nodes;
            edges = t.sections.few_edges;
            edge_columns = omega (arith, columns-is, columns_few net table (columns net).count t.mapped, are.edges, t.sections.few_edges, edge_count_is);
            sets = l.fit.few;
            rows = omega (arith, held.row_count, held.few_rows);
            elements = omega (arith, held.elements_count, held.few_elements);
            node_rows = omega (arith, v.counted, asks_few file c tables memberships t (record { aggregate_set_at = aggregate_set_at; sets = sets₀; tables = l }));
            aggregates = t.sections.few_aggregates_lem;
            virtual_storages = t.sections.few_virtual_storages_lem;
          }

      -- the varying rows are among the rows
      pub varying_most : n.filled.rows ≤ g.rows
      unfolding rows_of
      varying_most = omega (arith, v.held.row_count, held.row_count, length-append b.programme.varying b.programme.fixed)

      pub all_made : (words₃ : List ℕ) → words_length ≤ length words₁ → words_length ≤ length words₂
          → words₃ ≡ shape_finished s file table sizes n.filled.rows (flow_order net) words₂
          → AfterAssemble s file (Ok sizes) words₃ numbers₂
      all_made words₃ room₁ room e =
          let cs : counts s sizes n.filled.rows ≡ count_words b = counts_are s net sizes are n.filled.rows v.held.row_count in
          let rows-laid : RowsLaid b sizes words₂ numbers₂ =
          record {
            rows = held;
            node_rows = kept_part node_rows_made_at (4 * n.count) (omega arith) (omega (arith, few.node_rows)) ∙ v.node_rows;
            aggregates = ap (λ (k : ℕ). part aggregates_made_at k words₂) are.aggregates
                ∙ kept_part aggregates_made_at (length net.aggregates) (omega arith) (omega (arith, are.aggregates, few.aggregates)) ∙ v.aggregates;
            virtual_storages = ap (λ (k : ℕ). part virtual_storages_made_at (6 * k) words₂) are.virtual_storages
                ∙ kept_part virtual_storages_made_at (6 * length net.virtual_storages) (omega arith) (omega (arith, are.virtual_storages, few.virtual_storages)) ∙ v.virtual_storages;
            makers = ap (λ (k : ℕ). part makers_made_at (3 * k) words₂) (sym makers_many)
                ∙ ap (λ (l : List Maker). part makers_made_at (3 * length l) words₂) (sym (makers_are s net)) ∙ (a.held g done).made ∙ ap (flat_map maker_words) (makers_are s net);
          } in
          let laid = laid_out s b sizes words₂ numbers₂ _ _ _ _ few (columns_are s net sizes are) room (nodes_length file c.nodes)
          (edges_length file table c.nodes c.edges) (counts_long s sizes n.filled.rows) (flow_length net ∙ edge_count_is) nodes_are edges_are cs shape_flow_order rows-laid in
          let is : build s file ≡ value b = accepted s file net t.parsed
          (none_over net b.programme (omega (arith, sets_are, l.fit.few)) (held_within (rows_of b.programme) words₂ numbers₂ g held)) in
          record {
            refusal = λ refusal q. absurd (cc);
            made = λ z q. let ez : sizes ≡ z = cc in subst (λ (y : Sizes). Made s file y words₃ numbers₂) ez
                (record { built = b; is = is; laid = subst (λ (w : List ℕ). Laid s b sizes w numbers₂) (sym e) laid });
          }
        where
          -- the words before the table of makers stay
          kept_part : (p k : ℕ) → shape_made_at ≤ p → p + k ≤ makers_made_at → part p k words₂ ≡ part p k words₁
          kept_part p k hp hk = inside words₁ words₂ shape_made_at makers_at p k hp hk (omega arith) (omega arith) a.kept

          nodes_are : flat_map node_words (map node_shape (node_records file c.nodes)) ≡ flat_map node_words b.shape.nodes
          nodes_are = shape_nodes

          edges_are : flat_map edge_words (edge_entries file table c.nodes c.edges) ≡ flat_map edge_words b.shape.mapped_edges
          edges_are = ap (flat_map edge_words) (entries_are file c tables t) ∙ shape_edges
