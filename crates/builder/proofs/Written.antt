-- The store that is written from an assembled programme is the built store. Assumes nothing.
use mathlib.Core.Path.{◌≡◌, ◌∙◌, ap}
use Prim.Native.Nat.{ℕ, ◌+◌}
use mathlib.Core.List.{List, map}
use lib.Seq.{sets}
use lib.Ieee.{Float}
use Rattle.laws.specs.Part.{part}
use Rattle.pywr.specs.declared.Sentinel.{Sentinel}
use Rattle.pywr.specs.Programme.{Column, Built}
use Rattle.pywr.specs.Store.{Store}
use Rattle.pywr.specs.Written.{shape_after, built_store}
use Rattle.build_write.specs.declared.Sizes.{Sizes}
use Rattle.build_write.specs.Lp.{ColumnsWritten, RowsWritten, MatrixWritten, shape_tables, shape_written}
use Rattle.build_rows.specs.Assembled.{Laid}

module _ (s : Sentinel) (b : Built) (z : Sizes) (words : List ℕ) (numbers : List Float) (l : Laid s b z words numbers) where
  shape_is : (old : List ℕ) → shape_written z words old ≡ shape_after old b
  unfolding shape_written shape_tables shape_after
  shape_is old = rw (l.counts, l.nodes, l.edges, l.node_rows, l.aggregates, l.virtual_storages, l.makers, l.flow_order)

  pub store_is : (old : Store) (cl cu cc rl ru el : List Float) (co st sh : List ℕ)
      → ColumnsWritten s z old.col_lower old.col_upper old.col_obj_coef cl cu cc
      → RowsWritten z numbers old.row_lower old.row_upper rl ru
      → MatrixWritten z words numbers old.elements old.columns old.row_starts el co st
      → sh ≡ shape_written z words old.shape
      → ◌≡◌ {A = Store} (record { col_lower = cl; col_upper = cu; col_obj_coef = cc; row_lower = rl; row_upper = ru; elements = el; columns = co; row_starts = st; shape = sh }) (built_store old b)
  unfolding built_store
  store_is old cl cu cc rl ru el co st sh w r m e =
      let rows_many = l.rows.row_count in
      let elements_many = l.rows.elements_count in
      λ i.
      record {
        col_lower = (w.lowers ∙ ap (λ (xs : List Column). sets old.col_lower 0 (map (λ (c : Column). c.lower) xs)) l.columns) i;
        col_upper = (w.uppers ∙ ap (λ (xs : List Column). sets old.col_upper 0 (map (λ (c : Column). c.upper) xs)) l.columns) i;
        col_obj_coef = (w.costs ∙ ap (λ (xs : List Column). sets old.col_obj_coef 0 (map (λ (c : Column). c.cost) xs)) l.columns) i;
        row_lower = (r.lowers ∙ ap (sets old.row_lower 0) (ap (λ (n : ℕ). part 0 n numbers) rows_many ∙ l.rows.lowers)) i;
        row_upper = (r.uppers ∙ ap (sets old.row_upper 0) (ap (λ (n : ℕ). part 1024 n numbers) rows_many ∙ l.rows.uppers)) i;
        elements = (m.factors ∙ ap (sets old.elements 0) (ap (λ (n : ℕ). part 2048 n numbers) elements_many ∙ l.rows.elements)) i;
        columns = (m.places ∙ ap (sets old.columns 0) (ap (λ (n : ℕ). part 0 n words) elements_many ∙ l.rows.columns)) i;
        row_starts = (m.row_starts ∙ ap (sets old.row_starts 0) (ap (λ (n : ℕ). part 4096 (n + 1) words) rows_many ∙ l.rows.starts)) i;
        shape = (e ∙ shape_is old.shape) i;
      }
