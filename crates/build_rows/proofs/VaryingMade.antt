-- The varying rows with their makers: what the tables name is what the definition has, and what stays when the makers are put. Assumes nothing.
use mathlib.Core.Path.{◌≡◌, refl, sym, ap, ap₂, ◌∙◌}
use Prim.Native.Nat.{ℕ, ◌+◌, ◌*◌, ◌-◌, ◌≤◌}
use native.Mathlib.Omega.{arith}
use mathlib.Core.List.{List, ◌++◌, flat_map}
use lib.ListN.{length, take, drop, length-map}
use lib.Seq.{drop-drop}
use lib.Ieee.{Float}
use borrow.Rule.Slice.PartMut.{take_put}
use Rattle.layout.specs.Layout.{aggregates_at, makers_at, makers_made_at, node_row_ceiling, node_rows_at, shape_made_at, virtual_storages_at, words_length}
use Rattle.laws.specs.Part.{part}
use Rattle.laws.proofs.Tails.{tail, put_tail, tail_back, tail_part}
use Rattle.pywr.specs.declared.Sentinel.{Sentinel}
use Rattle.pywr.specs.Network.{Network}
use Rattle.pywr.specs.Rows.{Element, column_map}
use Rattle.pywr.specs.VaryingRows.{fresh_row}
use Rattle.pywr.specs.Programme.{Maker, Built}
use Rattle.pywr.specs.Makers.{askers, varying_makers, fixed_makers}
use Rattle.pywr.specs.Build.{assemble, programme_of}
use Rattle.pywr.specs.Written.{maker_words}
use Rattle.pywr.proofs.MakerLaws.{varying_makers_length}
use Rattle.pywr.proofs.MadeLaws.{asked_under}
use Rattle.build_append.proofs.RowLaws.{part_agrees}
use Rattle.build_append.proofs.RowsHeldLaws.{held_agrees}
use Rattle.build_join.specs.JoinedRows.{joined}
use Rattle.build_node_table.specs.NodeTable.{NodeRows}
use Rattle.build_makers.specs.MadeRows.{MadeHeld}
use Rattle.build_sharers.specs.Sharers.{askers_in, RowsUnder}
use Rattle.build_varying.specs.VaryingLaid.{VaryingLaid}
use Rattle.build_varying.proofs.Varying.{rows₂, for_virtual_storages}
use Rattle.build_rows.proofs.Askers.{askers_are, all_under}
use Rattle.build_rows.proofs.Counts.{node_rows_count, aggregates_count, virtual_storages_count}

module _ (s : Sentinel) (net : Network) where
  abbrev b : Built
  b = programme_of s net

  abbrev all : List (List Element)
  all = (joined (for_virtual_storages s net) (rows₂ s net)).rows

  varying_count_lem : length (programme_of s net).programme.varying ≡ length all
  unfolding programme_of assemble
  varying_count_lem = length-map all (fresh_row s)

  -- the makers of the varying rows
  abbrev pub makers_of_varying : List Maker
  makers_of_varying = varying_makers (askers (programme_of s net).shape) 0 (length (programme_of s net).programme.varying)

  unfolded : varying_makers (askers (programme_of s net).shape) 0 (length all) ++ fixed_makers s (column_map net) net ≡ (programme_of s net).makers
  unfolding programme_of assemble
  unfolded = refl

  pub makers_are : makers_of_varying ++ fixed_makers s (column_map net) net ≡ (programme_of s net).makers
  makers_are = ap (λ (k : ℕ). varying_makers (askers b.shape) 0 k ++ fixed_makers s (column_map net) net) varying_count_lem ∙ unfolded

-- ---- the tables, and the run with the makers put

module _ (s : Sentinel) (net : Network) (n : NodeRows) (words : List ℕ) (numbers : List Float) (v : VaryingLaid s net n words numbers) (room : words_length ≤ length words)
    (aggregates virtual_storages : ℕ) (ca : aggregates ≡ length net.aggregates) (cv : virtual_storages ≡ length net.virtual_storages) where
  abbrev shape : List ℕ
  shape = tail shape_made_at words

  pub askers_of : askers_in shape n.count aggregates virtual_storages ≡ askers (programme_of s net).shape
  askers_of =
      let nodes : length (b s net).shape.node_rows ≡ n.count = node_rows_count s net ∙ sym v.counted in
      let aggregates_many : length (b s net).shape.aggregates ≡ length net.aggregates = aggregates_count s net in
      let virtual_storages_many : length (b s net).shape.virtual_storages ≡ length net.virtual_storages = virtual_storages_count s net in
      rw (ca, cv, ← nodes, ← aggregates_many, ← virtual_storages_many)
      (askers_are shape (b s net).shape
      (rw nodes (tail_part shape_made_at words node_rows_at (4 * n.count) ∙ v.node_rows))
      (rw aggregates_many (tail_part shape_made_at words aggregates_at (length net.aggregates) ∙ v.aggregates))
      (rw virtual_storages_many (tail_part shape_made_at words virtual_storages_at (6 * length net.virtual_storages) ∙ v.virtual_storages)))

  pub rows_count : n.filled.rows ≡ length (programme_of s net).programme.varying
  rows_count = v.held.row_count

  pub rows_under : RowsUnder n.filled.rows (askers_in shape n.count aggregates virtual_storages)
  rows_under = rw (askers_of, rows_count) (all_under (length (b s net).programme.varying) (askers (b s net).shape) (asked_under s net))

  module _ (shape' : List ℕ) (put : part makers_at (3 * n.filled.rows) shape' ≡ flat_map maker_words (varying_makers (askers_in shape n.count aggregates virtual_storages) 0 n.filled.rows))
      (kept : take makers_at shape' ≡ take makers_at shape) where
    abbrev words' : List ℕ
    words' = put_tail shape_made_at words shape'

    there : (k m : ℕ) → part (shape_made_at + k) m words' ≡ part k m shape'
    there k m = ap (take m) (sym (drop-drop k shape_made_at words') ∙ ap (drop k) (tail_back shape_made_at words shape' (omega arith)))

    stays : (k m : ℕ) → k + m ≤ makers_at → part (shape_made_at + k) m words' ≡ part (shape_made_at + k) m words
    stays k m h = there k m ∙ part_agrees k m makers_at shape shape' h kept ∙ tail_part shape_made_at words k m

    front : take shape_made_at words' ≡ take shape_made_at words
    front = take_put shape_made_at (length words - shape_made_at) words shape' (omega arith)

    pub still_laid : n.count ≤ node_row_ceiling → aggregates ≤ 64 → virtual_storages ≤ 32 → VaryingLaid s net n words' numbers
    still_laid fn fa fv =
        record {
          held = held_agrees (b s net).programme.varying words words' numbers numbers n.filled v.held front refl;
          counted = v.counted;
          node_rows = stays node_rows_at (4 * n.count) (omega arith) ∙ v.node_rows;
          aggregates = stays aggregates_at (length net.aggregates) (omega arith) ∙ v.aggregates;
          virtual_storages = stays virtual_storages_at (6 * length net.virtual_storages) (omega arith) ∙ v.virtual_storages;
        }

    pub varying_made : MadeHeld (programme_of s net).programme.varying (makers_of_varying s net) words' numbers n.filled
    varying_made =
        let count : length (makers_of_varying s net) ≡ n.filled.rows = varying_makers_length (askers (b s net).shape) 0 (length (b s net).programme.varying) ∙ sym rows_count in
        record {
          held = held_agrees (b s net).programme.varying words words' numbers numbers n.filled v.held front refl;
          each = varying_makers_length (askers (b s net).shape) 0 (length (b s net).programme.varying);
          made =
              ap (λ (k : ℕ). part makers_made_at (3 * k) words') count
              ∙ there makers_at (3 * n.filled.rows)
              ∙ put
              ∙ ap₂ (λ (l : List _) (k : ℕ). flat_map maker_words (varying_makers l 0 k)) askers_of rows_count;
        }
