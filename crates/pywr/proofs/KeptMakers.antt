-- The rows' makers after an accepted build and any list of steps: refused steps and accepted ones leave them. Assumes nothing.
use mathlib.Core.Path.{◌≡◌, sym, ap, ◌∙◌, subst}
use Prim.Native.Nat.{ℕ, ◌+◌, ◌*◌, ◌<◌, ◌≤◌}
use native.Mathlib.Omega.{arith}
use mathlib.Core.Bool.{Bool, true, ◌&&◌}
use mathlib.Core.List.{List, Memᴰ}
use mathlib.Core.Option.{some}
use lib.ListN.{length, get_elem?, length-append}
use lib.Dec.{T, leb, ltb, leb→le, ltb→lt}
use lib.Ieee.{Float}
use lib.Ieee.Fits.{and_l, and_r}
use Rattle.layout.specs.Layout.{makers_at, maker_width, flow_order_at, flow_order_width}
use Rattle.laws.proofs.Tests.{to_true, of_true}
use Rattle.pywr.specs.declared.Sentinel.{Sentinel}
use Rattle.pywr.specs.Result.{value}
use Rattle.pywr.specs.Network.{Network}
use Rattle.pywr.specs.NetworkFile.{parse_network}
use Rattle.pywr.specs.Programme.{Row, NodeRow, Shape, Maker, by_node, by_aggregate, by_exclusivity}
use Rattle.pywr.specs.Makers.{askers, references}
use Rattle.pywr.specs.Build.{programme_of}
use Rattle.pywr.specs.Store.{Store, edge_count, varying_count, row_count, shape_of, maker_entry, makers_in, row_maker}
use Rattle.pywr.specs.Misshapen.{starts_rise, makers_of_kind, maker_fits, flow_order_fits, all_entries, well_shaped}
use Rattle.pywr.specs.Written.{rows_of}
use Rattle.pywr.specs.Calls.{build_answer, build_store, is_accepted}
use Rattle.pywr.specs.Correspondence.{Call, store_after}
use Rattle.pywr.specs.RowMakers.{RowMade, FirstAsker, FixedBy, MakersKept, MakersStay}
use Rattle.pywr.proofs.ListLaws.{found_below}
use Rattle.pywr.proofs.EntryLaws.{entry_passes, entry_found}
use Rattle.pywr.proofs.MakerLaws.{fixed_by}
use Rattle.pywr.proofs.MadeLaws.{first_asker, nodes_first, aggregates_first, shared_counts, fixed_once}
use Rattle.pywr.proofs.AcceptedLaws.{before_makers, build_shaped, shape_is, varying_is, makers_is, count_is}

-- a row's maker in a well shaped store
row_made : (s : Store) → T (well_shaped s) → (r : ℕ) → r < row_count s → RowMade s r
unfolding well_shaped maker_fits row_maker maker_entry
row_made s t r h =
    let all : Bool = all_entries (maker_fits s) maker_width makers_at (row_count s) in
    let m : Maker = row_maker s r in
    let p : Bool = leb m.kind by_exclusivity in
    let q : Bool = ltb m.index (makers_of_kind s m.kind) in
    let before : Bool = before_makers s (starts_rise s 0 (row_count s)) in
    let flow : Bool = all_entries (flow_order_fits s) flow_order_width flow_order_at (edge_count s) in
    let passed = to_true all (and_r before all (and_l (before && all) flow t)) in
    let fits : T (maker_fits s (makers_at + maker_width * r)) =
    of_true (maker_fits s (makers_at + maker_width * r)) (entry_passes (maker_fits s) maker_width (row_count s) makers_at passed r h) in
    let both : T (p && q) = and_l (p && q) (leb 1 m.shared_by) fits in
    record {
      kind_most = leb→le m.kind by_exclusivity (and_l p q both);
      index_under = ltb→lt m.index (makers_of_kind s m.kind) (and_r p q both);
      shared = leb→le 1 m.shared_by (and_r (p && q) (leb 1 m.shared_by) fits);
    }

module _ (network_file : List ℕ) (w : Sentinel) (old : Store) (words : List ℕ) (numbers : List Float) (net : Network) (parsed : parse_network network_file ≡ value net)
    (accepted : is_accepted (build_answer w network_file old words numbers) ≡ true) (calls : List Call) where
  abbrev after : Store
  after = store_after (build_store w network_file old words numbers) calls

  shape : shape_of after ≡ (programme_of w net).shape
  shape = shape_is network_file w old words numbers net parsed accepted calls

  varying : varying_count after ≡ length (programme_of w net).programme.varying
  varying = varying_is network_file w old words numbers net parsed accepted calls

  makers : makers_in after ≡ (programme_of w net).makers
  makers = makers_is network_file w old words numbers net parsed accepted calls

  -- the maker that is kept for row r is that of row r of the built programme
  maker_of_lem : (r : ℕ) → r < row_count after → get_elem? (programme_of w net).makers r ≡ some (row_maker after r)
  unfolding makers_in row_maker
  maker_of_lem r h = ap (λ (ms : List Maker). get_elem? ms r) (sym makers) ∙ entry_found (maker_entry after) maker_width makers_at (row_count after) r h

  -- a varying row
  module _ (r : ℕ) (h : r < varying_count after) where
    under : r < length (programme_of w net).programme.varying
    under = subst (λ (n : ℕ). r < n) varying h

    maker_is : get_elem? (programme_of w net).makers r ≡ some (row_maker after r)
    maker_is = maker_of_lem r (omega arith)

    first : FirstAsker r (askers (shape_of after)) (row_maker after r)
    first = subst (λ (q : Shape). FirstAsker r (askers q) (row_maker after r)) (sym shape) (first_asker w net r (row_maker after r) under maker_is)

    by_node_lem : (i : ℕ) (n : NodeRow) → get_elem? (shape_of after).node_rows i ≡ some n → n.row ≡ r → (row_maker after r).kind ≡ by_node
    by_node_lem i n e g = nodes_first w net r i n (row_maker after r) (subst (λ (q : Shape). get_elem? q.node_rows i ≡ some n) shape e) g under maker_is

    by_aggregate_lem : Memᴰ r (shape_of after).aggregates → (row_maker after r).kind ≤ by_aggregate
    by_aggregate_lem e = aggregates_first w net r (row_maker after r) (subst (λ (q : Shape). Memᴰ r q.aggregates) shape e) under maker_is

    shared : (row_maker after r).shared_by ≡ references (shape_of after) r
    shared = shared_counts w net r (row_maker after r) under maker_is ∙ ap (λ (q : Shape). references q r) (sym shape)

  -- fixed row i
  fixed : (i : ℕ) (row : Row) → get_elem? (programme_of w net).programme.fixed i ≡ some row → FixedBy w net row (row_maker after (varying_count after + i))
  unfolding rows_of
  fixed i row e =
      let p = (programme_of w net).programme in
      let h : varying_count after + i < row_count after = omega (
        arith,
        varying,
        found_below p.fixed i row e,
        count_is network_file w old words numbers net parsed accepted calls,
        length-append p.varying p.fixed,
      ) in
      fixed_by w net i row (row_maker after (varying_count after + i)) e
      (ap (λ (n : ℕ). get_elem? (programme_of w net).makers (n + i)) (sym varying) ∙ maker_of_lem (varying_count after + i) h)

  kept : MakersKept w net after
  kept =
      record {
        built = makers;
        every = row_made after (of_true (well_shaped after) (build_shaped network_file w old words numbers net parsed accepted calls));
        first = first;
        nodes_first = λ r i n e g h. by_node_lem r h i n e g;
        aggregates_first = λ r e h. by_aggregate_lem r h e;
        shared = shared;
        alone = λ r l h. fixed_once w net r (row_maker after r) (subst (λ (n : ℕ). n ≤ r) varying l) (maker_of_lem r h);
        fixed = fixed;
      }

pub makers_stay : MakersStay
makers_stay = kept
