-- A step file for 256 nodes, 64 aggregates and 32 virtual storages is read to its end, so that no fewer bytes decide the answer. Assumes nothing.
use mathlib.Core.Path.{◌≡◌, refl, sym, ap, ◌∙◌}
use Prim.Native.Nat.{ℕ, zero, suc, ◌+◌, ◌*◌, ◌-◌, ◌<◌, ◌≤◌}
use native.Mathlib.Nat.{mul-suc}
use native.Mathlib.Omega.{arith}
use mathlib.Core.Bool.{Bool, true, false, cond, not, ◌&&◌, ◌||◌}
use mathlib.Core.List.{List, [], ◌∷◌, ◌++◌, append_assoc}
use mathlib.Core.Option.{Option, none, some}
use lib.ListN.{length, get_or, take, drop, replicate, length-append, length-replicate, get_or-append}
use lib.Seq.{take-append-le, get_or-append-add}
use lib.Dec.{leb, eqb, leb→le, nleb→lt, lit≤}
use lib.Ieee.{Float}
use borrow.Author.Tests.{le-leb, lt-leb, eq-eqb}
use Rattle.layout.specs.Layout.{flow_order_at, aggregates_at, edges_at, makers_at, node_rows_at, row_starts_length, shape_length, step_work_length, virtual_storages_at}
use Rattle.laws.proofs.Tests.{by_cases}
use Rattle.pywr.specs.declared.Sentinel.{Sentinel}
use Rattle.pywr.specs.declared.Interval.{Interval}
use Rattle.pywr.specs.declared.NodeBounds.{NodeBounds}
use Rattle.pywr.specs.Result.{value, refused, ◌>>=◌, need, first_refused, refused_if}
use Rattle.pywr.specs.Bytes.{within, mark_is}
use Rattle.pywr.specs.Numbers.{zero64, is_flow, is_small, is_days}
use Rattle.pywr.specs.NetworkFile.{Read}
use Rattle.pywr.specs.Programme.{NodeShape}
use Rattle.pywr.specs.StepFile.{NodeStep, StepFile, expect_mark, days_in, read_date, is_storage, bound_fits, volume_fits}
use Rattle.pywr.specs.StepFile.{read_node_step, read_node_steps, read_aggregate_step, read_aggregate_steps, read_virtual_storage_step, read_virtual_storage_steps, read_step}
use Rattle.pywr.specs.StepIntervals.{Intervals, is_crossed, is_beyond, bad_interval, ordered}
use Rattle.pywr.specs.Store.{Store, store_has_room, word, node_entry, virtual_storage_entry, shape_of, columns_of_row}
use Rattle.pywr.specs.Misshapen.{counts_fit, starts_rise, columns_rise, row_columns_rise, flow_order_fits, all_entries, well_shaped}
use Rattle.pywr.specs.Misshapen.{node_fits, edge_fits, node_row_fits, aggregate_fits, virtual_storage_fits, makers_of_kind, maker_fits}
use Rattle.pywr.specs.Calls.{step_room, step_read, step_ordered, step_answer}
use Rattle.pywr.specs.Compute.{computing}
use Rattle.store_shape.proofs.EntryLaws.{entries_length}
use Rattle.theorem_prefixes.specs.Prefix.{longest_step, step_prefix, StepPrefixLeast}
use Rattle.theorem_prefixes.proofs.LongestRecords.{small_zero}
use Rattle.theorem_prefixes.proofs.Left.{then_value, then_refused, need_true, need_false, checked_true, times, nothing_more, times_left}
use Rattle.theorem_prefixes.proofs.Left.{times_length, left_next, left_room, first_left, second_left, u8_left, bits64_left}

-- ---- numbers of all zero bits are in range

flow_zero : is_flow 0 ≡ true
unfolding computing
flow_zero = refl

-- days 1
one_day : is_days 0x3ff0000000000000 ≡ true
unfolding computing
one_day = refl

bound_zero : (x : NodeShape) → bound_fits x 0 ≡ true
unfolding bound_fits
bound_zero x = either x.constant (is_storage x)
  where
    either : (c s : Bool) → (c || cond s (is_small 0) (is_flow 0)) ≡ true
    either true s = refl
    either false true = small_zero
    either false false = flow_zero

volume_zero : (x : NodeShape) → volume_fits x 0 ≡ true
unfolding volume_fits
volume_zero x = either (is_storage x)
  where
    either : (s : Bool) → (not s || is_small 0) ≡ true
    either true = small_zero
    either false = refl

-- ---- the records

abbrev date_bytes : List ℕ
date_bytes = 83 ∷ 84 ∷ 1 ∷ 1 ∷ 0 ∷ 0 ∷ 0 ∷ 0 ∷ 0 ∷ 0 ∷ 240 ∷ 63 ∷ []

abbrev node_bytes : List ℕ
node_bytes = 78 ∷ 66 ∷ replicate 32 0

abbrev aggregate_bytes : List ℕ
aggregate_bytes = 71 ∷ 66 ∷ replicate 16 0

abbrev virtual_storage_bytes : List ℕ
virtual_storage_bytes = 86 ∷ 66 ∷ replicate 24 0

both_true : (a b : Bool) → a ≡ true → b ≡ true → (a && b) ≡ true
both_true true b e f = f
both_true false b e f = e

module _ (file : List ℕ) where
  mark_read : (at x y : ℕ) (rest : List ℕ) → drop at file ≡ x ∷ y ∷ rest → expect_mark file at x y ≡ value at
  unfolding expect_mark
  mark_read at x y rest e =
      let inside = le-leb (at + 2) (length file) (left_room file at (x ∷ y ∷ rest) e 2 (omega arith) (omega arith)) in
      let mark : mark_is file at x y ≡ true = rw (first_left file at (x ∷ y ∷ rest) e, second_left file at (x ∷ y ∷ rest) e) (both_true (eqb x x) (eqb y y) (eq-eqb x x refl) (eq-eqb y y refl)) in
      need_true _ 12 at at (both_true (within file at 2) (mark_is file at x y) inside mark)

  date_read_lem : (rest : List ℕ) → drop 0 file ≡ date_bytes ++ rest → (r : Read StepFile) × (read_date file ≡ value r) × (r.next ≡ 12)
  unfolding read_date days_in
  date_read_lem rest e =
      let l = date_bytes ++ rest in (
        _,
        then_value _ _ _ 0 (mark_read 0 83 84 _ e)
            (then_value _ _ _ 1 (checked_true 13 0 _ 1 (u8_left file 0 l e 0 12 2 (omega arith)) refl)
            (then_value _ _ _ 1 (checked_true 13 0 _ 1 (u8_left file 0 l e 0 12 3 (omega arith)) refl)
            (then_value _ _ _ 0x3ff0000000000000 (checked_true 13 0 is_days 0x3ff0000000000000 (bits64_left file 0 l e 0 12 4 (omega arith)) one_day) refl))),
        refl,
      )

  node_read_lem : (x : NodeShape) (at : ℕ) (rest : List ℕ) → drop at file ≡ node_bytes ++ rest → (r : NodeStep) × (read_node_step file x at ≡ value r)
  unfolding read_node_step
  node_read_lem x at rest e =
      let l = node_bytes ++ rest in (
        _,
        then_value _ _ _ at (mark_read at 78 66 _ e)
            (then_value _ _ _ 0 (checked_true 13 at is_small 0 (bits64_left file at l e at 12 2 (omega arith)) small_zero)
            (then_value _ _ _ 0 (checked_true 13 at (bound_fits x) 0 (bits64_left file at l e at 12 10 (omega arith)) (bound_zero x))
            (then_value _ _ _ 0 (checked_true 13 at (bound_fits x) 0 (bits64_left file at l e at 12 18 (omega arith)) (bound_zero x))
            (then_value _ _ _ 0 (checked_true 13 at (volume_fits x) 0 (bits64_left file at l e at 12 26 (omega arith)) (volume_zero x)) refl)))),
      )

  aggregate_read : (at : ℕ) (rest : List ℕ) → drop at file ≡ aggregate_bytes ++ rest → (r : Interval) × (read_aggregate_step file at ≡ value r)
  unfolding read_aggregate_step
  aggregate_read at rest e =
      let l = aggregate_bytes ++ rest in (
        _,
        then_value _ _ _ at (mark_read at 71 66 _ e)
            (then_value _ _ _ 0 (checked_true 13 at is_flow 0 (bits64_left file at l e at 12 2 (omega arith)) flow_zero)
            (then_value _ _ _ 0 (checked_true 13 at is_flow 0 (bits64_left file at l e at 12 10 (omega arith)) flow_zero) refl)),
      )

  virtual_storage_read : (at : ℕ) (rest : List ℕ) → drop at file ≡ virtual_storage_bytes ++ rest → (r : NodeBounds) × (read_virtual_storage_step file at ≡ value r)
  unfolding read_virtual_storage_step
  virtual_storage_read at rest e =
      let l = virtual_storage_bytes ++ rest in (
        _,
        then_value _ _ _ at (mark_read at 86 66 _ e)
            (then_value _ _ _ 0 (checked_true 13 at is_small 0 (bits64_left file at l e at 12 2 (omega arith)) small_zero)
            (then_value _ _ _ 0 (checked_true 13 at is_small 0 (bits64_left file at l e at 12 10 (omega arith)) small_zero)
            (then_value _ _ _ 0 (checked_true 13 at is_small 0 (bits64_left file at l e at 12 18 (omega arith)) small_zero) refl))),
      )

  -- ---- the three loops

  nodes_read : (ns : List NodeShape) (so_far : List NodeStep) (at : ℕ) (rest : List ℕ) → drop at file ≡ times (length ns) node_bytes ++ rest
      → (r : Read (List NodeStep)) × (read_node_steps file ns so_far at ≡ value r) × (drop r.next file ≡ rest) × (r.next ≡ at + 34 * length ns)
  unfolding read_node_steps
  nodes_read [] so_far at rest e = (record { item = so_far; next = at }, refl, nothing_more node_bytes rest (drop at file) e, omega arith)
  nodes_read (x ∷ ns) so_far at rest e =
      let d = times_left (length ns) node_bytes rest (drop at file) e in
      let one = node_read_lem x at (times (length ns) node_bytes ++ rest) d in
      let ih = nodes_read ns (so_far ++ (one.0 ∷ [])) (at + 34) rest (left_next file at node_bytes (times (length ns) node_bytes ++ rest) d) in
      (ih.0, then_value _ _ _ one.0 one.1 ih.1, ih.2, (let k = ih.3 in omega arith))

  aggregates_read : (count : ℕ) (so_far : List Interval) (at : ℕ) (rest : List ℕ) → drop at file ≡ times count aggregate_bytes ++ rest
      → (r : Read (List Interval)) × (read_aggregate_steps file count so_far at ≡ value r) × (drop r.next file ≡ rest) × (r.next ≡ at + 18 * count)
  unfolding read_aggregate_steps
  aggregates_read zero so_far at rest e = (record { item = so_far; next = at }, refl, nothing_more aggregate_bytes rest (drop at file) e, omega arith)
  aggregates_read (suc count) so_far at rest e =
      let d = times_left count aggregate_bytes rest (drop at file) e in
      let one = aggregate_read at (times count aggregate_bytes ++ rest) d in
      let ih = aggregates_read count (so_far ++ (one.0 ∷ [])) (at + 18) rest (left_next file at aggregate_bytes (times count aggregate_bytes ++ rest) d) in
      (ih.0, then_value _ _ _ one.0 one.1 ih.1, ih.2, (let k = ih.3 in omega arith))

  virtual_storages_read : (count : ℕ) (so_far : List NodeBounds) (at : ℕ) (rest : List ℕ) → drop at file ≡ times count virtual_storage_bytes ++ rest
      → (r : Read (List NodeBounds)) × (read_virtual_storage_steps file count so_far at ≡ value r) × (drop r.next file ≡ rest) × (r.next ≡ at + 26 * count)
  unfolding read_virtual_storage_steps
  virtual_storages_read zero so_far at rest e = (record { item = so_far; next = at }, refl, nothing_more virtual_storage_bytes rest (drop at file) e, omega arith)
  virtual_storages_read (suc count) so_far at rest e =
      let d = times_left count virtual_storage_bytes rest (drop at file) e in
      let one = virtual_storage_read at (times count virtual_storage_bytes ++ rest) d in
      let ih = virtual_storages_read count (so_far ++ (one.0 ∷ [])) (at + 26) rest (left_next file at virtual_storage_bytes (times count virtual_storage_bytes ++ rest) d) in
      (ih.0, then_value _ _ _ one.0 one.1 ih.1, ih.2, (let k = ih.3 in omega arith))

-- ---- the whole file, with any bytes behind the last record

unfoldable longest : List ℕ → List ℕ
longest tail = date_bytes ++ (times 256 node_bytes ++ (times 64 aggregate_bytes ++ (times 32 virtual_storage_bytes ++ tail)))

longest_length : (tail : List ℕ) → length (longest tail) ≡ longest_step + length tail
unfolding longest
longest_length tail =
    let n : length (times 256 node_bytes) ≡ 8704 = times_length 256 node_bytes in
    let a : length (times 64 aggregate_bytes) ≡ 1152 = times_length 64 aggregate_bytes in
    let v : length (times 32 virtual_storage_bytes) ≡ 832 = times_length 32 virtual_storage_bytes in
    let groups : List ℕ = times 64 aggregate_bytes ++ (times 32 virtual_storage_bytes ++ tail) in
    omega (arith, length-append (times 256 node_bytes) groups, length-append (times 64 aggregate_bytes) (times 32 virtual_storage_bytes ++ tail), length-append (times 32 virtual_storage_bytes) tail)

longest_append : (t u : List ℕ) → longest (t ++ u) ≡ longest t ++ u
unfolding longest
longest_append t u = simp append_assoc

unfoldable step_of : Read StepFile → Read (List NodeStep) → Read (List Interval) → Read (List NodeBounds) → StepFile
step_of date nodes groups stores =
    record {
      month = date.item.month;
      day = date.item.day;
      days = date.item.days;
      nodes = nodes.item;
      aggregates = groups.item;
      virtual_storages = stores.item;
    }

-- the four parts of a file, read one behind the other; then the bytes left over
parts_read : (shapes : List NodeShape) (a v : ℕ) (file : List ℕ) (date : Read StepFile) (nodes : Read (List NodeStep)) (groups : Read (List Interval)) (stores : Read (List NodeBounds))
    → read_date file ≡ value date → read_node_steps file shapes [] date.next ≡ value nodes → read_aggregate_steps file a [] nodes.next ≡ value groups
    → read_virtual_storage_steps file v [] groups.next ≡ value stores
    → stores.next ≡ longest_step → read_step shapes a v file ≡ need (leb (length file) longest_step) 12 longest_step (step_of date nodes groups stores)
unfolding read_step step_of
parts_read shapes a v file date nodes groups stores date-is nodes_are aggregates_are virtual_storages_are end =
    then_value _ _ _ date date-is
    (then_value _ _ _ nodes nodes_are
    (then_value _ _ _ groups aggregates_are
    (then_value _ _ _ stores virtual_storages_are (ap (λ (p : ℕ). need (leb (length file) p) 12 p (step_of date nodes groups stores)) end))))

read_to_end : (shapes : List NodeShape) (a v : ℕ) → length shapes ≡ 256 → a ≡ 64 → v ≡ 32 → (file tail : List ℕ) → file ≡ longest tail
    → (f : StepFile) × (read_step shapes a v file ≡ need (leb (length file) longest_step) 12 longest_step f)
unfolding longest
read_to_end shapes a v n-is a-is v-is file tail e =
    let stores : List ℕ = times v virtual_storage_bytes ++ tail in
    let groups : List ℕ = times a aggregate_bytes ++ stores in
    let e' : file ≡ date_bytes ++ (times (length shapes) node_bytes ++ groups) = rw (n-is, a-is, v-is) e in
    let date = date_read_lem file (times (length shapes) node_bytes ++ groups) e' in
    let start : drop date.0.next file ≡ times (length shapes) node_bytes ++ groups = rw date.2 (left_next file 0 date_bytes (times (length shapes) node_bytes ++ groups) e') in
    let nodes = nodes_read file shapes [] date.0.next groups start in
    let aggregates = aggregates_read file a [] nodes.0.next stores nodes.2 in
    let virtual_storages = virtual_storages_read file v [] aggregates.0.next tail aggregates.2 in (
      step_of date.0 nodes.0 aggregates.0 virtual_storages.0,
      parts_read shapes a v file date.0 nodes.0 aggregates.0 virtual_storages.0 date.1 nodes.1 aggregates.1 virtual_storages.1
          (omega (arith, date.2, nodes.3, aggregates.3, virtual_storages.3)),
    )

-- ---- a store for so many nodes, aggregates and virtual storages: one row with no element, and all else zero

unfoldable zeros : ℕ → List ℕ
zeros n = replicate n 0

zeros_length : (n : ℕ) → length (zeros n) ≡ n
unfolding zeros
zeros_length n = length-replicate n 0

zeros_at : (n i : ℕ) → get_or (zeros n) i 0 ≡ 0
unfolding zeros
zeros_at zero i = refl
zeros_at (suc n) zero = refl
zeros_at (suc n) (suc i) = zeros_at n i

abbrev counts : List ℕ
counts = 0 ∷ 256 ∷ 0 ∷ 0 ∷ 0 ∷ 1 ∷ 0 ∷ 0 ∷ 0 ∷ 64 ∷ 32 ∷ []

-- zeros up to the count of row 0's makers, which is 1
abbrev rest : List ℕ
rest = zeros 19714 ++ (1 ∷ zeros 3581)

unfoldable doubles : ℕ → List Float
doubles n = replicate n zero64

doubles_length : (n : ℕ) → length (doubles n) ≡ n
unfolding doubles
doubles_length n = length-replicate n zero64

abbrev wide : Store
wide =
    record {
      col_lower = doubles 640;
      col_upper = doubles 640;
      col_obj_coef = doubles 640;
      row_lower = doubles 1024;
      row_upper = doubles 1024;
      elements = doubles 4096;
      columns = zeros 4096;
      row_starts = zeros row_starts_length;
      shape = counts ++ rest;
    }

word_zero : (at : ℕ) → 11 ≤ at → at < makers_at + 2 → word wide at ≡ 0
word_zero at h k =
    ap (word wide) (let e : at ≡ 11 + (at - 11) = omega arith in e)
    ∙ get_or-append-add counts rest (at - 11) 0
    ∙ get_or-append (zeros 19714) (1 ∷ zeros 3581) 0 (at - 11) (let l = zeros_length 19714 in omega arith)
    ∙ zeros_at 19714 (at - 11)

shared_by_one : word wide (makers_at + 2) ≡ 1
shared_by_one =
    get_or-append-add counts rest 19714 0
    ∙ ap (λ (n : ℕ). get_or rest n 0) (let l = zeros_length 19714 in let e : 19714 ≡ length (zeros 19714) + 0 = omega arith in e)
    ∙ get_or-append-add (zeros 19714) (1 ∷ zeros 3581) 0 0

-- a table before the makers'
entries_pass : (test : ℕ → Bool) → ((at : ℕ) → 11 ≤ at → at < makers_at → test at ≡ true) → (words at count : ℕ) → 11 ≤ at → at + suc words * count ≤ makers_at
    → all_entries test (suc words) at count ≡ true
unfolding all_entries
entries_pass test all words at zero h k = refl
entries_pass test all words at (suc count) h k =
    let e = mul-suc (suc words) count in
    both_true (test at) _ (all at h (omega arith)) (entries_pass test all words (at + suc words) count (omega arith) (omega arith))

first_start : get_or (zeros row_starts_length) 0 0 ≡ 0
first_start = zeros_at row_starts_length 0

second_start : get_or (zeros row_starts_length) 1 0 ≡ 0
second_start = zeros_at row_starts_length 1

starts_pass : (eqb (get_or (zeros row_starts_length) 0 0) 0 && starts_rise wide 0 1) ≡ true
unfolding starts_rise
starts_pass = rw (first_start, second_start)

rows_pass : all_entries (row_columns_rise wide) 1 0 1 ≡ true
unfolding all_entries row_columns_rise columns_rise columns_of_row
rows_pass = rw (first_start, second_start)

none_pass : (test : ℕ → Bool) (words at : ℕ) → all_entries test words at 0 ≡ true
unfolding all_entries
none_pass test words at = refl

node_fits_lem : (at : ℕ) → 11 ≤ at → at < makers_at → node_fits wide at ≡ true
unfolding node_fits
node_fits_lem at h k = rw (word_zero at h (omega arith), word_zero (at + 1) (omega arith) (omega arith))

aggregate_fits_lem : (at : ℕ) → 11 ≤ at → at < makers_at → aggregate_fits wide at ≡ true
unfolding aggregate_fits
aggregate_fits_lem at h k = rw (word_zero at h (omega arith))

virtual_storage_fits_lem : (at : ℕ) → 11 ≤ at → at < makers_at → virtual_storage_fits wide at ≡ true
unfolding virtual_storage_fits
virtual_storage_fits_lem at h k = rw (word_zero at h (omega arith), word_zero (at + 1) (omega arith) (omega arith))

makers_pass : all_entries (maker_fits wide) 3 makers_at 1 ≡ true
unfolding all_entries maker_fits makers_of_kind
makers_pass = rw (word_zero makers_at (lit≤ tt) (lit≤ tt), word_zero (makers_at + 1) (lit≤ tt) (lit≤ tt), shared_by_one)

wide_shaped : well_shaped wide ≡ true
unfolding well_shaped counts_fit
wide_shaped =
    rw (
      starts_pass,
      rows_pass,
      entries_pass (node_fits wide) node_fits_lem 1 11 256 (omega arith) (omega arith),
      none_pass (edge_fits wide) 3 edges_at,
      none_pass
          (node_row_fits wide) 4 node_rows_at,
      entries_pass (aggregate_fits wide) aggregate_fits_lem 0 aggregates_at 64 (omega arith) (omega arith),
      entries_pass (virtual_storage_fits wide)
          virtual_storage_fits_lem 5 virtual_storages_at 32 (omega arith) (omega arith),
      makers_pass,
      none_pass (flow_order_fits wide) 1 flow_order_at,
    )

long_enough : {A : Type 0} (n : ℕ) (l : List A) → length l ≡ n → leb n (length l) ≡ true
long_enough n l e = le-leb n (length l) (omega (arith, e))

wide_room : step_room wide (doubles step_work_length) ≡ true
unfolding step_room store_has_room
wide_room =
    rw (
      long_enough 640 (doubles 640) (doubles_length 640),
      long_enough 1024 (doubles 1024) (doubles_length 1024),
      long_enough 4096 (doubles 4096)
          (doubles_length 4096),
      long_enough 4096 (zeros 4096) (zeros_length 4096),
      long_enough row_starts_length (zeros row_starts_length)
          (zeros_length row_starts_length),
      long_enough shape_length (counts ++ rest) (let k = zeros_length 19714 in let l = zeros_length 3581 in let m = length-append (zeros 19714) (1 ∷ zeros 3581) in omega arith),
      long_enough step_work_length
          (doubles step_work_length) (doubles_length step_work_length),
    )

-- the step reads the file over the store's shape
wide_read : (file tail : List ℕ) → file ≡ longest tail → (f : StepFile) × (step_read wide file (doubles step_work_length) ≡ need (leb (length file) longest_step) 12 longest_step f)
unfolding step_read shape_of
wide_read file tail e =
    let r = read_to_end (shape_of wide).nodes (length (shape_of wide).aggregates) (length (shape_of wide).virtual_storages)
    (entries_length (node_entry wide) 2 11 256) (entries_length (word wide) 1 aggregates_at 64) (entries_length (virtual_storage_entry wide) 6 virtual_storages_at 32) file tail e in (
      r.0,
      then_value _ _ _ wide (need_true (step_room wide (doubles step_work_length)) 16 0 wide wide_room)
          (then_value _ _ _ (shape_of wide) (need_true (well_shaped wide) 17 0 (shape_of wide) wide_shaped) r.1),
    )

-- ---- 14 and 21 are not 12

not_twelve_from : (w : Sentinel) (v : ℕ → Bool) (i : Intervals) (f : StepFile) (p node : ℕ) (is : List Interval)
    → (refused_if i (first_refused (bad_interval w v) node is) >>= λ _. value f) ≡ refused 12 p → ⊥
unfolding first_refused refused_if bad_interval ◌>>=◌
not_twelve_from w v i f p node [] e = let z : ◌≡◌ {A = ℕ} 0 1 = cc in omega arith
not_twelve_from w v i f p node (x ∷ xs) e =
    go (is_crossed x) (v node && (is_beyond w x.lower || is_beyond w x.upper)) e (λ q. not_twelve_from w v i f p (suc node) xs q)
  where
    go : (crossed beyond : Bool)
        → (refused_if i
        (elim (cond {A = Option ℕ} crossed (some 14) (cond {A = Option ℕ} beyond (some 21) none)) [ none ↦ first_refused (bad_interval w v) (suc node) xs | some number ↦ some (number, node) ])
        >>= λ _. value f) ≡ refused 12 p
        → ((refused_if i (first_refused (bad_interval w v) (suc node) xs) >>= λ _. value f) ≡ refused 12 p → ⊥) → ⊥
    go true beyond q later = let z : ◌≡◌ {A = ℕ} 14 12 = cc in omega arith
    go false true q later = let z : ◌≡◌ {A = ℕ} 21 12 = cc in omega arith
    go false false q later = later q

not_twelve : (store : Store) (f : StepFile) (p : ℕ) → (step_ordered store f >>= λ _. value f) ≡ refused 12 p → ⊥
unfolding step_ordered ordered
not_twelve store f p e = not_twelve_from _ _ _ f p 0 _ e

left_over : (file : List ℕ) → file ≡ longest (0 ∷ []) → step_answer wide file (doubles step_work_length) ≡ refused 12 longest_step
unfolding step_answer
left_over file e =
    let r = wide_read file (0 ∷ []) e in
    let l = longest_length (0 ∷ []) in
    then_refused _ _ 12 longest_step (r.1 ∙ need_false _ 12 longest_step r.0 (lt-leb (length file) longest_step (omega (arith, ap length e))))

complete : (file : List ℕ) → file ≡ longest [] → step_answer wide file (doubles step_work_length) ≡ refused 12 longest_step → ⊥
unfolding step_answer
complete file e q =
    let r = wide_read file [] e in
    let l = longest_length [] in
    let read = r.1 ∙ need_true _ 12 longest_step r.0 (le-leb (length file) longest_step (omega (arith, ap length e))) in
    not_twelve _ r.0 longest_step (sym (then_value _ _ _ r.0 read refl) ∙ q)

pub step_prefix_least : StepPrefixLeast
step_prefix_least m law = by_cases (leb step_prefix m) (λ t. leb→le step_prefix m t) (λ t. absurd (go (nleb→lt step_prefix m t)))
  where
    go : m < step_prefix → ⊥
    go lt =
        let short : List ℕ = longest [] in
        let full : List ℕ = longest (0 ∷ []) in
        let long = longest_length [] in
        let same : take m full ≡ take m short = ap (take m) (longest_append [] (0 ∷ [])) ∙ take-append-le m short (0 ∷ []) (omega arith) in
        complete short refl (sym (law wide short (doubles step_work_length)) ∙ ap (λ (l : List ℕ). step_answer wide l (doubles step_work_length)) (sym same)
        ∙ law wide full (doubles step_work_length) ∙ left_over full refl)
