-- After an accepted build and any list of steps the store is well shaped and as long as needed, so that a step answers by its file alone: a file that
-- reads well with ordered intervals is accepted there, given the work area that a step needs. Assumes nothing.
use mathlib.Core.Path.{◌≡◌, refl, ap, ap₂, ◌∙◌}
use Prim.Native.Nat.{ℕ, zero, suc, ◌+◌, ◌≤◌}
use mathlib.Core.Bool.{Bool, true, false, ◌&&◌}
use mathlib.Core.List.{List, [], ◌∷◌, map, flat_map}
use lib.ListN.{length, get_elem?}
use mathlib.Core.Option.{some}
use lib.Seq.{sets, length-sets}
use lib.Dec.{T, leb, ltb, eqb, le→leb}
use lib.Ieee.{Float}
use lib.Ieee.Fits.{and_i}
use Rattle.layout.specs.Layout.{makers_at, maker_width, flow_order_at, flow_order_width, row_starts_length, shape_length, varying_in}
use Rattle.laws.proofs.Tests.{to_true, of_true}
use Rattle.pywr.specs.declared.Sentinel.{Sentinel}
use Rattle.pywr.specs.Result.{value, Result, refused, ◌>>=◌, need}
use Rattle.pywr.specs.Network.{Period, Network}
use Rattle.pywr.specs.NetworkFile.{parse_network}
use Rattle.pywr.specs.Rows.{Element}
use Rattle.pywr.specs.Programme.{Column, Row, Programme, Shape, Built}
use Rattle.pywr.specs.Build.{assemble, programme_of}
use Rattle.pywr.specs.StepFile.{StepFile, read_step}
use Rattle.pywr.specs.StepIntervals.{intervals, Intervals, has_binary_row, ordered}
use Rattle.pywr.specs.Step.{periods, stepped}
use Rattle.pywr.specs.Store.{Store, store_has_room, sentinel_code, node_count, edge_count, node_row_count, aggregate_count, virtual_storage_count}
use Rattle.pywr.specs.Store.{varying_count, row_count, nodes_at, edges_at, node_rows_at, aggregates_at, virtual_storages_at, node_entry, edge_entry}
use Rattle.pywr.specs.Store.{node_row_entry, virtual_storage_entry, maker_entry, makers_in, shape_of, start_of, columns_of_row, programme_in}
use Rattle.pywr.specs.Misshapen.{counts_fit, starts_rise, row_columns_rise, node_fits, edge_fits, node_row_fits, aggregate_fits, virtual_storage_fits, makers_of_kind, maker_fits, flow_order_fits, all_entries, well_shaped}
use Rattle.pywr.specs.Written.{node_words, edge_words, node_row_words, virtual_storage_words, maker_words, count_words, shape_after, starts_from}
use Rattle.pywr.specs.Written.{columns_in, values_in, lower_of, upper_of, rows_of, built_store, stepped_store}
use Rattle.pywr.specs.Calls.{build_answer, build_store, work_needed, step_room, step_read, step_intervals, step_ordered, step_answer, store_of_step, step_store, is_accepted, row_answer}
use Rattle.pywr.specs.Correspondence.{Call, store_after, periods_of, read_by, is_varying_exclusive}
use Rattle.pywr.proofs.ReadLaws.{Sound, read_sound}
use Rattle.pywr.proofs.DemandThree.{BuildAccepted, build_accepted, periods_are, read_alike}
use Rattle.pywr.proofs.SharedLaws.{binary_rows_tell}
use Rattle.pywr.proofs.WellShaped.{held, shaped, rows_count, of_row}

-- ---- what a step keeps

starts_same : (s : Store) (p : Programme) (r n : ℕ) → starts_rise (stepped_store s p) r n ≡ starts_rise s r n
unfolding starts_rise stepped_store
starts_same s p r zero = refl
starts_same s p r (suc n) = ap (λ (x : Bool). leb (start_of s r) (start_of s (r + 1)) && x) (starts_same s p (r + 1) n)

-- 17's parts before the makers, and before the flow order; the rising starts are x
abbrev pub before_makers : Store → Bool → Bool
before_makers s x =
    counts_fit s
    && leb (sentinel_code s) 1
    && (eqb (start_of s 0) 0 && x)
    && all_entries (row_columns_rise s) 1 0 (row_count s)
    && all_entries (node_fits s) 2 nodes_at (node_count s)
    && all_entries (edge_fits s) 3 edges_at (edge_count s)
    && all_entries (node_row_fits s) 4 node_rows_at (node_row_count s)
    && all_entries (aggregate_fits s) 1 aggregates_at (aggregate_count s)
    && all_entries (virtual_storage_fits s) 6 virtual_storages_at (virtual_storage_count s)

abbrev pub before_flow_order : Store → Bool → Bool
before_flow_order s x = before_makers s x && all_entries (maker_fits s) maker_width makers_at (row_count s)

shaped_same : (s : Store) (p : Programme) → well_shaped (stepped_store s p) ≡ well_shaped s
unfolding well_shaped stepped_store counts_fit row_columns_rise node_fits edge_fits node_row_fits aggregate_fits virtual_storage_fits maker_fits makers_of_kind flow_order_fits columns_of_row
shaped_same s p = ap (λ (x : Bool). before_flow_order s x && all_entries (flow_order_fits s) flow_order_width flow_order_at (edge_count s)) (starts_same s p 0 (row_count s))

shape_same : (s : Store) (p : Programme) → shape_of (stepped_store s p) ≡ shape_of s
unfolding shape_of stepped_store node_entry edge_entry node_row_entry virtual_storage_entry
shape_same s p = refl

makers_same : (s : Store) (p : Programme) → makers_in (stepped_store s p) ≡ makers_in s
unfolding makers_in stepped_store maker_entry
makers_same s p = refl

sentinel_same : (s : Store) (p : Programme) → (programme_in (stepped_store s p)).sentinel ≡ (programme_in s).sentinel
unfolding programme_in stepped_store
sentinel_same s p = refl

room_same : (s : Store) (p : Programme) → store_has_room (stepped_store s p) ≡ store_has_room s
unfolding store_has_room stepped_store
room_same s p =
    let c = length-sets s.col_obj_coef 0 (map (λ (x : Column). x.cost) p.columns) in
    let l = length-sets s.row_lower 0 (map lower_of p.varying) in
    let u = length-sets s.row_upper 0 (map upper_of p.varying) in
    let e = length-sets s.elements 0 (flat_map values_in p.varying) in
    λ k.
    leb 640 (length s.col_lower)
    && leb 640 (length s.col_upper)
    && leb 640 (c k)
    && leb 1024 (l k)
    && leb 1024 (u k)
    && leb 4096 (e k)
    && leb 4096 (length s.columns)
    && leb row_starts_length (length s.row_starts)
    && leb shape_length (length s.shape)

pub record Keeps (s t : Store) : Type 0 where
  pub run : t.shape ≡ s.shape
  pub shaped : well_shaped t ≡ well_shaped s
  pub room : store_has_room t ≡ store_has_room s
  pub shape : shape_of t ≡ shape_of s
  pub makers : makers_in t ≡ makers_in s
  pub sentinel : (programme_in t).sentinel ≡ (programme_in s).sentinel
  pub count : row_count t ≡ row_count s
  pub part : (r : ℕ) → columns_of_row t r ≡ columns_of_row s r

part_same : (s : Store) (p : Programme) (r : ℕ) → columns_of_row (stepped_store s p) r ≡ columns_of_row s r
unfolding columns_of_row stepped_store
part_same s p r = refl

run_same : (s : Store) (p : Programme) → (stepped_store s p).shape ≡ s.shape
unfolding stepped_store
run_same s p = refl

count_same : (s : Store) (p : Programme) → row_count (stepped_store s p) ≡ row_count s
unfolding stepped_store
count_same s p = refl

step_keeps : (s : Store) (r : Result StepFile) → Keeps s (store_of_step s r)
unfolding store_of_step
step_keeps s (refused n p) = record { run = refl; shaped = refl; room = refl; shape = refl; makers = refl; sentinel = refl; count = refl; part = λ r. refl }
step_keeps s (value f) =
    let p : Programme = stepped (shape_of s) f (programme_in s) in
    record {
      run = run_same s p;
      shaped = shaped_same s p;
      room = room_same s p;
      shape = shape_same s p;
      makers = makers_same s p;
      sentinel = sentinel_same s p;
      count = count_same s p;
      part = part_same s p;
    }

pub steps_keep : (calls : List Call) (s : Store) → Keeps s (store_after s calls)
unfolding store_after step_store
steps_keep [] s = record { run = refl; shaped = refl; room = refl; shape = refl; makers = refl; sentinel = refl; count = refl; part = λ r. refl }
steps_keep (c ∷ cs) s =
    let a = step_keeps s (step_answer s c.file c.work) in
    let b = steps_keep cs (step_store s c.file c.work) in
    record {
      run = b.run ∙ a.run;
      shaped = b.shaped ∙ a.shaped;
      room = b.room ∙ a.room;
      shape = b.shape ∙ a.shape;
      makers = b.makers ∙ a.makers;
      sentinel = b.sentinel ∙ a.sentinel;
      count = b.count
          ∙ a.count;
      part = λ r. b.part r ∙ a.part r;
    }

-- ---- when a step is accepted

need_yes : {A : Type 0} (ok : Bool) (n p : ℕ) (x : A) → T ok → need ok n p x ≡ value x
unfolding need
need_yes true n p x t = refl
need_yes false n p x t = absurd t

bind_is : {A B : Type 0} (r : Result A) (k : A → Result B) (x : A) (y : Result B) → r ≡ value x → k x ≡ y → (r >>= k) ≡ y
unfolding ◌>>=◌
bind_is r k x y e f = ap (λ (q : Result _). q >>= k) e ∙ f

-- what a file that was read is answered: 14, 21 or the file's numbers
unfoldable pub after_reading : (StepFile → Result Intervals) → Result StepFile → Result StepFile
after_reading judged r = r >>= λ f. judged f >>= λ _. value f

-- 14 and 21, as the network asks them of its own nodes
unfoldable pub judged_by : Sentinel → Network → StepFile → Result Intervals
judged_by w net f = ordered w (is_varying_exclusive net) (intervals w (periods_of net) f)

-- on a store that is neither short nor misshapen
pub step_answers : (s : Store) (file : List ℕ) (work : List Float) → T (store_has_room s) → work_needed ≤ length work → T (well_shaped s)
    → step_answer s file work ≡ after_reading (step_ordered s) (read_step (shape_of s).nodes (length (shape_of s).aggregates) (length (shape_of s).virtual_storages) file)
unfolding step_answer step_read step_room after_reading
step_answers s file work room long shape =
    ap (after_reading (step_ordered s))
    (bind_is _ _ s (read_step (shape_of s).nodes (length (shape_of s).aggregates) (length (shape_of s).virtual_storages) file)
    (need_yes (store_has_room s && leb work_needed (length work)) 16 0 s (and_i (store_has_room s) (leb work_needed (length work)) room (le→leb work_needed (length work) long)))
    (bind_is _ _ (shape_of s) (read_step (shape_of s).nodes (length (shape_of s).aggregates) (length (shape_of s).virtual_storages) file) (need_yes (well_shaped s) 17 0 (shape_of s) shape) refl))

-- ---- the store that a build left

shape_long : (old : List ℕ) (b : Built) → length (shape_after old b) ≡ length old
unfolding shape_after
shape_long old b =
    let counts : List ℕ = sets old 0 (count_words b) in
    let nodes : List ℕ = sets counts nodes_at (flat_map node_words b.shape.nodes) in
    let edges : List ℕ = sets nodes edges_at (flat_map edge_words b.shape.mapped_edges) in
    let node_rows : List ℕ = sets edges node_rows_at (flat_map node_row_words b.shape.node_rows) in
    let groups : List ℕ = sets node_rows aggregates_at b.shape.aggregates in
    let virtual_storages : List ℕ = sets groups virtual_storages_at (flat_map virtual_storage_words b.shape.virtual_storages) in
    let makers : List ℕ = sets virtual_storages makers_at (flat_map maker_words b.makers) in
    length-sets makers flow_order_at b.shape.flow_order
    ∙ length-sets virtual_storages makers_at (flat_map maker_words b.makers)
    ∙ length-sets groups virtual_storages_at (flat_map virtual_storage_words b.shape.virtual_storages)
    ∙ length-sets node_rows aggregates_at b.shape.aggregates
    ∙ length-sets edges node_rows_at (flat_map node_row_words b.shape.node_rows)
    ∙ length-sets nodes edges_at (flat_map edge_words b.shape.mapped_edges)
    ∙ length-sets counts nodes_at (flat_map node_words b.shape.nodes)
    ∙ length-sets old 0 (count_words b)

built_room : (old : Store) (b : Built) → store_has_room (built_store old b) ≡ store_has_room old
unfolding store_has_room built_store
built_room old b =
    let p : Programme = b.programme in
    let rows : List Row = rows_of p in
    let cl = length-sets old.col_lower 0 (map (λ (c : Column). c.lower) p.columns) in
    let cu = length-sets old.col_upper 0 (map (λ (c : Column). c.upper) p.columns) in
    let cc' = length-sets old.col_obj_coef 0 (map (λ (c : Column). c.cost) p.columns) in
    let rl = length-sets old.row_lower 0 (map lower_of rows) in
    let ru = length-sets old.row_upper 0 (map upper_of rows) in
    let el = length-sets old.elements 0 (flat_map values_in rows) in
    let co = length-sets old.columns 0 (flat_map columns_in rows) in
    let st = length-sets old.row_starts 0 (starts_from 0 rows) in
    let sh = shape_long old.shape b in
    λ k. leb 640 (cl k) && leb 640 (cu k) && leb 640 (cc' k) && leb 1024 (rl k) && leb 1024 (ru k) && leb 4096 (el k) && leb 4096 (co k) && leb row_starts_length (st k) && leb shape_length (sh k)

module _ (network_file : List ℕ) (w : Sentinel) (old : Store) (words : List ℕ) (numbers : List Float) (net : Network) (parsed : parse_network network_file ≡ value net)
    (accepted : is_accepted (build_answer w network_file old words numbers) ≡ true) where
  sound : Sound net
  sound = read_sound network_file net parsed

  built : BuildAccepted w net old network_file words numbers
  built = build_accepted w net old network_file words numbers parsed accepted

  abbrev after : List Call → Store
  after calls = store_after (build_store w network_file old words numbers) calls

  -- no step on it, and no reading of a row, is refused with 17
  pub build_shaped : (calls : List Call) → well_shaped (after calls) ≡ true
  build_shaped calls =
      (steps_keep calls (build_store w network_file old words numbers)).shaped ∙ ap well_shaped built.store
      ∙ to_true (well_shaped (built_store old (programme_of w net))) (shaped w net sound old built.room built.under)

  pub build_roomy : (calls : List Call) → store_has_room (after calls) ≡ true
  build_roomy calls = (steps_keep calls (build_store w network_file old words numbers)).room ∙ ap store_has_room built.store ∙ built_room old (programme_of w net)
      ∙ to_true (store_has_room old) built.fits

  pub shape_is : (calls : List Call) → shape_of (after calls) ≡ (programme_of w net).shape
  shape_is calls = (steps_keep calls (build_store w network_file old words numbers)).shape ∙ ap shape_of built.store ∙ (held w net sound old built.room built.under).shape

  pub makers_is : (calls : List Call) → makers_in (after calls) ≡ (programme_of w net).makers
  makers_is calls = (steps_keep calls (build_store w network_file old words numbers)).makers ∙ ap makers_in built.store ∙ (held w net sound old built.room built.under).makers

  pub varying_is : (calls : List Call) → varying_count (after calls) ≡ length (programme_of w net).programme.varying
  varying_is calls =
      ap varying_in ((steps_keep calls (build_store w network_file old words numbers)).run ∙ ap (λ (s : Store). s.shape) built.store)
      ∙ (held w net sound old built.room built.under).varying_count

  sentinel_is : (calls : List Call) → (programme_in (after calls)).sentinel ≡ w
  unfolding programme_in programme_of assemble
  sentinel_is calls = (steps_keep calls (build_store w network_file old words numbers)).sentinel ∙ ap (λ (s : Store). (programme_in s).sentinel) built.store
      ∙ (held w net sound old built.room built.under).sentinel

  -- "Order .. Step: 16, 17, file left to right, 14", and 21 with 14: here 16 and 17 never come, so the answer is the file's alone, refusals and places too, as the network reads it
  pub file_answers : (calls : List Call) (file : List ℕ) (work : List Float) → work_needed ≤ length work
      → step_answer (after calls) file work ≡ after_reading (judged_by w net) (read_by net file)
  unfolding step_ordered step_intervals judged_by
  file_answers calls file work long =
      step_answers (after calls) file work (of_true (store_has_room (after calls)) (build_roomy calls)) long (of_true (well_shaped (after calls)) (build_shaped calls))
      ∙ ap₂ (λ (s : Sentinel) (q : Shape). after_reading (λ f. ordered s (has_binary_row q.node_rows) (intervals s (periods q) f))
      (read_step q.nodes (length q.aggregates) (length q.virtual_storages) file)) (sentinel_is calls) (shape_is calls)
      ∙ ap (λ (v : ℕ → Bool). after_reading (λ f. ordered w v (intervals w (periods (programme_of w net).shape) f))
      (read_step (programme_of w net).shape.nodes (length (programme_of w net).shape.aggregates) (length (programme_of w net).shape.virtual_storages) file))
      (λ k n. binary_rows_tell w net sound n k)
      ∙ ap₂ (λ (ps : List Period) (r : Result StepFile). after_reading (λ f. ordered w (is_varying_exclusive net) (intervals w ps f)) r) (periods_are w net) (read_alike w net file)

  -- so a step file that reads well and whose intervals pass 14 and 21 is accepted
  pub file_accepted : (calls : List Call) (file : List ℕ) (work : List Float) (f : StepFile) (i : Intervals) → work_needed ≤ length work
      → read_by net file ≡ value f → judged_by w net f ≡ value i
      → step_answer (after calls) file work ≡ value f
  unfolding after_reading
  file_accepted calls file work f i long read order = file_answers calls file work long ∙ bind_is _ _ f (value f) read (bind_is _ _ i (value f) order refl)

  -- ---- reading a row: 16 and 17 never come either

  pub count_is : (calls : List Call) → row_count (after calls) ≡ length (rows_of (programme_of w net).programme)
  count_is calls = (steps_keep calls (build_store w network_file old words numbers)).count ∙ ap (λ (s : Store). row_count s) built.store ∙ rows_count w net sound old built.room built.under

  pub row_answers : (calls : List Call) (r : ℕ) → row_answer (after calls) r ≡ need (ltb r (length (rows_of (programme_of w net).programme))) 18 r (columns_of_row (after calls) r)
  unfolding row_answer
  row_answers calls r =
      bind_is _ _ (after calls) _ (need_yes (store_has_room (after calls)) 16 0 (after calls) (of_true (store_has_room (after calls)) (build_roomy calls)))
      (bind_is _ _ (after calls) _ (need_yes (well_shaped (after calls)) 17 0 (after calls) (of_true (well_shaped (after calls)) (build_shaped calls)))
      (ap (λ (n : ℕ). need (ltb r n) 18 r (columns_of_row (after calls) r)) (count_is calls)))

  -- and the part is the columns of the row that was built
  pub row_part_lem : (calls : List Call) (r : ℕ) (x : Row) → get_elem? (rows_of (programme_of w net).programme) r ≡ some x → columns_of_row (after calls) r ≡ map (λ (e : Element). e.column) x.elements
  row_part_lem calls r x e =
      (steps_keep calls (build_store w network_file old words numbers)).part r ∙ ap (λ (s : Store). columns_of_row s r) built.store ∙ of_row w net sound old built.room built.under r x e
