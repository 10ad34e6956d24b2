-- Demand 3: `Correspondence`, proved whole. Assumes nothing.
use mathlib.Core.Path.{◌≡◌, refl, sym, ap, ap₂, ◌∙◌, subst}
use Prim.Native.Nat.{ℕ, suc, ◌<◌}
use native.Mathlib.Omega.{arith}
use mathlib.Core.Bool.{Bool, true, false, cond, not, ◌&&◌, ◌||◌}
use mathlib.Core.List.{List, [], ◌∷◌, map}
use mathlib.Core.Option.{Option, none, some}
use lib.ListN.{length, get_or, length-map}
use lib.Dec.{T, leb, leb→le}
use lib.Ieee.{Float}
use lib.Ieee.Fits.{and_l, and_r}
use Rattle.layout.specs.Layout.{row_starts_length, shape_length}
use Rattle.laws.proofs.Tests.{same_test, of_true}
use Rattle.pywr.specs.declared.Sentinel.{Sentinel}
use Rattle.pywr.specs.Result.{value, Result, refused, need}
use Rattle.pywr.specs.Network.{Period, VirtualStorage, Network, no_node, is_exclusive}
use Rattle.pywr.specs.NetworkFile.{parse_network}
use Rattle.pywr.specs.Rows.{column_map}
use Rattle.pywr.specs.Programme.{Programme, Built}
use Rattle.pywr.specs.Build.{node_shape, placed_virtual_storages, assemble, programme_of, under_ceilings, build}
use Rattle.pywr.specs.StepFile.{StepFile, read_step}
use Rattle.pywr.specs.Interval.{sentinels}
use Rattle.pywr.specs.StepIntervals.{intervals, Intervals, has_binary_row, ordered}
use Rattle.pywr.specs.Step.{period_of, step_rows, periods, stepped}
use Rattle.pywr.specs.Store.{Store, store_has_room}
use Rattle.pywr.specs.Written.{built_store}
use Rattle.pywr.specs.Calls.{words_needed, numbers_needed, build_room, build_answer, store_of_build, build_store, store_of_step, is_accepted}
use Rattle.pywr.specs.Plans.{Plan}
use Rattle.pywr.specs.Allows.{allows}
use Rattle.pywr.specs.Admits.{admits}
use Rattle.pywr.specs.Correspondence.{store_after, Report, reports, last_accepted, periods_of, read_by, allows_read}
use Rattle.pywr.specs.Correspondence.{allows_under, network_allows, programme_admits, is_varying_exclusive, factors_in1024ths, factors_whole, any_accepted, CorrespondenceWhere, Correspondence}
use Rattle.pywr.proofs.Represents.{Represents, Roomy, programme_back}
use Rattle.pywr.proofs.RunLaws.{stepped_lowers, stepped_uppers, after, after_held, bind_value, need_value, Reached, run}
use Rattle.pywr.proofs.ListLaws.{found_mem, found_get, below_found}
use Rattle.pywr.proofs.MembershipLaws.{exclusive_lists}
use Rattle.pywr.proofs.ReadLaws.{same_value, need_test, Sound, read_sound}
use Rattle.pywr.proofs.StepReadLaws.{step_sound, step_nodes, node_intervals_long, shape_periods_length, IntervalsOk, intervals_sound}
use Rattle.pywr.proofs.FitLaws.{aggregates_length, for_virtual_storages, length_v}
use Rattle.pywr.proofs.FactorLaws.{whole_in_1024ths}
use Rattle.pywr.proofs.SharedLaws.{binary_rows_tell}
use Rattle.pywr.proofs.SteppedLaws.{Ranged, AllRanged}
use Rattle.pywr.proofs.RangedLaws.{ordered_ranged}
use Rattle.pywr.proofs.StepMeets.{step_meets}
use Rattle.pywr.proofs.WellShaped.{held}

-- ---- an accepted build

pub roomy_parts : (s : Store) → T (store_has_room s) → Roomy s
unfolding store_has_room
roomy_parts s h =
    let a : Bool = leb 640 (length s.col_lower) in
    let b : Bool = leb 640 (length s.col_upper) in
    let c : Bool = leb 640 (length s.col_obj_coef) in
    let d : Bool = leb 1024 (length s.row_lower) in
    let e : Bool = leb 1024 (length s.row_upper) in
    let f : Bool = leb 4096 (length s.elements) in
    let g : Bool = leb 4096 (length s.columns) in
    let i : Bool = leb row_starts_length (length s.row_starts) in
    let j : Bool = leb shape_length (length s.shape) in
    let h8 = and_l (a && b && c && d && e && f && g && i) j h in
    let h7 = and_l (a && b && c && d && e && f && g) i h8 in
    let h6 = and_l (a && b && c && d && e && f) g h7 in
    let h5 = and_l (a && b && c && d && e) f h6 in
    let h4 = and_l (a && b && c && d) e h5 in
    let h3 = and_l (a && b && c) d h4 in
    let h2 = and_l (a && b) c h3 in
    record {
      col_lower = leb→le 640 (length s.col_lower) (and_l a b h2);
      col_upper = leb→le 640 (length s.col_upper) (and_r a b h2);
      col_obj_coef = leb→le 640 (length s.col_obj_coef) (and_r (a && b) c h3);
      row_lower = leb→le 1024 (length s.row_lower) (and_r (a && b && c) d h4);
      row_upper = leb→le 1024 (length s.row_upper) (and_r (a && b && c && d) e h5);
      elements = leb→le 4096 (length s.elements) (and_r (a && b && c && d && e) f h6);
      columns = leb→le 4096 (length s.columns) (and_r (a && b && c && d && e && f) g h7);
      row_starts = leb→le row_starts_length (length s.row_starts) (and_r (a && b && c && d && e && f && g) i h8);
      shape = leb→le shape_length (length s.shape) (and_r (a && b && c && d && e && f && g && i) j h);
    }

pub accepted_value : {A : Type 0} (r : Result A) → is_accepted r ≡ true → (x : A) × (r ≡ value x)
unfolding is_accepted
accepted_value (value x) e = (x, refl)
accepted_value (refused n p) e = let z : ◌≡◌ {A = ℕ} 0 1 = cc in absurd (omega arith)

pub record BuildAccepted (s : Sentinel) (net : Network) (old : Store) (file : List ℕ) (words : List ℕ) (numbers : List Float) : Type 0 where
  pub fits : T (store_has_room old)
  pub room : Roomy old
  pub under : T (under_ceilings (column_map net) (programme_of s net).programme)
  pub store : build_store s file old words numbers ≡ built_store old (programme_of s net)

pub build_accepted : (s : Sentinel) (net : Network) (old : Store) (file : List ℕ) (words : List ℕ) (numbers : List Float) → parse_network file ≡ value net
    → is_accepted (build_answer s file old words numbers) ≡ true → BuildAccepted s net old file words numbers
unfolding build_room build_answer build build_store store_of_build
build_accepted s net old file words numbers parsed e =
    let v = accepted_value (build_answer s file old words numbers) e in
    let a = bind_value _ _ v.0 v.1 in
    let b = bind_value _ _ v.0 a.2 in
    let same : b.0 ≡ net = same_value b.0 net (sym b.1 ∙ parsed) in
    let c : need (under_ceilings (column_map net) (programme_of s net).programme) 11 0 (programme_of s net) ≡ value v.0 =
    subst (λ (m : Network). need (under_ceilings (column_map m) (programme_of s m).programme) 11 0 (programme_of s m) ≡ value v.0) same b.2 in
    let fits = need_test _ 16 0 old a.0 a.1 in
    let w : Bool = leb words_needed (length words) in
    let n : Bool = leb numbers_needed (length numbers) in
    record {
      fits = and_l (store_has_room old) w (and_l (store_has_room old && w) n fits);
      room = roomy_parts old (and_l (store_has_room old) w (and_l (store_has_room old && w) n fits));
      under = need_test (under_ceilings (column_map net) (programme_of s net).programme) 11 0 (programme_of s net) v.0 c;
      store = ap (store_of_build old) v.1 ∙ ap (built_store old) (sym (need_value _ 11 0 (programme_of s net) v.0 c));
    }

-- its store holds the network's programme
pub build_represents : (s : Sentinel) (net : Network) (old : Store) (file : List ℕ) (words : List ℕ) (numbers : List Float) → Sound net → BuildAccepted s net old file words numbers
    → Represents (build_store s file old words numbers) (programme_of s net)
build_represents s net old file words numbers sound built = subst (λ (t : Store). Represents t (programme_of s net)) (sym built.store) (held s net sound old built.room built.under)

-- ---- the last accepted file

last_kept : (ts : List Report) (file : List ℕ) → (g : List ℕ) × (last_accepted (some file) ts ≡ some g)
unfolding last_accepted
last_kept [] file = (file, refl)
last_kept (t ∷ ts) file = go t.accepted (λ k. last_kept ts k)
  where
    go : (b : Bool) → ((k : List ℕ) → (g : List ℕ) × (last_accepted (some k) ts ≡ some g)) → (g : List ℕ) × (last_accepted (cond b (some t.file) (some file)) ts ≡ some g)
    go true ih = ih t.file
    go false ih = ih file

last_some : (ts : List Report) (o : Option (List ℕ)) → T (any_accepted ts) → (g : List ℕ) × (last_accepted o ts ≡ some g)
unfolding last_accepted any_accepted
last_some [] o h = absurd h
last_some (t ∷ ts) o h = go t.accepted h (λ k q. last_some ts k q)
  where
    go : (b : Bool) → T (b || any_accepted ts) → ((k : Option (List ℕ)) → T (any_accepted ts) → (g : List ℕ) × (last_accepted k ts ≡ some g)) → (g : List ℕ)
        × (last_accepted (cond b (some t.file) o) ts ≡ some g)
    go true q ih = last_kept ts t.file
    go false q ih = ih o q

-- ---- both sides read the step file alike

same_periods : (vs : List VirtualStorage) (ps : List ℕ) → length vs ≡ length ps → map period_of (placed_virtual_storages vs ps) ≡ map (λ (v : VirtualStorage). v.period) vs
unfolding placed_virtual_storages period_of
same_periods [] ps l = refl
same_periods (v ∷ vs) [] l = let z : suc (length vs) ≡ 0 = l in absurd (omega arith)
same_periods (v ∷ vs) (p ∷ ps) l = ap (λ (r : List Period). v.period ∷ r) (same_periods vs ps (let z : suc (length vs) ≡ suc (length ps) = l in omega arith))

pub periods_are : (s : Sentinel) (net : Network) → periods (programme_of s net).shape ≡ periods_of net
unfolding periods periods_of programme_of assemble
periods_are s net = same_periods net.virtual_storages (for_virtual_storages s net).places (length_v s net)

periods_length : (net : Network) → length (periods_of net) ≡ length net.virtual_storages
unfolding periods_of
periods_length net = length-map net.virtual_storages (λ (v : VirtualStorage). v.period)

virtual_storages_length : (s : Sentinel) (net : Network) → length (programme_of s net).shape.virtual_storages ≡ length net.virtual_storages
virtual_storages_length s net =
    sym (shape_periods_length (programme_of s net).shape) ∙ ap length (periods_are s net) ∙ periods_length net

pub read_alike : (s : Sentinel) (net : Network) (file : List ℕ)
    → read_step (programme_of s net).shape.nodes (length (programme_of s net).shape.aggregates) (length (programme_of s net).shape.virtual_storages) file ≡ read_by net file
unfolding read_by programme_of assemble
read_alike s net file = ap₂ (λ (a v : ℕ). read_step (map node_shape net.nodes) a v file) (aggregates_length s net) (virtual_storages_length s net)

-- ---- the statement

exclusive_under : (net : Network) → Sound net → (n : ℕ) → T (is_varying_exclusive net n) → n < length net.nodes
unfolding is_varying_exclusive
exclusive_under net sound n t =
    let r = exclusive_lists net.aggregates n (and_l (is_exclusive net.aggregates n) (not (get_or net.nodes n no_node).constant) t) in
    ((sound.good.aggregates r.1.aggregate r.1.known).sets r.0 r.1.has).members n r.2

-- what holds of the intervals of an accepted file
module _ (s : Sentinel) (net : Network) (sound : Sound net) (file : List ℕ) (f : StepFile) (j : Intervals) (read : read_by net file ≡ value f)
    (passed : ordered s (has_binary_row (programme_of s net).shape.node_rows) (intervals s (periods (programme_of s net).shape) f) ≡ value j) where
  abbrev i : Intervals
  i = intervals s (periods_of net) f

  pub file_ok : IntervalsOk (length net.aggregates) (length net.virtual_storages) (intervals s (periods_of net) f)
  unfolding read_by
  file_ok =
      intervals_sound s (periods_of net) (length net.aggregates) (length net.virtual_storages) f (periods_length net)
      (step_sound _ (length net.aggregates) (length net.virtual_storages) file f read)

  node_intervals_count : length (intervals s (periods_of net) f).nodes ≡ length net.nodes
  unfolding read_by intervals
  node_intervals_count =
      node_intervals_long s f.days f.nodes
      ∙ step_nodes (map node_shape net.nodes) (length net.aggregates) (length net.virtual_storages) file f read
      ∙ length-map net.nodes node_shape

  pub file_ranged : AllRanged s net (intervals s (periods_of net) f)
  file_ranged n t =
      let here : ordered s (is_varying_exclusive net) i ≡ value j =
      sym (ap₂ (λ (q : List Period) (v : ℕ → Bool). ordered s v (intervals s q f)) (periods_are s net) (λ k m. binary_rows_tell s net sound m k)) ∙ passed in
      let under : n < length i.nodes = subst (λ (k : ℕ). n < k) (sym node_intervals_count) (exclusive_under net sound n t) in
      let x = below_found i.nodes n under in
      subst (Ranged s) (sym (found_get i.nodes n x.0 (sentinels s) x.1))
      (ordered_ranged s (is_varying_exclusive net) i j here n x.0 x.1 (file_ok.nodes x.0 (found_mem i.nodes n x.0 x.1)) t)

module _ (s : Sentinel) (net : Network) (sound : Sound net) (factors : T (factors_in1024ths net)) (plan : Plan) where
  abbrev b : Built
  b = programme_of s net

  -- under one accepted file
  file_meets : (file : List ℕ) (f : StepFile) (j : Intervals) → read_by net file ≡ value f
      → ordered s (has_binary_row b.shape.node_rows) (intervals s (periods b.shape) f) ≡ value j
      → admits (column_map net) (stepped b.shape f b.programme) plan ≡ allows_read s net (read_by net file) plan
  unfolding allows_read programme_of assemble stepped
  file_meets file f j read passed =
      let p : Programme = stepped b.shape f b.programme in
      let i : Intervals = intervals s (periods_of net) f in
      same_test (admits (column_map net) p plan) (allows s net i plan)
      (step_meets s net sound factors plan i (file_ok s net sound file f j read passed) (file_ranged s net sound file f j read passed) p refl
      (stepped_lowers b.shape f b.programme) (stepped_uppers b.shape f b.programme)
      (ap (λ (q : List Period). step_rows s b.shape (intervals s q f) b.programme.varying) (periods_are s net)) refl)
      ∙ sym (ap (λ (r : Result StepFile). allows_read s net r plan) read)

-- the build keeps the sentinel that was picked
pub passed_here : (s : Sentinel) (net : Network) (f : StepFile) (j : Intervals)
    → ordered (programme_of s net).programme.sentinel (has_binary_row (programme_of s net).shape.node_rows)
    (intervals (programme_of s net).programme.sentinel (periods (programme_of s net).shape) f) ≡ value j
    → ordered s (has_binary_row (programme_of s net).shape.node_rows) (intervals s (periods (programme_of s net).shape) f) ≡ value j
unfolding programme_of assemble
passed_here s net f j e = e

-- "the programme admits each flow plan exactly when the network allows that plan under the last accepted step"
pub correspondence : Correspondence
unfolding programme_admits network_allows allows_under Reached
correspondence network_file s old words numbers net parsed accepted factors calls any plan =
    let sound : Sound net = read_sound network_file net parsed in
    let built = build_accepted s net old network_file words numbers parsed accepted in
    let b : Built = programme_of s net in
    let store : Store = build_store s network_file old words numbers in
    let held : Represents store b = build_represents s net old network_file words numbers sound built in
    let ts : List Report = reports store calls in
    let file = last_some ts none (of_true (any_accepted ts) any) in
    let u : Reached store b held (some file.0) (store_after store calls) = subst (λ (o : Option (List ℕ)). Reached store b held o (store_after store calls))
    file.1 (run store b held calls store none refl) in
    let read : read_by net file.0 ≡ value u.0 = sym (read_alike s net file.0) ∙ u.1 in
    ap₂ (λ (r : Result Network) (q : Store). programme_admits r q plan) parsed u.2
    ∙ ap (λ (p : Programme). admits (column_map net) p plan) (programme_back (store_of_step store (value u.0)) (after store b held u.0) (after_held store b held u.0))
    ∙ file_meets s net sound (of_true (factors_in1024ths net) factors) plan file.0 u.0 u.3 read (passed_here s net u.0 u.3 u.4)
    ∙ sym (ap (λ (r : Result Network). network_allows r s ts plan) parsed ∙ ap (λ (o : Option (List ℕ)). allows_under s net o plan) file.1)

-- whole factors are a special case
pub whole_correspondence : CorrespondenceWhere factors_whole
whole_correspondence network_file s old words numbers net parsed accepted whole calls any plan =
    correspondence network_file s old words numbers net parsed accepted (whole_in_1024ths net whole) calls any plan
