-- A step file that was read: every interval that the step applies is one of doubles, there are as many as aggregates and virtual storages, and no virtual
-- storage's is crossed. Assumes nothing.
use mathlib.Core.Path.{◌≡◌, refl, sym, ap, ◌∙◌, subst}
use Prim.Native.Nat.{ℕ, zero, suc, ◌+◌}
use native.Mathlib.Nat.{add-zero}
use native.Mathlib.Omega.{arith}
use mathlib.Core.Bool.{Bool, true, false, cond, not, ◌||◌}
use mathlib.Core.List.Memᴰ
use mathlib.Core.List.{List, [], ◌∷◌, ◌++◌}
use mathlib.Core.Option.{Option, none, some}
use lib.ListN.{length, get_or, length-append, length-map}
use lib.Dec.{T}
use lib.Ieee.{Float}
use Rattle.pywr.specs.declared.Sentinel.{Sentinel}
use Rattle.pywr.specs.declared.Interval.{Interval}
use Rattle.pywr.specs.declared.NodeBounds.{NodeBounds}
use Rattle.pywr.specs.declared.NodeBounds.TheVariants.{Flow}
use Rattle.pywr.specs.Result.{value}
use Rattle.pywr.specs.Numbers.{is_flow, is_small, is_days, of_pattern}
use Rattle.pywr.specs.Network.{Period}
use Rattle.pywr.specs.NetworkFile.{Read}
use Rattle.pywr.specs.Programme.{NodeShape, Shape}
use Rattle.pywr.specs.Interval.{sentinels, storage_bounds}
use Rattle.pywr.specs.Period.{is_active, virtual_interval}
use Rattle.pywr.specs.StepFile.{NodeStep, StepFile, read_date, is_storage, bound_fits, volume_fits, bounds_read}
use Rattle.pywr.specs.StepFile.{read_node_step, read_node_steps, read_aggregate_step, read_aggregate_steps, read_virtual_storage_step, read_virtual_storage_steps, read_step}
use Rattle.pywr.specs.StepIntervals.{intervals, node_interval, node_intervals, virtual_storage_intervals, Intervals}
use Rattle.pywr.specs.Step.{period_of, periods}
use Rattle.pywr.specs.Uncrossed.{Uncrossed}
use Rattle.pywr.proofs.BoundLaws.{IsInterval}
use Rattle.pywr.proofs.NumberLaws.{flow_bound, small_is, Divisor, days_is, storage_interval_lem, virtual_interval_lem, virtual_uncrossed, flow_interval}
use Rattle.pywr.proofs.VaryingLaws.{sentinels_interval}
use Rattle.pywr.proofs.RunLaws.{bind_then, bind_value, need_value}
use Rattle.pywr.proofs.ListLaws.{AllMem, all_none, all_cons, all_snoc}
use Rattle.pywr.proofs.ReadLaws.{same_value, checked_value}

-- ---- the date

read_date_lem : (file : List ℕ) (r : Read StepFile) → read_date file ≡ value r → Divisor r.item.days
unfolding read_date
read_date_lem file r e =
    bind_then _ _ r e (λ a a-is e. bind_then _ _ r e (λ b b-is e. bind_then _ _ r e (λ c c-is e. bind_then _ _ r e (λ d d-is e.
    subst (λ (q : Read StepFile). Divisor q.item.days) (same_value _ r e) (days_is d (checked_value 13 a is_days _ d d-is))))))

-- ---- nodes: whatever the days

-- a node's bounds give an interval under any step's days
abbrev pub BoundsOk : Option NodeBounds → Type 0
BoundsOk o = (s : Sentinel) (days : Float) → Divisor days → IsInterval (node_interval s days o)

bounds_ok : (c st : Bool) (min max now : ℕ) → T (c || cond st (is_small min) (is_flow min)) → T (c || cond st (is_small max) (is_flow max)) → T (not st || is_small now)
    → BoundsOk (cond {A = Option NodeBounds} c none
    (cond {A = Option NodeBounds} st (some (storage_bounds (of_pattern min) (of_pattern max) (of_pattern now))) (some (Flow (of_pattern min) (of_pattern max)))))
unfolding node_interval
bounds_ok true st min max now hmin hmax hnow s days d = sentinels_interval s
bounds_ok false true min max now hmin hmax hnow s days d = storage_interval_lem days (of_pattern min) (of_pattern max) (of_pattern now) d (small_is min hmin) (small_is max hmax) (small_is now hnow)
bounds_ok false false min max now hmin hmax hnow s days d = flow_interval days (of_pattern min) (of_pattern max) (flow_bound min hmin) (flow_bound max hmax)

abbrev pub StepOk : NodeStep → Type 0
StepOk n = BoundsOk n.bounds

read_node_step_lem : (file : List ℕ) (n : NodeShape) (place : ℕ) (r : NodeStep) → read_node_step file n place ≡ value r → StepOk r
unfolding read_node_step bound_fits volume_fits bounds_read
read_node_step_lem file n place r e =
    bind_then _ _ r e (λ a a-is e. bind_then _ _ r e (λ b b-is e. bind_then _ _ r e (λ c c-is e. bind_then _ _ r e (λ d d-is e. bind_then _ _ r e (λ g g-is e.
    subst StepOk (same_value _ r e)
    (bounds_ok n.constant (is_storage n) c d g
    (checked_value 13 a (bound_fits n) _ c c-is)
    (checked_value 13 a (bound_fits n) _ d d-is)
    (checked_value 13 a (volume_fits n) _ g g-is)))))))

read_node_steps_lem : (file : List ℕ) (ns : List NodeShape) (so_far : List NodeStep) (at : ℕ) (r : Read (List NodeStep)) → read_node_steps file ns so_far at ≡ value r
    → AllMem StepOk so_far → AllMem StepOk r.item
unfolding read_node_steps
read_node_steps_lem file [] so_far at r e h = subst (λ (q : Read (List NodeStep)). AllMem StepOk q.item) (same_value _ r e) h
read_node_steps_lem file (n ∷ ns) so_far at r e h =
    let a = bind_value _ _ r e in
    read_node_steps_lem file ns (so_far ++ (a.0 ∷ [])) (at + 34) r a.2 (all_snoc StepOk so_far a.0 h (read_node_step_lem file n at a.0 a.1))

nodes_count : (file : List ℕ) (ns : List NodeShape) (so_far : List NodeStep) (at : ℕ) (r : Read (List NodeStep)) → read_node_steps file ns so_far at ≡ value r
    → length r.item ≡ length so_far + length ns
unfolding read_node_steps
nodes_count file [] so_far at r e = ap (λ (q : Read (List NodeStep)). length q.item) (sym (same_value _ r e)) ∙ sym (add-zero (length so_far))
nodes_count file (n ∷ ns) so_far at r e =
    let a = bind_value _ _ r e in
    let l = length-append so_far (a.0 ∷ []) in
    nodes_count file ns (so_far ++ (a.0 ∷ [])) (at + 34) r a.2 ∙ (let k : length (so_far ++ (a.0 ∷ [])) + length ns ≡ length so_far + suc (length ns) = omega arith in k)

-- ---- aggregates

read_aggregate_lem : (file : List ℕ) (place : ℕ) (r : Interval) → read_aggregate_step file place ≡ value r → IsInterval r
unfolding read_aggregate_step
read_aggregate_lem file place r e =
    bind_then _ _ r e (λ a a-is e. bind_then _ _ r e (λ b b-is e. bind_then _ _ r e (λ c c-is e.
    subst IsInterval (same_value _ r e)
    (record { lower = flow_bound b (checked_value 13 a is_flow _ b b-is); upper = flow_bound c (checked_value 13 a is_flow _ c c-is) }))))

read_aggregates : (file : List ℕ) (count : ℕ) (so_far : List Interval) (at : ℕ) (r : Read (List Interval)) → read_aggregate_steps file count so_far at ≡ value r → AllMem IsInterval so_far
    → AllMem IsInterval r.item × (length r.item ≡ length so_far + count)
unfolding read_aggregate_steps
read_aggregates file zero so_far at r e h = subst (λ (q : Read (List Interval)). AllMem IsInterval q.item × (length q.item ≡ length so_far + 0))
    (same_value _ r e) (h, sym (add-zero (length so_far)))
read_aggregates file (suc count) so_far at r e h =
    let a = bind_value _ _ r e in
    let ih = read_aggregates file count (so_far ++ (a.0 ∷ [])) (at + 18) r a.2 (all_snoc IsInterval so_far a.0 h (read_aggregate_lem file at a.0 a.1)) in
    let l = length-append so_far (a.0 ∷ []) in
    (ih.0, ih.1 ∙ (let k : length (so_far ++ (a.0 ∷ [])) + count ≡ length so_far + suc count = omega arith in k))

-- ---- virtual storages

-- a virtual storage's bounds give an interval that is not crossed under any step's days
abbrev pub VolumeOk : NodeBounds → Type 0
VolumeOk b = (s : Sentinel) (days : Float) (active : Bool) → Divisor days → IsInterval (virtual_interval s days active b) × Uncrossed (virtual_interval s days active b)

read_store : (file : List ℕ) (place : ℕ) (r : NodeBounds) → read_virtual_storage_step file place ≡ value r → VolumeOk r
unfolding read_virtual_storage_step
read_store file place r e =
    bind_then _ _ r e (λ a a-is e. bind_then _ _ r e (λ b b-is e. bind_then _ _ r e (λ c c-is e. bind_then _ _ r e (λ d d-is e.
    subst VolumeOk (same_value _ r e)
    (let least = small_is b (checked_value 13 a is_small _ b b-is) in
    let most = small_is c (checked_value 13 a is_small _ c c-is) in
    let now = small_is d (checked_value 13 a is_small _ d d-is) in
    λ s days active k. (
      virtual_interval_lem s days (of_pattern b) (of_pattern c) (of_pattern d) active k least most now,
      virtual_uncrossed s days (of_pattern b) (of_pattern c) (of_pattern d) active k least most now,
    ))))))

read_virtual_storages : (file : List ℕ) (count : ℕ) (so_far : List NodeBounds) (at : ℕ) (r : Read (List NodeBounds)) → read_virtual_storage_steps file count so_far at ≡ value r → AllMem VolumeOk so_far
    → AllMem VolumeOk r.item × (length r.item ≡ length so_far + count)
unfolding read_virtual_storage_steps
read_virtual_storages file zero so_far at r e h = subst (λ (q : Read (List NodeBounds)). AllMem VolumeOk q.item × (length q.item ≡ length so_far + 0))
    (same_value _ r e) (h, sym (add-zero (length so_far)))
read_virtual_storages file (suc count) so_far at r e h =
    let a = bind_value _ _ r e in
    let ih = read_virtual_storages file count (so_far ++ (a.0 ∷ [])) (at + 26) r a.2 (all_snoc VolumeOk so_far a.0 h (read_store file at a.0 a.1)) in
    let l = length-append so_far (a.0 ∷ []) in
    (ih.0, ih.1 ∙ (let k : length (so_far ++ (a.0 ∷ [])) + count ≡ length so_far + suc count = omega arith in k))

-- ---- the whole file

pub record StepSound (aggregates virtual_storages : ℕ) (f : StepFile) : Type 0 where
  pub days : Divisor f.days
  pub nodes : AllMem StepOk f.nodes
  pub groups : AllMem IsInterval f.aggregates
  pub aggregate_count : length f.aggregates ≡ aggregates
  pub stores : AllMem VolumeOk f.virtual_storages
  pub store_count : length f.virtual_storages ≡ virtual_storages

pub step_sound : (shapes : List NodeShape) (aggregates virtual_storages : ℕ) (file : List ℕ) (f : StepFile)
    → read_step shapes aggregates virtual_storages file ≡ value f → StepSound aggregates virtual_storages f
unfolding read_step
step_sound shapes aggregates virtual_storages file f e =
    bind_then _ _ f e (λ a a-is e. bind_then _ _ f e (λ b b-is e. bind_then _ _ f e (λ c c-is e. bind_then _ _ f e (λ d d-is e.
    let g = read_aggregates file aggregates [] b.next c c-is (all_none IsInterval) in
    let h = read_virtual_storages file virtual_storages [] c.next d d-is (all_none VolumeOk) in
    let gl : length c.item ≡ 0 + aggregates = g.1 in
    let hl : length d.item ≡ 0 + virtual_storages = h.1 in
    subst (StepSound aggregates virtual_storages) (need_value _ 12 d.next _ f e)
    (record {
      days = read_date_lem file a a-is;
      nodes = read_node_steps_lem file shapes [] a.next b b-is (all_none StepOk);
      groups = g.0;
      aggregate_count = omega arith;
      stores = h.0;
      store_count = omega arith;
    })))))

-- a step has one entry for each node
pub step_nodes : (shapes : List NodeShape) (aggregates virtual_storages : ℕ) (file : List ℕ) (f : StepFile)
    → read_step shapes aggregates virtual_storages file ≡ value f → length f.nodes ≡ length shapes
unfolding read_step
step_nodes shapes aggregates virtual_storages file f e =
    bind_then _ _ f e (λ a a-is e. bind_then _ _ f e (λ b b-is e. bind_then _ _ f e (λ c c-is e. bind_then _ _ f e (λ d d-is e.
    let l : length b.item ≡ 0 + length shapes = nodes_count file shapes [] a.next b b-is in
    ap (λ (g : StepFile). length g.nodes) (sym (need_value _ 12 d.next _ f e)) ∙ (let k : length b.item ≡ length shapes = omega arith in k)))))

-- ---- the intervals

pub node_intervals_long : (s : Sentinel) (days : Float) (ns : List NodeStep) → length (node_intervals s days ns) ≡ length ns
unfolding node_intervals
node_intervals_long s days [] = refl
node_intervals_long s days (n ∷ ns) = ap suc (node_intervals_long s days ns)

pub at_interval : (s : Sentinel) (is : List Interval) (n : ℕ) → AllMem IsInterval is → IsInterval (get_or is n (sentinels s))
at_interval s [] n h = sentinels_interval s
at_interval s (i ∷ is) zero h = h i (Memᴰ.head refl)
at_interval s (i ∷ is) (suc n) h = at_interval s is n (λ x m. h x (Memᴰ.tail m))

node_sound : (s : Sentinel) (days : Float) → Divisor days → (ns : List NodeStep) → AllMem StepOk ns → AllMem IsInterval (node_intervals s days ns)
unfolding node_intervals
node_sound s days d [] h = all_none IsInterval
node_sound s days d (n ∷ ns) h =
    all_cons IsInterval _ (node_intervals s days ns) (h n (Memᴰ.head refl) s days d) (node_sound s days d ns (λ x m. h x (Memᴰ.tail m)))

store_sound : (s : Sentinel) (f : StepFile) → Divisor f.days → (ps : List Period) (bs : List NodeBounds) → length ps ≡ length bs → AllMem VolumeOk bs
    → AllMem IsInterval (virtual_storage_intervals s f ps bs) × AllMem Uncrossed (virtual_storage_intervals s f ps bs) × (length (virtual_storage_intervals s f ps bs) ≡ length ps)
unfolding virtual_storage_intervals
store_sound s f d [] bs l h = (all_none IsInterval, all_none Uncrossed, refl)
store_sound s f d (p ∷ ps) [] l h = let z : suc (length ps) ≡ 0 = l in absurd (omega arith)
store_sound s f d (p ∷ ps) (b ∷ bs) l h =
    let ih = store_sound s f d ps bs (let z : suc (length ps) ≡ suc (length bs) = l in omega arith) (λ x m. h x (Memᴰ.tail m)) in
    let here = h b (Memᴰ.head refl) s f.days (is_active p f.month f.day) d in (
      all_cons IsInterval _ (virtual_storage_intervals s f ps bs) here.0 ih.0,
      all_cons Uncrossed _ (virtual_storage_intervals s f ps bs) here.1 ih.1,
      ap suc ih.2,
    )

pub record IntervalsOk (aggregates virtual_storages : ℕ) (i : Intervals) : Type 0 where
  pub nodes : AllMem IsInterval i.nodes
  pub aggregates_are : AllMem IsInterval i.aggregates
  pub aggregate_count : length i.aggregates ≡ aggregates
  pub virtual_storages_are : AllMem IsInterval i.virtual_storages
  pub virtual_storages_uncrossed : AllMem Uncrossed i.virtual_storages
  pub virtual_storage_count : length i.virtual_storages ≡ virtual_storages

-- a shape has one period for each virtual storage
pub shape_periods_length : (shape : Shape) → length (periods shape) ≡ length shape.virtual_storages
unfolding periods
shape_periods_length shape = length-map shape.virtual_storages period_of

pub intervals_sound : (s : Sentinel) (ps : List Period) (aggregates virtual_storages : ℕ) (f : StepFile) → length ps ≡ virtual_storages → StepSound aggregates virtual_storages f
    → IntervalsOk aggregates virtual_storages (intervals s ps f)
unfolding intervals
intervals_sound s ps aggregates virtual_storages f long ok =
    let v = store_sound s f ok.days ps f.virtual_storages (long ∙ sym ok.store_count) ok.stores in
    record {
      nodes = node_sound s f.days ok.days f.nodes ok.nodes;
      aggregates_are = ok.groups;
      aggregate_count = ok.aggregate_count;
      virtual_storages_are = v.0;
      virtual_storages_uncrossed = v.1;
      virtual_storage_count = v.2 ∙ long;
    }
