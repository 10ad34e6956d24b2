-- Under one step's intervals, a programme with the build's fixed rows and the step's varying rows admits a plan exactly if the network allows it. Assumes nothing.
use mathlib.Core.Path.{◌≡◌, refl, sym, ap, ap₂, ◌∙◌, subst}
use mathlib.Core.Logic.{◌↔◌}
use Prim.Native.Nat.{ℕ, zero, suc, ◌+◌, ◌*◌, ◌<◌, ◌≤◌, zero-le}
use native.Mathlib.Nat.{zero-add, lt_of_le_of_lt, mul-le-mul}
use native.Mathlib.Omega.{arith}
use mathlib.Core.Bool.{Bool, cond, not, ◌&&◌, ◌||◌}
use mathlib.Core.List.Memᴰ
use mathlib.Core.List.{List, [], ◌∷◌, ◌++◌, map, Memᴰ}
use mathlib.Core.Option.{some}
use lib.ListN.{length, get_or, get_elem?}
use lib.IntN.{ℤ}
use lib.Dec.{T, T_not, eqb, leb, eqb→eq, lit<}
use lib.Ieee.{neg}
use lib.Ieee.Fits.{and_i, and_l, and_r, eq→eqb}
use Rattle.laws.proofs.Tests.{or_l, or_r, or_elim, by_cases, cond_yes, cond_no}
use Rattle.pywr.specs.declared.Sentinel.{Sentinel}
use Rattle.pywr.specs.declared.Interval.{Interval}
use Rattle.pywr.specs.Numbers.{one64}
use Rattle.pywr.specs.Network.{link, Node, Aggregate, VirtualStorage, Network, no_node, kind_of, is_exclusive}
use Rattle.pywr.specs.ColEdgeMap.{MappedEdge, mapped_edges}
use Rattle.pywr.specs.ExclusiveSets.{exclusive_sets, set_number, sets_with_node}
use Rattle.pywr.specs.Rows.{ColumnMap, column_map, node_row, aggregate_row, virtual_storage_row, upper_row, lower_row}
use Rattle.pywr.specs.Programme.{Column, Row, Programme}
use Rattle.pywr.specs.VaryingRows.{exclusive_requests, requests_by_sets}
use Rattle.pywr.specs.FixedRows.{mass_rows_from, constant_rows_from, exclusivity_rows}
use Rattle.pywr.specs.Build.{all_columns, assemble, programme_of}
use Rattle.pywr.specs.Interval.{sentinels}
use Rattle.pywr.specs.StepIntervals.{Intervals, is_binary}
use Rattle.pywr.specs.BinaryRows.{coefficient_of}
use Rattle.pywr.specs.Plans.{meets, Plan, times_one, all_from}
use Rattle.pywr.specs.Allows.{allows, inflow, outflow, node_amount, sets_amount, parts_sum, balanced, own_interval}
use Rattle.pywr.specs.Allows.{node_meets, aggregate_meets, virtual_storage_meets, exclusive_meets, varying_exclusive_meets, member_meets, sets_meet, on_count, exclusivity_meets}
use Rattle.pywr.specs.Admits.{admits, carried, equal_in_column, row_sum, row_met, column_met}
use Rattle.pywr.specs.Correspondence.{factors_in1024ths}
use Rattle.pywr.proofs.AmountLaws.{Carries, memberships, aggregate_sum, virtual_storage_sum}
use Rattle.pywr.proofs.EvenLaws.{Balanced, balanced_even, carries}
use Rattle.pywr.proofs.MassLaws.{Every, every_append, Met, every_met, Joined, mass_met}
use Rattle.pywr.proofs.BinaryRowLaws.{MetWith}
use Rattle.pywr.proofs.SetLaws.{number_found}
use Rattle.pywr.proofs.ListLaws.{AllMem, all_cons, found_mem, mem_found, found_get, below_found, all_at}
use Rattle.pywr.proofs.StepReadLaws.{IntervalsOk}
use Rattle.pywr.proofs.MembershipLaws.{From, set_from, from_known, membership_sound, unlisted, exclusive_listed, listed_none}
use Rattle.pywr.proofs.SteppedLaws.{stepped_rows, ContinuousMet, BinaryMet, asked_at, AllRanged, nodes_asked, bounds_met, step_met}
use Rattle.pywr.proofs.ReadLaws.{SetOk, Sound}
use Rattle.pywr.proofs.FitLaws.{varying_asks, columns_long}
use Rattle.pywr.proofs.FactorLaws.{limit_in1024ths, part_factors, parts_room}
use Rattle.pywr.proofs.FixedLaws.{bounds, room, node_amount_lem, varying_exclusive_rule, ConstantMet, constant_met, active_met, columns_met}

-- ---- lists

pub kind_found : (xs : List Node) (n : ℕ) → T (eqb (kind_of xs n) link) → (x : Node) × (get_elem? xs n ≡ some x) × T (eqb x.kind link)
unfolding kind_of no_node
kind_found [] n t = absurd t
kind_found (y ∷ ys) zero t = (y, refl, t)
kind_found (y ∷ ys) (suc n) t = kind_found ys n t

module _ (w : Sentinel) (f : ColumnMap) (plan : Plan) (is : List Interval) (n : ℕ) where
  -- an exclusive node asks for no row that an interval tightens
  continuous_none : (ks : List ℕ) → Every (ContinuousMet w f plan is) (exclusive_requests f n ks)
  unfolding exclusive_requests is_binary
  continuous_none [] = tt
  continuous_none (k ∷ ks) = (λ t. absurd t, (λ t. absurd t, continuous_none ks))

  abbrev at : Interval
  at = get_or is n (sentinels w)

  each_set : (P : ℕ → Type 0)
      → ((k : ℕ) → (MetWith f plan w (f.edge_columns + k) (upper_row f n k one64) at.upper × MetWith f plan w (f.edge_columns + k) (lower_row f n k (neg one64)) (neg at.lower)) ↔ P k)
      → (ks : List ℕ) → Every (BinaryMet w f plan is) (exclusive_requests f n ks) ↔ ((k : ℕ) → Memᴰ k ks → P k)
  unfolding exclusive_requests is_binary coefficient_of
  each_set P h [] = (λ g k m. absurd (Memᴰ.not-nil m), λ g. tt)
  each_set P h (k ∷ ks) =
      let ih = each_set P h ks in (
        λ g. all_cons P k ks ((h k).0 (g.0 tt, g.1.0 tt)) (ih.0 g.1.1),
        λ g. let r = (h k).1 (g k (Memᴰ.head refl)) in (λ t. r.0, (λ t. r.1, ih.1 (λ j m. g j (Memᴰ.tail m)))),
      )

-- ---- the rooms

pub memberships_few : (n : ℕ) (ss : List (List ℕ)) → AllMem (SetOk n) ss → memberships ss ≤ length ss * 16
unfolding memberships
memberships_few n [] ok = zero-le
memberships_few n (s ∷ ss) ok =
    let a = (ok s (Memᴰ.head refl)).small in
    let b = memberships_few n ss (λ t m. ok t (Memᴰ.tail m)) in
    omega arith

-- ---- the network's side of exclusive sets

module _ (w : Sentinel) (net : Network) (i : Intervals) (plan : Plan) where
  -- the test of a member, by whether its node's bounds are constant
  abbrev member_test : List ℕ → ℕ → Node → Bool
  member_test s m x = cond x.constant exclusive_meets varying_exclusive_meets (plan.on s) (own_interval w i m x) (node_amount net plan m)

  abbrev MemberRule : List ℕ → ℕ → Type 0
  MemberRule s m = T (member_test s m (get_or net.nodes m no_node))

  member_rule : (s ms : List ℕ) → T (member_meets w net i plan s ms) ↔ AllMem (MemberRule s) ms
  unfolding member_meets
  member_rule s [] = (λ h m k. absurd (Memᴰ.not-nil k), λ h. tt)
  member_rule s (m ∷ ms) =
      let a : Bool = member_test s m (get_or net.nodes m no_node) in
      let b : Bool = member_meets w net i plan s ms in
      let ih = member_rule s ms in
      (λ h. all_cons (MemberRule s) m ms (and_l a b h) (ih.0 (and_r a b h)), λ h. and_i a b (h m (Memᴰ.head refl)) (ih.1 (λ k j. h k (Memᴰ.tail j))))

  sets_rule : (ss : List (List ℕ)) → T (sets_meet w net i plan ss) ↔ AllMem (λ (s : List ℕ). AllMem (MemberRule s) s) ss
  unfolding sets_meet
  sets_rule [] = (λ h m k. absurd (Memᴰ.not-nil k), λ h. tt)
  sets_rule (s ∷ ss) =
      let a : Bool = member_meets w net i plan s s in
      let b : Bool = sets_meet w net i plan ss in
      let one = member_rule s s in
      let ih = sets_rule ss in (
        λ h. all_cons (λ (t : List ℕ). AllMem (MemberRule t) t) s ss (one.0 (and_l a b h)) (ih.0 (and_r a b h)),
        λ h. and_i a b (one.1 (h s (Memᴰ.head refl))) (ih.1 (λ k j. h k (Memᴰ.tail j))),
      )

-- ---- both sides, where each edge's column carries its amount

module _ (w : Sentinel) (net : Network) (sound : Sound net) (factors : T (factors_in1024ths net)) (plan : Plan) (i : Intervals)
    (ok : IntervalsOk (length net.aggregates) (length net.virtual_storages) i) (ranged : AllRanged w net i) (each : Carries net plan) where
  abbrev f : ColumnMap
  f = column_map net

  abbrev At : {A : Type 0} → List A → (ℕ → A → Type 0) → Type 0
  At {A} xs P = (n : ℕ) (x : A) → get_elem? xs n ≡ some x → P n x

  abbrev of_nodes : ℕ → Interval
  of_nodes n = get_or i.nodes n (sentinels w)

  aggregate_amount : (a : Aggregate) → Memᴰ a net.aggregates → row_sum f plan (aggregate_row f a) ≡ times_one (sets_amount net plan a.sets)
  aggregate_amount a m =
      let g = sound.good.aggregates a m in
      let few = g.few in
      let l = memberships_few (length net.nodes) a.sets g.sets in
      let e = sound.good.edge_count in
      let x : memberships a.sets ≤ 256 = omega arith in
      let y : length net.edges * 1 + length net.edges * 1 ≤ 1024 = omega arith in
      aggregate_sum net plan (columns_long net) each a (lt_of_le_of_lt (mul-le-mul x y) (lit< tt))

  virtual_storage_amount : (n : ℕ) (v : VirtualStorage) → get_elem? net.virtual_storages n ≡ some v → row_sum f plan (virtual_storage_row f v) ≡ parts_sum net plan v.parts
  virtual_storage_amount n v e = virtual_storage_sum net plan (columns_long net) each limit_in1024ths v (part_factors net sound n v e factors) (parts_room net sound n v e)

  abbrev on_set : ℕ → Bool
  on_set k = plan.on (get_or f.sets k [])

  abbrev SetMeets : ℕ → ℕ → Type 0
  SetMeets n k = T (varying_exclusive_meets (on_set k) (of_nodes n) (node_amount net plan n))

  -- the rule of each varying node in each set that lists it
  abbrev VaryingExclusiveMet : Type 0
  VaryingExclusiveMet = At net.nodes (λ n x. T (not x.constant) → (k : ℕ) → Memᴰ k (sets_with_node n 0 f.sets) → SetMeets n k)

  -- the varying rows
  record VaryingMet : Type 0 where
    nodes : At net.nodes (λ n x. T (not x.constant) → T (not (is_exclusive net.aggregates n)) → T (meets w (of_nodes n) (times_one (node_amount net plan n))))
    varying_exclusive : VaryingExclusiveMet
    aggregates : At net.aggregates (λ n a. T (aggregate_meets w net i plan n a))
    virtual_storages : At net.virtual_storages (λ n v. T (virtual_storage_meets w net i plan n v))

  -- what the varying nodes ask for
  unlisted_continuous : (n : ℕ) (ks : List ℕ)
      → Every (ContinuousMet w f plan i.nodes) (requests_by_sets f n ks) ↔ (ks ≡ [] → T (meets w (of_nodes n) (row_sum f plan (node_row f n))))
  unfolding requests_by_sets is_binary
  unlisted_continuous n [] = (λ h e. h.0 tt, λ h. (λ t. h refl, tt))
  unlisted_continuous n (k ∷ ks) = (λ h e. absurd (cons_not_nil e), λ h. exclusive_continuous (k ∷ ks))
    where
      cons_not_nil : k ∷ ks ≡ [] → ⊥
      cons_not_nil e = Memᴰ.not-nil (subst (λ (l : List ℕ). Memᴰ k l) e (Memᴰ.head refl))

      exclusive_continuous : (js : List ℕ) → Every (ContinuousMet w f plan i.nodes) (exclusive_requests f n js)
      exclusive_continuous js = continuous_none w f plan i.nodes n js

  listed_set : (n : ℕ) (ks : List ℕ) → Every (BinaryMet w f plan i.nodes) (requests_by_sets f n ks) ↔ ((k : ℕ) → Memᴰ k ks → SetMeets n k)
  unfolding requests_by_sets is_binary
  listed_set n [] = (λ h k m. absurd (Memᴰ.not-nil m), λ h. (λ t. absurd t, tt))
  listed_set n (k ∷ ks) = all (k ∷ ks)
    where
      all : (js : List ℕ) → Every (BinaryMet w f plan i.nodes) (exclusive_requests f n js) ↔ ((k : ℕ) → Memᴰ k js → SetMeets n k)
      all js = each_set w f plan i.nodes n (λ k. SetMeets n k) (λ k. varying_exclusive_rule w net sound plan each n k (of_nodes n)) js

  varying_is : T (all_from (row_met w f plan) 0 (stepped_rows w net i)) ↔ VaryingMet
  unfolding aggregate_meets virtual_storage_meets column_map
  varying_is =
      let n1 = nodes_asked w net sound i ok ranged plan in
      let n2 = varying_asks f (ContinuousMet w f plan i.nodes) net.nodes in
      let s2 = varying_asks f (BinaryMet w f plan i.nodes) net.nodes in
      let g = asked_at w f plan (aggregate_row f) net.aggregates i.aggregates (sym ok.aggregate_count) in
      let v = asked_at w f plan (virtual_storage_row f) net.virtual_storages i.virtual_storages (sym ok.virtual_storage_count) in (
        λ h.
            let t = (step_met w net sound i ok ranged plan).0 h in
            let r = (bounds_met w net sound i ok ranged plan).0 t.0 in
            record {
              nodes = λ n x e c free.
                  subst (λ (z : ℤ). T (meets w (of_nodes n) z)) (node_amount_lem w net sound plan each n)
                  ((unlisted_continuous n (sets_with_node n 0 (exclusive_sets net))).0 (n2.0 (n1.0 r.0) n x e c) (unlisted net n free));
              varying_exclusive = λ n x e c. (listed_set n (sets_with_node n 0 (exclusive_sets net))).0 (s2.0 t.1 n x e c);
              aggregates = λ n x e.
                  subst (λ (z : ℤ). T (meets w (get_or i.aggregates n (sentinels w)) z)) (aggregate_amount x (found_mem net.aggregates n x e)) (g.0 r.1 n x e);
              virtual_storages = λ n x e.
                  subst (λ (z : ℤ). T (meets w (get_or i.virtual_storages n (sentinels w)) z)) (virtual_storage_amount n x e) (v.0 r.2 n x e);
            },
        λ h.
            (step_met w net sound i ok ranged plan).1 (
              (bounds_met w net sound i ok ranged plan).1 (
                n1.1 (n2.1 (λ n x e c.
                    (unlisted_continuous n (sets_with_node n 0 (exclusive_sets net))).1
                    (λ q. subst (λ (z : ℤ). T (meets w (of_nodes n) z)) (sym (node_amount_lem w net sound plan each n)) (h.nodes n x e c (listed_none net n q))))),
                g.1 (λ n x e. subst (λ (z : ℤ). T (meets w (get_or i.aggregates n (sentinels w)) z)) (sym (aggregate_amount x (found_mem net.aggregates n x e))) (h.aggregates n x e)),
                v.1 (λ n x e. subst (λ (z : ℤ). T (meets w (get_or i.virtual_storages n (sentinels w)) z)) (sym (virtual_storage_amount n x e)) (h.virtual_storages n x e)),
              ),
              s2.1 (λ n x e c. (listed_set n (sets_with_node n 0 (exclusive_sets net))).1 (h.varying_exclusive n x e c)),
            ),
      )

  -- the fixed rows
  abbrev Level : ℕ → Node → Type 0
  Level n x = T (eqb x.kind link) → inflow net plan n ≡ outflow net plan n

  abbrev Counted : Aggregate → Type 0
  Counted a = T (leb a.min_active (on_count plan a.sets) && leb (on_count plan a.sets) a.max_active)

  record FixedMet : Type 0 where
    links : At net.nodes Level
    constants : At net.nodes (λ n x. T x.constant → ConstantMet w net sound plan each n x)
    counts : At net.aggregates (λ n a. T a.exclusive → Counted a)

  links_are : Every (Met w f plan) (mass_rows_from f 0 net.nodes) ↔ At net.nodes Level
  links_are =
      let m = mass_met w net sound.noself plan (columns_long net) each (room w net sound plan each) net.nodes 0
      (λ n x e t. subst (λ (k : ℕ). Joined net k) (sym (zero-add n)) (sound.links n x e t)) in (
        λ h n x e t. subst (λ (k : ℕ). inflow net plan k ≡ outflow net plan k) (zero-add n) (m.0 h n x e t),
        λ h. m.1 (λ n x e t. subst (λ (k : ℕ). inflow net plan k ≡ outflow net plan k) (sym (zero-add n)) (h n x e t)),
      )

  fixed_is : T (all_from (row_met w f plan) 0 (programme_of w net).programme.fixed) ↔ FixedMet
  unfolding programme_of assemble
  fixed_is =
      let mass : List Row = mass_rows_from f 0 net.nodes in
      let cons : List Row = constant_rows_from w f 0 net.nodes in
      let exc : List Row = exclusivity_rows f net.aggregates in
      let all = every_met w f plan (mass ++ cons ++ exc) 0 in
      let cut = every_append (Met w f plan) (mass ++ cons) exc in
      let cut2 = every_append (Met w f plan) mass cons in
      let c = constant_met w net sound plan each in
      let a = active_met w net sound plan each in (
        λ h.
            let r = cut.0 (all.0 h) in
            let q = cut2.0 r.0 in
            record { links = links_are.0 q.0; constants = c.0 q.1; counts = a.0 r.1 },
        λ h. all.1 (cut.1 (cut2.1 (links_are.1 h.links, c.1 h.constants), a.1 h.counts)),
      )

  -- the network's side
  record NetworkMet : Type 0 where
    links : At net.nodes Level
    nodes : At net.nodes (λ n x. T (node_meets w net i plan n x))
    aggregates : At net.aggregates (λ n a. T (aggregate_meets w net i plan n a))
    virtual_storages : At net.virtual_storages (λ n v. T (virtual_storage_meets w net i plan n v))
    exclusives : At net.aggregates (λ n a. T (exclusivity_meets w net i plan n a))

  own_constant : (n : ℕ) (x : Node) → T x.constant → own_interval w i n x ≡ bounds x
  unfolding own_interval
  own_constant n x t = cond_yes x.constant (bounds x) (of_nodes n) t

  own_varying : (n : ℕ) (x : Node) → T (not x.constant) → own_interval w i n x ≡ of_nodes n
  unfolding own_interval
  own_varying n x t = cond_no x.constant (bounds x) (of_nodes n) t

  -- a member's rule, by whether its bounds are constant
  member_constant : (s : List ℕ) (m : ℕ) (x : Node) → get_elem? net.nodes m ≡ some x → T x.constant
      → MemberRule w net i plan s m ↔ T (exclusive_meets (plan.on s) (bounds x) (node_amount net plan m))
  member_constant s m x e t =
      let is : member_test w net i plan s m (get_or net.nodes m no_node) ≡ exclusive_meets (plan.on s) (bounds x) (node_amount net plan m) =
      ap (λ (y : Node). member_test w net i plan s m y) (found_get net.nodes m x no_node e)
      ∙ ap (λ (g : Bool → Interval → ℤ → Bool). g (plan.on s) (own_interval w i m x) (node_amount net plan m)) (cond_yes x.constant exclusive_meets varying_exclusive_meets t)
      ∙ ap (λ (j : Interval). exclusive_meets (plan.on s) j (node_amount net plan m)) (own_constant m x t) in
      (λ h. subst T is h, λ h. subst T (sym is) h)

  member_varying : (s : List ℕ) (m : ℕ) (x : Node) → get_elem? net.nodes m ≡ some x → T (not x.constant)
      → MemberRule w net i plan s m ↔ T (varying_exclusive_meets (plan.on s) (of_nodes m) (node_amount net plan m))
  member_varying s m x e t =
      let is : member_test w net i plan s m (get_or net.nodes m no_node) ≡ varying_exclusive_meets (plan.on s) (of_nodes m) (node_amount net plan m) =
      ap (λ (y : Node). member_test w net i plan s m y) (found_get net.nodes m x no_node e)
      ∙ ap (λ (g : Bool → Interval → ℤ → Bool). g (plan.on s) (own_interval w i m x) (node_amount net plan m)) (cond_no x.constant exclusive_meets varying_exclusive_meets t)
      ∙ ap (λ (j : Interval). varying_exclusive_meets (plan.on s) j (node_amount net plan m)) (own_varying m x t) in
      (λ h. subst T is h, λ h. subst T (sym is) h)

  abbrev Rules : Type 0
  Rules = (s : List ℕ) → From net.aggregates s → (m : ℕ) → Memᴰ m s → MemberRule w net i plan s m

  rows_rules : At net.nodes (λ n x. T x.constant → ConstantMet w net sound plan each n x) → VaryingExclusiveMet → Rules
  unfolding column_map
  rows_rules h g s from m k =
      let under : m < length net.nodes = ((sound.good.aggregates from.aggregate from.known).sets s from.has).members m k in
      let b = below_found net.nodes m under in
      let here : get_or (exclusive_sets net) (set_number s (exclusive_sets net)) [] ≡ s = number_found s (exclusive_sets net) (from_known net s from) in
      let listed = exclusive_listed net m s from k in
      by_cases b.0.constant
      (λ t.
      (member_constant s m b.0 b.1 t).1
      (subst (λ (u : List ℕ). T (exclusive_meets (plan.on u) (bounds b.0) (node_amount net plan m))) here
      ((h m b.0 b.1 t).exclusive (set_number s (exclusive_sets net)) listed)))
      (λ t.
      (member_varying s m b.0 b.1 t).1
      (subst (λ (u : List ℕ). T (varying_exclusive_meets (plan.on u) (of_nodes m) (node_amount net plan m))) here
      (g m b.0 b.1 t (set_number s (exclusive_sets net)) listed)))

  -- the set of a number that lists a node
  record SetListing (n k : ℕ) : Type 0 where
    set : List ℕ
    from : From net.aggregates set
    member : Memᴰ n set
    is : get_or (exclusive_sets net) k [] ≡ set

  set_listing : (n k : ℕ) → Memᴰ k (sets_with_node n 0 (exclusive_sets net)) → SetListing n k
  set_listing n k m =
      let r = membership_sound n 0 k (exclusive_sets net) m in
      record {
        set = r.set;
        from = set_from net r.set (found_mem (exclusive_sets net) r.at r.set r.found);
        member = r.member;
        is = ap (λ (j : ℕ). get_or (exclusive_sets net) j []) (r.where_at ∙ zero-add r.at) ∙ found_get (exclusive_sets net) r.at r.set [] r.found;
      }

  rules_rows : Rules → (n : ℕ) (x : Node) → get_elem? net.nodes n ≡ some x → T x.constant → (k : ℕ) → Memᴰ k (sets_with_node n 0 f.sets)
      → T (exclusive_meets (plan.on (get_or f.sets k [])) (bounds x) (node_amount net plan n))
  unfolding column_map
  rules_rows h n x e t k m =
      let r = set_listing n k m in
      subst (λ (u : List ℕ). T (exclusive_meets (plan.on u) (bounds x) (node_amount net plan n))) (sym r.is)
      ((member_constant r.set n x e t).0 (h r.set r.from n r.member))

  rules_varying : Rules → VaryingExclusiveMet
  unfolding column_map
  rules_varying h n x e t k m =
      let r = set_listing n k m in
      subst (λ (u : List ℕ). T (varying_exclusive_meets (plan.on u) (of_nodes n) (node_amount net plan n))) (sym r.is)
      ((member_varying r.set n x e t).0 (h r.set r.from n r.member))

  abbrev Exclusives : Type 0
  Exclusives = At net.aggregates (λ n a. T (exclusivity_meets w net i plan n a))

  rules_sets : Rules → At net.aggregates (λ n a. T a.exclusive → Counted a) → Exclusives
  unfolding exclusivity_meets
  rules_sets h c n a e =
      let s : Bool = sets_meet w net i plan a.sets in
      let x : Bool = leb a.min_active (on_count plan a.sets) in
      let y : Bool = leb (on_count plan a.sets) a.max_active in
      by_cases a.exclusive
      (λ t.
      let q = c n a e t in
      let r = (sets_rule w net i plan a.sets).1 (λ u m k j. h u (record { aggregate = a; known = found_mem net.aggregates n a e; exclusive = t; has = m }) k j) in
      or_r (not a.exclusive) (s && x && y) (and_i (s && x) y (and_i s x r (and_l x y q)) (and_r x y q)))
      (λ t. or_l (not a.exclusive) (s && x && y) t)

  sets_counted : Exclusives → (n : ℕ) (a : Aggregate) → get_elem? net.aggregates n ≡ some a → T a.exclusive → T (sets_meet w net i plan a.sets) × Counted a
  unfolding exclusivity_meets
  sets_counted h n a e t =
      let s : Bool = sets_meet w net i plan a.sets in
      let x : Bool = leb a.min_active (on_count plan a.sets) in
      let y : Bool = leb (on_count plan a.sets) a.max_active in
      let r : T (s && x && y) = or_elim (not a.exclusive) (s && x && y) (h n a e) (λ k. absurd (T_not a.exclusive k t)) (λ k. k) in
      (and_l s x (and_l (s && x) y r), and_i x y (and_r s x (and_l (s && x) y r)) (and_r (s && x) y r))

  sets_rules : Exclusives → Rules
  sets_rules h s from m k =
      let j = mem_found net.aggregates from.aggregate from.known in
      (sets_rule w net i plan from.aggregate.sets).0 (sets_counted h j.0 from.aggregate j.1 from.exclusive).0 s from.has m k

  to_network : VaryingMet → FixedMet → NetworkMet
  unfolding node_meets
  to_network v g =
      record {
        links = g.links;
        nodes = λ n x e.
            let ex : Bool = is_exclusive net.aggregates n in
            let me : Bool = meets w (own_interval w i n x) (times_one (node_amount net plan n)) in
            by_cases ex (λ t. or_l ex me t)
            (λ t.
            or_r ex me
            (by_cases x.constant
            (λ c. subst (λ (j : Interval). T (meets w j (times_one (node_amount net plan n)))) (sym (own_constant n x c)) ((g.constants n x e c).plain t))
            (λ c. subst (λ (j : Interval). T (meets w j (times_one (node_amount net plan n)))) (sym (own_varying n x c)) (v.nodes n x e c t))));
        aggregates = v.aggregates;
        virtual_storages = v.virtual_storages;
        exclusives = rules_sets (rows_rules g.constants v.varying_exclusive) g.counts;
      }

  node_held : NetworkMet → (n : ℕ) (x : Node) → get_elem? net.nodes n ≡ some x → T (not (is_exclusive net.aggregates n)) → T (meets w (own_interval w i n x) (times_one (node_amount net plan n)))
  unfolding node_meets
  node_held h n x e t =
      let ex : Bool = is_exclusive net.aggregates n in
      or_elim ex (meets w (own_interval w i n x) (times_one (node_amount net plan n))) (h.nodes n x e) (λ u. absurd (T_not ex t u)) (λ u. u)

  to_varying : NetworkMet → VaryingMet
  to_varying h =
      record {
        nodes = λ n x e c t. subst (λ (j : Interval). T (meets w j (times_one (node_amount net plan n)))) (own_varying n x c) (node_held h n x e t);
        varying_exclusive = rules_varying (sets_rules h.exclusives);
        aggregates = h.aggregates;
        virtual_storages = h.virtual_storages;
      }

  to_fixed : NetworkMet → FixedMet
  to_fixed h =
      record {
        links = h.links;
        constants = λ n x e c.
            record {
              plain = λ t. subst (λ (j : Interval). T (meets w j (times_one (node_amount net plan n)))) (own_constant n x c) (node_held h n x e t);
              exclusive = rules_rows (sets_rules h.exclusives) n x e c;
            };
        counts = λ n a e t. (sets_counted h.exclusives n a e t).1;
      }

  rows_are : (T (all_from (row_met w f plan) 0 (stepped_rows w net i)) × T (all_from (row_met w f plan) 0 (programme_of w net).programme.fixed)) ↔ NetworkMet
  rows_are = (λ h. to_network (varying_is.0 h.0) (fixed_is.0 h.1), λ h. (varying_is.1 (to_varying h), fixed_is.1 (to_fixed h)))

-- ---- the two tests

module _ (w : Sentinel) (net : Network) (i : Intervals) (plan : Plan) where
  abbrev Links : Type 0
  Links = (n : ℕ) (x : Node) → get_elem? net.nodes n ≡ some x → T (eqb x.kind link) → inflow net plan n ≡ outflow net plan n

  links_test : T (all_from (balanced net plan) 0 net.nodes) ↔ Links
  unfolding balanced
  links_test =
      let a = all_at (balanced net plan) net.nodes 0 in (
        λ h n x e t.
            let r = subst (λ (k : ℕ). T (not (eqb x.kind link) || eqb (inflow net plan k) (outflow net plan k))) (zero-add n) (a.0 h n x e) in
            or_elim (not (eqb x.kind link)) (eqb (inflow net plan n) (outflow net plan n)) r (λ u. absurd (T_not (eqb x.kind link) u t)) (λ u. eqb→eq (inflow net plan n) (outflow net plan n) u),
        λ h.
            a.1 (λ n x e.
            subst (λ (k : ℕ). T (not (eqb x.kind link) || eqb (inflow net plan k) (outflow net plan k))) (sym (zero-add n))
            (by_cases (eqb x.kind link)
            (λ t. or_r (not (eqb x.kind link)) (eqb (inflow net plan n) (outflow net plan n)) (eq→eqb (h n x e t)))
            (λ t. or_l (not (eqb x.kind link)) (eqb (inflow net plan n) (outflow net plan n)) t))),
      )

  at_zero : {A : Type 0} (test : ℕ → A → Bool) (xs : List A) → T (all_from test 0 xs) ↔ ((n : ℕ) (x : A) → get_elem? xs n ≡ some x → T (test n x))
  at_zero test xs =
      let a = all_at test xs 0 in
      (λ h n x e. subst (λ (k : ℕ). T (test k x)) (zero-add n) (a.0 h n x e), λ h. a.1 (λ n x e. subst (λ (k : ℕ). T (test k x)) (sym (zero-add n)) (h n x e)))

  even_test : T (all_from (equal_in_column plan (mapped_edges net)) 0 (mapped_edges net)) ↔
      ((e : ℕ) (p : MappedEdge) → get_elem? (mapped_edges net) e ≡ some p → plan.amount e ≡ carried plan p.column 0 (mapped_edges net))
  unfolding equal_in_column
  even_test =
      let a = at_zero (equal_in_column plan (mapped_edges net)) (mapped_edges net) in
      (λ h n p e. eqb→eq (plan.amount n) (carried plan p.column 0 (mapped_edges net)) (a.0 h n p e), λ h. a.1 (λ n p e. eq→eqb (h n p e)))

module _ (w : Sentinel) (net : Network) (sound : Sound net) (factors : T (factors_in1024ths net)) (plan : Plan) (i : Intervals)
    (ok : IntervalsOk (length net.aggregates) (length net.virtual_storages) i) (ranged : AllRanged w net i) where
  -- what the rest of the network's side says, whatever the columns carry
  allowed : (each : Carries net plan) → T (allows w net i plan) ↔ NetworkMet w net sound factors plan i ok ranged each
  unfolding allows
  allowed each =
      let a : Bool = all_from (balanced net plan) 0 net.nodes in
      let b : Bool = all_from (node_meets w net i plan) 0 net.nodes in
      let c : Bool = all_from (aggregate_meets w net i plan) 0 net.aggregates in
      let d : Bool = all_from (virtual_storage_meets w net i plan) 0 net.virtual_storages in
      let e : Bool = all_from (exclusivity_meets w net i plan) 0 net.aggregates in
      let ta = links_test w net i plan in
      let tb = at_zero w net i plan (node_meets w net i plan) net.nodes in
      let tc = at_zero w net i plan (aggregate_meets w net i plan) net.aggregates in
      let td = at_zero w net i plan (virtual_storage_meets w net i plan) net.virtual_storages in
      let te = at_zero w net i plan (exclusivity_meets w net i plan) net.aggregates in (
        λ h.
            let h4 = and_l (a && b && c && d) e h in
            let h3 = and_l (a && b && c) d h4 in
            let h2 = and_l (a && b) c h3 in
            record {
              links = ta.0 (and_l a b h2);
              nodes = tb.0 (and_r a b h2);
              aggregates = tc.0 (and_r (a && b) c h3);
              virtual_storages = td.0 (and_r (a && b && c) d h4);
              exclusives = te.0 (and_r (a && b && c && d) e h);
            },
        λ h.
            and_i (a && b && c && d) e
            (and_i (a && b && c) d (and_i (a && b) c (and_i a b (ta.1 h.links) (tb.1 h.nodes)) (tc.1 h.aggregates)) (td.1 h.virtual_storages))
            (te.1 h.exclusives),
      )

  allows_balanced : T (allows w net i plan) → Balanced net plan
  unfolding allows
  allows_balanced h n t =
      let a : Bool = all_from (balanced net plan) 0 net.nodes in
      let b : Bool = all_from (node_meets w net i plan) 0 net.nodes in
      let c : Bool = all_from (aggregate_meets w net i plan) 0 net.aggregates in
      let d : Bool = all_from (virtual_storage_meets w net i plan) 0 net.virtual_storages in
      let e : Bool = all_from (exclusivity_meets w net i plan) 0 net.aggregates in
      let k = kind_found net.nodes n t in
      (links_test w net i plan).0 (and_l a b (and_l (a && b) c (and_l (a && b && c) d (and_l (a && b && c && d) e h)))) n k.0 k.1 k.2

  -- "the programme admits each flow plan exactly when the network allows that plan"
  pub step_meets : (p : Programme) → p.sentinel ≡ w
      → map (λ (c : Column). c.lower) p.columns ≡ map (λ (c : Column). c.lower) (all_columns w (column_map net))
      → map (λ (c : Column). c.upper) p.columns ≡ map (λ (c : Column). c.upper) (all_columns w (column_map net))
      → p.varying ≡ stepped_rows w net i
      → p.fixed ≡ (programme_of w net).programme.fixed
      → T (admits (column_map net) p plan) ↔ T (allows w net i plan)
  unfolding admits column_map
  step_meets p hs hl hu hv hf =
      let g : ColumnMap = column_map net in
      let a : Bool = all_from (equal_in_column plan (mapped_edges net)) 0 (mapped_edges net) in
      let b : Bool = all_from (column_met p.sentinel g plan) 0 p.columns in
      let c : Bool = all_from (row_met p.sentinel g plan) 0 p.varying in
      let d : Bool = all_from (row_met p.sentinel g plan) 0 p.fixed in
      let even = even_test w net i plan in
      let cv : c ≡ all_from (row_met w g plan) 0 (stepped_rows w net i) = ap₂ (λ (s : Sentinel) (rows : List Row). all_from (row_met s g plan) 0 rows) hs hv in
      let df : d ≡ all_from (row_met w g plan) 0 (programme_of w net).programme.fixed =
      ap₂ (λ (s : Sentinel) (rows : List Row). all_from (row_met s g plan) 0 rows) hs hf in (
        λ h.
            let h3 = and_l (a && b && c) d h in
            let h2 = and_l (a && b) c h3 in
            let each : Carries net plan = carries net plan sound.noself (even.0 (and_l a b h2)) in
            (allowed each).1 ((rows_are w net sound factors plan i ok ranged each).0 (subst T cv (and_r (a && b) c h3), subst T df (and_r (a && b && c) d h))),
        λ h.
            let bal : Balanced net plan = allows_balanced h in
            let level = balanced_even net plan sound.noself bal in
            let each : Carries net plan = carries net plan sound.noself level in
            let r = (rows_are w net sound factors plan i ok ranged each).1 ((allowed each).0 h) in
            let cols : T b = subst (λ (s : Sentinel). T (all_from (column_met s g plan) 0 p.columns)) (sym hs) (columns_met w g plan p.columns hl hu) in
            and_i (a && b && c) d (and_i (a && b) c (and_i a b (even.1 level) cols) (subst T (sym cv) r.0)) (subst T (sym df) r.1),
      )
