-- The edge out of a plain joint stands right behind the edge in, but where a closed ring starts: `FlowOrderPlaces`, proved. Assumes nothing.
use mathlib.Core.Path.{◌≡◌, refl, sym, ap, ◌∙◌, subst}
use mathlib.Core.Logic.{◌⊎◌, inl, inr, ◌≢◌, ∥∥₁_elim}
use mathlib.Core.HLevel.{⊥_prop}
use Prim.Native.Nat.{ℕ, zero, suc, ◌+◌, ◌<◌, ◌≤◌}
use native.Mathlib.Nat.{add-zero, add-suc, suc-add, lt_of_not-le}
use native.Mathlib.Decide.{ℕ_discrete, dec_le}
use native.Mathlib.Omega.{arith}
use mathlib.Core.Bool.{Bool, true, false, cond, not}
use mathlib.Core.List.{List, [], ◌∷◌, ◌++◌, append_assoc, Nodup, Nodup-nil, Nodup-cons}
use mathlib.Core.Option.{Option, none, some}
use lib.ListN.{length, get_elem?, length-append}
use lib.Dec.{T, T_not, not_T}
use Rattle.laws.proofs.Tests.{of_true, by_cases, cond_yes, cond_no}
use Rattle.laws.proofs.Pigeonhole.{pigeonhole}
use Rattle.pywr.specs.Network.{Edge, Network, listed}
use Rattle.pywr.specs.ColEdgeMap.{shares_with, column_of}
use Rattle.pywr.specs.FlowOrder.{edge_numbered, follow, is_none, starts_path, follow_all, paths, flow_order}
use Rattle.pywr.proofs.ListLaws.{not_found, same_some}
use Rattle.pywr.proofs.MembershipLaws.{listed_mem, mem_listed}
use Rattle.pywr.proofs.OnceLaws.{listed_left, listed_right, listed_here, listed_nil, listed_snoc, listed_last, Once, nothing, more}
use Rattle.pywr.proofs.LinkLaws.{prev_of, own_share, prev_once, prev_inside, NoSelf, columns_even}
use Rattle.pywr.proofs.TurnLaws.{column_is}
use Rattle.pywr.proofs.FlowLaws.{Good, good_none, good_after, good_room, next_below, follow_keeps, follow_has, flow_good, flow_all, flow_below}
use Rattle.pywr.proofs.ReadLaws.{read_sound}
use Rattle.theorem_file_order.specs.ColumnClasses.{PlainJoint}
use Rattle.theorem_file_order.proofs.Joints.{leaves, joint_shares, shares_joint}
use Rattle.theorem_costs.specs.FlowPlaces.{RightBehind, RingStart, FlowPlaces, FlowOrderPlaces}
use Rattle.theorem_costs.proofs.NextEdges.{next_of, next_prev, prev_next}

-- ---- lists

behind_more : (order rest : List ℕ) (x p : ℕ) → RightBehind order x p → RightBehind (order ++ rest) x p
behind_more order rest x p r =
    record { front = r.front; rest = r.rest ++ rest; is = ap (λ (l : List ℕ). l ++ rest) r.is ∙ append_assoc r.front (p ∷ x ∷ r.rest) rest }

behind_listed : (order : List ℕ) (x p : ℕ) → RightBehind order x p → T (listed p order)
behind_listed order x p r = subst (λ (l : List ℕ). T (listed p l)) (sym r.is) (listed_right p r.front (p ∷ x ∷ r.rest) (listed_here p (x ∷ r.rest)))

-- nothing stands behind the last, where no number stands twice
pub last_only : (init front rest : List ℕ) (l x : ℕ) → Once (init ++ l ∷ []) → init ++ l ∷ [] ≡ front ++ l ∷ x ∷ rest → ⊥
last_only [] front rest l x o e = let a = ap length e in let b = length-append front (l ∷ x ∷ rest) in omega arith
last_only (y ∷ init) [] rest l x (more f o) e =
    let same : y ≡ l = cc in
    f (subst (λ (k : ℕ). T (listed k (init ++ l ∷ []))) (sym same) (listed_last l init))
last_only (y ∷ init) (z ∷ front) rest l x (more f o) e = last_only init front rest l x o (let q : init ++ l ∷ [] ≡ front ++ l ∷ x ∷ rest = cc in q)

once_nodup : (xs : List ℕ) → Once xs → Nodup xs
once_nodup [] nothing = Nodup-nil
once_nodup (x ∷ xs) (more f o) = Nodup-cons.1 (λ m. ∥∥₁_elim m ⊥_prop (λ d. f (mem_listed x xs d)), once_nodup xs o)

-- ---- a walk

module _ (net : Network) (noself : NoSelf net) where
  abbrev size : ℕ
  size = length net.edges

  -- between two walks: whole columns are in the order
  record Between (order : List ℕ) : Type 0 where
    good : Good size order
    back : (x p : ℕ) → prev_of net x ≡ some p → T (listed x order) → T (listed p order)
    forth : (x p : ℕ) → prev_of net x ≡ some p → T (listed p order) → T (listed x order)
    stands : (x p : ℕ) → prev_of net x ≡ some p → T (listed x order) → RightBehind order x p ⊎ RingStart net x

  data Added (old : List ℕ) (start : ℕ) (order : List ℕ) (x : ℕ) : Type 0 where
    before : T (listed x old) → Added old start order x
    first : x ≡ start → Added old start order x
    then : (p : ℕ) → prev_of net x ≡ some p → RightBehind order x p → Added old start order x

  -- in a walk from `start`, the last edge being l
  record Walk (old : List ℕ) (start : ℕ) (order : List ℕ) (l : ℕ) : Type 0 where
    good : Good size order
    rest : List ℕ
    extends : order ≡ old ++ rest
    init : List ℕ
    ends : order ≡ init ++ l ∷ []
    fresh : T (listed l old) → ⊥
    added : (x : ℕ) → T (listed x order) → Added old start order x
    forth : (x p : ℕ) → prev_of net x ≡ some p → T (listed p order) → p ≢ l → T (listed x order)

  last_listed : (old : List ℕ) (start : ℕ) (order : List ℕ) (l : ℕ) → Walk old start order l → T (listed l order)
  last_listed old start order l w = subst (λ (k : List ℕ). T (listed l k)) (sym w.ends) (listed_last l w.init)

  begin : (old : List ℕ) (start : ℕ) → start < size → (T (listed start old) → ⊥) → Between old → Walk old start (old ++ start ∷ []) start
  begin old start h f b =
      record {
        good = good_after size start old h f b.good;
        rest = start ∷ [];
        extends = refl;
        init = old;
        ends = refl;
        fresh = f;
        added = λ x t. listed_snoc x start old t before first;
        forth = λ x p q t g. listed_snoc p start old t (λ u. listed_left x old (start ∷ []) (b.forth x p q u)) (λ r. absurd (g r));
      }

  step : (old : List ℕ) (start : ℕ) (order : List ℕ) (l x : ℕ) → next_of net l ≡ some x → (T (listed x order) → ⊥) → Walk old start order l
      → Walk old start (order ++ x ∷ []) x
  step old start order l x q f w =
      record {
        good = good_after size x order (next_below net (edge_numbered net l) x q) f w.good;
        rest = w.rest ++ x ∷ [];
        extends = ap (λ (k : List ℕ). k ++ x ∷ []) w.extends ∙ append_assoc old w.rest (x ∷ []);
        init = order;
        ends = refl;
        fresh = λ t. f (subst (λ (k : List ℕ). T (listed x k)) (sym w.extends) (listed_left x old w.rest t));
        added = λ y t.
            listed_snoc y x order t (λ u. longer y (w.added y u))
            (λ r. then l (ap (prev_of net) r ∙ prev) (subst (λ (k : ℕ). RightBehind (order ++ x ∷ []) k l) (sym r) here));
        forth = λ y p r t g. listed_snoc p x order t (λ u. onward y p r u (ℕ_discrete p l)) (λ s. absurd (g s));
      }
    where
      prev : prev_of net x ≡ some l
      prev = next_prev net l x (w.good.below l (last_listed old start order l w)) q

      here : RightBehind (order ++ x ∷ []) x l
      here = record { front = w.init; rest = []; is = ap (λ (k : List ℕ). k ++ x ∷ []) w.ends ∙ append_assoc w.init (l ∷ []) (x ∷ []) }

      longer : (y : ℕ) → Added old start order y → Added old start (order ++ x ∷ []) y
      longer y (before t) = before t
      longer y (first r) = first r
      longer y (then p r a) = then p r (behind_more order (x ∷ []) y p a)

      onward : (y p : ℕ) → prev_of net y ≡ some p → T (listed p order) → Dec (p ≡ l) → T (listed y (order ++ x ∷ []))
      onward y p r u (yes e) =
          let same : y ≡ x = prev_once net y x l (r ∙ ap {B = Option ℕ} some e) prev in
          subst (λ (k : ℕ). T (listed k (order ++ x ∷ []))) (sym same) (listed_last x order)
      onward y p r u (no g) = listed_left y order (x ∷ []) (w.forth y p r u g)

  record End (old : List ℕ) (start : ℕ) (order : List ℕ) : Type 0 where
    l : ℕ
    walked : Walk old start order l
    stops : (x : ℕ) → next_of net l ≡ some x → T (listed x order)

  walk : (old : List ℕ) (start most : ℕ) (o : Option ℕ) (order : List ℕ) (l : ℕ) → next_of net l ≡ o → size ≤ length order + most → Walk old start order l
      → End old start (follow net most o order)
  unfolding follow
  walk old start zero o order l q h w =
      record {
        l = l;
        walked = w;
        stops = λ x r.
            by_cases (listed x order) (λ t. t)
            (λ f. let room = good_room size x order (next_below net (edge_numbered net l) x r) (T_not (listed x order) f) w.good in absurd (omega arith));
      }
  walk old start (suc most) none order l q h w = record { l = l; walked = w; stops = λ x r. not_found x (sym q ∙ r) }
  walk old start (suc most) (some e) order l q h w =
      go (listed e order) refl
      (λ f. walk old start most (next_of net e) (order ++ e ∷ []) e refl (let a = length-append order (e ∷ []) in omega arith)
      (step old start order l e q f w))
    where
      go : (b : Bool) → listed e order ≡ b → ((T (listed e order) → ⊥) → End old start (follow net most (next_of net e) (order ++ e ∷ [])))
          → End old start (cond b order (follow net most (next_of net e) (order ++ e ∷ [])))
      go true r ih =
          record {
            l = l;
            walked = w;
            stops = λ x s. subst (λ (y : ℕ). T (listed y order)) (same_some e x (sym q ∙ s)) (of_true (listed e order) r);
          }
      go false r ih = ih (λ t. subst T r t)

  -- the walk is over, and no edge is before the start, or the last edge is
  over : (old : List ℕ) (start : ℕ) (order : List ℕ) → Between old → (e : End old start order)
      → ((q : ℕ) → prev_of net start ≡ some q → T (listed q order) × RingStart net start) → Between order
  over old start order b e starts =
      record {
        good = w.good;
        back = λ x p h t. go_back x p h (w.added x t);
        forth = λ x p h t. go_forth x p h t (ℕ_discrete p e.l);
        stands = λ x p h t. go_stands x p h (w.added x t);
      }
    where
      w : Walk old start order e.l
      w = e.walked

      still : (y : ℕ) → T (listed y old) → T (listed y order)
      still y t = subst (λ (k : List ℕ). T (listed y k)) (sym w.extends) (listed_left y old w.rest t)

      same_prev : (x p q : ℕ) → prev_of net x ≡ some p → prev_of net x ≡ some q → q ≡ p
      same_prev x p q h k = same_some q p (sym k ∙ h)

      go_back : (x p : ℕ) → prev_of net x ≡ some p → Added old start order x → T (listed p order)
      go_back x p h (before t) = still p (b.back x p h t)
      go_back x p h (first r) = (starts p (ap (prev_of net) (sym r) ∙ h)).0
      go_back x p h (then q k a) = subst (λ (y : ℕ). T (listed y order)) (same_prev x p q h k) (behind_listed order x q a)

      go_forth : (x p : ℕ) → prev_of net x ≡ some p → T (listed p order) → Dec (p ≡ e.l) → T (listed x order)
      go_forth x p h t (yes r) = e.stops x (prev_next net e.l x (h ∙ ap {B = Option ℕ} some r))
      go_forth x p h t (no f) = w.forth x p h t f

      go_stands : (x p : ℕ) → prev_of net x ≡ some p → Added old start order x → RightBehind order x p ⊎ RingStart net x
      go_stands x p h (before t) = moved (b.stands x p h t)
        where
          moved : RightBehind old x p ⊎ RingStart net x → RightBehind order x p ⊎ RingStart net x
          moved (inl a) = inl (subst (λ (k : List ℕ). RightBehind k x p) (sym w.extends) (behind_more old w.rest x p a))
          moved (inr r) = inr r
      go_stands x p h (first r) = inr (subst (RingStart net) (sym r) (starts p (ap (prev_of net) (sym r) ∙ h)).1)
      go_stands x p h (then q k a) = inl (subst (λ (y : ℕ). RightBehind order x y) (same_prev x p q h k) a)

  -- ---- a ring closes

  -- before the second pass: every edge that shares with none is in the order
  abbrev Headed : List ℕ → Type 0
  Headed old = (y : ℕ) → y < size → prev_of net y ≡ none → T (listed y old)

  -- each edge that is not in the order has an edge before it, and that is not in the order either: so none of them is the last of a path, by count
  module _ (old : List ℕ) (b : Between old) (headed : Headed old) (l : ℕ) (small : l < size) (fresh : T (listed l old) → ⊥)
      (last : next_of net l ≡ none) where
    -- an edge of the order to itself, another to the edge before it
    data Image (k i : ℕ) : Type 0 where
      itself : T (listed k old) → i ≡ k → Image k i
      its_prev : (T (listed k old) → ⊥) → prev_of net k ≡ some i → Image k i

    image_apart : (k m i : ℕ) → Image k i → Image m i → k ≡ m
    image_apart k m i (itself t q) (itself u r) = sym q ∙ r
    image_apart k m i (itself t q) (its_prev f r) = absurd (f (b.forth m i r (subst (λ (y : ℕ). T (listed y old)) (sym q) t)))
    image_apart k m i (its_prev f r) (itself t q) = absurd (f (b.forth k i r (subst (λ (y : ℕ). T (listed y old)) (sym q) t)))
    image_apart k m i (its_prev f r) (its_prev g s) = prev_once net k m i r s

    record Sent (k : ℕ) : Type 0 where
      to : ℕ
      under : to < size
      other : to ≢ l
      image : Image k to

    sent : (k : ℕ) → k < size → Sent k
    sent k h =
        by_cases (listed k old)
        (λ t. record { to = k; under = h; other = λ q. fresh (subst (λ (y : ℕ). T (listed y old)) q t); image = itself t refl })
        (λ f. go f (prev_of net k) refl)
      where
        go : T (not (listed k old)) → (o : Option ℕ) → prev_of net k ≡ o → Sent k
        go f none q = absurd (T_not (listed k old) f (headed k h q))
        go f (some p) q =
            record {
              to = p;
              under = (prev_inside net noself k p q).0;
              other = λ r. not_found k (sym (ap (next_of net) r ∙ last) ∙ prev_next net p k q);
              image = its_prev (T_not (listed k old) f) q;
            }

    -- the edges and one number more, which gets the place of the last edge
    place : (k : ℕ) → Dec (suc k ≤ size) → ℕ
    place k (yes h) = (sent k h).to
    place k (no f) = l

    no_last : ⊥
    unfolding place
    no_last =
        let few = pigeonhole (suc size) size (λ k. place k (dec_le (suc k) size)) (λ k h. inside k (dec_le (suc k) size))
        (λ k m h i. apart k m h i (dec_le (suc k) size) (dec_le (suc m) size)) in
        omega arith
      where
        inside : (k : ℕ) (d : Dec (suc k ≤ size)) → place k d < size
        inside k (yes h) = (sent k h).under
        inside k (no f) = small

        apart : (k m : ℕ) → k < suc size → m < suc size → (d : Dec (suc k ≤ size)) (e : Dec (suc m ≤ size)) → place k d ≡ place m e → k ≡ m
        apart k m h i (yes p) (yes q) e = image_apart k m (sent k p).to (sent k p).image (subst (Image m) (sym e) (sent m q).image)
        apart k m h i (yes p) (no q) e = absurd ((sent k p).other e)
        apart k m h i (no p) (yes q) e = absurd ((sent m q).other (sym e))
        apart k m h i (no p) (no q) e = let a = lt_of_not-le p in let c = lt_of_not-le q in omega arith

  -- the walk from an edge that is not in the order comes back to it
  comes_back : (old : List ℕ) (start : ℕ) (order : List ℕ) → Between old → Headed old → (e : End old start order)
      → (q : ℕ) → prev_of net start ≡ some q → T (listed q order)
  comes_back old start order b headed e q h = go (next_of net e.l) refl
    where
      w : Walk old start order e.l
      w = e.walked

      here : T (listed e.l order)
      here = last_listed old start order e.l w

      found : (x : ℕ) → prev_of net x ≡ some e.l → Added old start order x → T (listed q order)
      found x p (before t) = absurd (w.fresh (b.back x e.l p t))
      found x p (first r) = subst (λ (y : ℕ). T (listed y order)) (same_some e.l q (sym p ∙ ap (prev_of net) r ∙ h)) here
      found x p (then m r a) =
          let k : e.l ≡ m = same_some e.l m (sym p ∙ r) in
          absurd
          (last_only w.init a.front a.rest e.l x (subst Once w.ends w.good.once)
          (sym w.ends ∙ a.is ∙ ap (λ (y : ℕ). a.front ++ y ∷ x ∷ a.rest) (sym k)))

      go : (o : Option ℕ) → next_of net e.l ≡ o → T (listed q order)
      go none r = absurd (no_last old b headed e.l (w.good.below e.l here) w.fresh r)
      go (some x) r = found x (next_prev net e.l x (w.good.below e.l here) r) (w.added x (e.stops x r))

  -- whole columns are in the order or not
  side : List ℕ → ℕ → ℕ
  side old y = cond (listed y old) 1 0

  side_in : (old : List ℕ) (y : ℕ) → T (listed y old) → side old y ≡ 1
  unfolding side
  side_in old y t = cond_yes (listed y old) 1 0 t

  side_out : (old : List ℕ) (y : ℕ) → T (not (listed y old)) → side old y ≡ 0
  unfolding side
  side_out old y f = cond_no (listed y old) 1 0 f

  one_side : (old : List ℕ) → Between old → (e p : ℕ) → prev_of net e ≡ some p → side old e ≡ side old p
  one_side old b e p h =
      by_cases (listed e old)
      (λ t. side_in old e t ∙ sym (side_in old p (b.back e p h t)))
      (λ f. side_out old e f ∙ sym (side_out old p (not_T (listed p old) (λ t. T_not (listed e old) f (b.forth e p h t)))))

  ring_start : (old : List ℕ) (start : ℕ) → Between old → Headed old → start < size → (T (listed start old) → ⊥)
      → ((y : ℕ) → y < start → T (listed y old)) → RingStart net start
  ring_start old start b headed small f lower =
      record { lowest = λ y h q. low y (apart y h q) (dec_le start y); closed = λ y h q. has y (apart y h q) h (prev_of net y) refl }
    where
      apart : (y : ℕ) → y < size → column_of net y ≡ column_of net start → T (listed y old) → ⊥
      apart y h q u =
          let ev = columns_even net noself (side old) (one_side old b) in
          let same = ev.same start y (column_of net start) (column_is net noself start small) (column_is net noself y h ∙ ap {B = Option ℕ} some q) in
          let a = side_out old start (not_T (listed start old) f) in
          let c = side_in old y u in
          omega arith

      low : (y : ℕ) → (T (listed y old) → ⊥) → Dec (start ≤ y) → start ≤ y
      low y g (yes h) = h
      low y g (no k) = absurd (g (lower y (lt_of_not-le k)))

      has : (y : ℕ) → (T (listed y old) → ⊥) → y < size → (o : Option ℕ) → prev_of net y ≡ o → (node : ℕ) × (into : ℕ) × PlainJoint net node into y
      has y g h none q = absurd (g (headed y h q))
      has y g h (some p) q = let j = shares_joint net p y q in (j.0, p, j.1)

  -- ---- the two passes

  follow_between : (most start : ℕ) (old : List ℕ) → 0 < most → size ≤ length old + most → start < size → Between old
      → ((order : List ℕ) → (T (listed start old) → ⊥) → End old start order
      → (q : ℕ) → prev_of net start ≡ some q → T (listed q order) × RingStart net start)
      → Between (follow net most (some start) old)
  unfolding follow
  follow_between zero start old z h s b starts = absurd (omega arith)
  follow_between (suc most) start old z h s b starts = go (listed start old) refl
    where
      next : List ℕ
      next = follow net most (next_of net start) (old ++ start ∷ [])

      go : (c : Bool) → listed start old ≡ c → Between (cond c old next)
      go true r = b
      go false r =
          let f : T (listed start old) → ⊥ = (λ t. subst T r t) in
          let e : End old start next =
          walk old start most (next_of net start) (old ++ start ∷ []) start refl (let a = length-append old (start ∷ []) in omega arith)
          (begin old start s f b) in
          over old start next b e (starts next f e)

  headed_later : (e : ℕ) (old next : List ℕ) → ((y : ℕ) → T (listed y old) → T (listed y next)) → T (listed e next)
      → ((y : ℕ) → y < e → prev_of net y ≡ none → T (listed y old)) → (y : ℕ) → y < suc e → prev_of net y ≡ none → T (listed y next)
  headed_later e old next keeps here lower y h q = go (ℕ_discrete y e)
    where
      go : Dec (y ≡ e) → T (listed y next)
      go (yes r) = subst (λ (k : ℕ). T (listed k next)) (sym r) here
      go (no f) = keeps y (lower y (omega arith) q)

  first_pass : (xs : List Edge) (e : ℕ) (order : List ℕ) → ((i : ℕ) (x : Edge) → get_elem? xs i ≡ some x → prev_of net (e + i) ≡ shares_with net x)
      → e + length xs ≡ size → Between order → ((y : ℕ) → y < e → prev_of net y ≡ none → T (listed y order))
      → Between (follow_all net (starts_path net) e xs order) × Headed (follow_all net (starts_path net) e xs order)
  unfolding follow_all starts_path is_none
  first_pass [] e order own l b lower = (b, λ y h q. lower y (omega arith) q)
  first_pass (x ∷ xs) e order own l b lower =
      go (shares_with net x) (ap (prev_of net) (sym (add-zero e)) ∙ own 0 x refl)
      (λ next c low. first_pass xs (suc e) next (λ i y q. ap (prev_of net) (suc-add e i ∙ sym (add-suc e i)) ∙ own (suc i) y q) (omega arith) c low)
    where
      Done : List ℕ → Type 0
      Done next = Between (follow_all net (starts_path net) (suc e) xs next) × Headed (follow_all net (starts_path net) (suc e) xs next)

      go : (o : Option ℕ) → prev_of net e ≡ o → ((next : List ℕ) → Between next → ((y : ℕ) → y < suc e → prev_of net y ≡ none → T (listed y next)) → Done next)
          → Done (cond (is_none o) (follow net size (some e) order) order)
      go none q later =
          later (follow net size (some e) order)
          (follow_between size e order (omega arith) (omega arith) (omega arith) b (λ next f end p h. not_found p (sym q ∙ h)))
          (headed_later e order (follow net size (some e) order) (follow_keeps net size (some e) order) (follow_has net size e order (omega arith)) lower)
      go (some p) q later = later order b (λ y h r. lower y (other y h r (ℕ_discrete y e)) r)
        where
          other : (y : ℕ) → y < suc e → prev_of net y ≡ none → Dec (y ≡ e) → y < e
          other y h r (yes k) = not_found p (sym r ∙ ap (prev_of net) k ∙ q)
          other y h r (no f) = omega arith

  second_pass : (xs : List Edge) (e : ℕ) (order : List ℕ) → e + length xs ≡ size → Between order → Headed order → ((y : ℕ) → y < e → T (listed y order))
      → Between (follow_all net (λ x. true) e xs order)
  unfolding follow_all
  second_pass [] e order l b headed lower = b
  second_pass (x ∷ xs) e order l b headed lower =
      let next : List ℕ = follow net size (some e) order in
      second_pass xs (suc e) next (omega arith)
      (follow_between size e order (omega arith) (omega arith) (omega arith) b
      (λ after f end q h. (comes_back order e after b headed end q h, ring_start order e b headed (omega arith) f lower)))
      (λ y h q. follow_keeps net size (some e) order y (headed y h q))
      (λ y h. go y h (ℕ_discrete y e))
    where
      go : (y : ℕ) → y < suc e → Dec (y ≡ e) → T (listed y (follow net size (some e) order))
      go y h (yes r) = subst (λ (k : ℕ). T (listed k (follow net size (some e) order))) (sym r) (follow_has net size e order (omega arith))
      go y h (no f) = follow_keeps net size (some e) order y (lower y (omega arith))

  none_yet : Between []
  none_yet = record { good = good_none size; back = λ x p h t. listed_nil x t; forth = λ x p h t. listed_nil p t; stands = λ x p h t. listed_nil x t }

  flow_between : Between (flow_order net)
  unfolding flow_order paths
  flow_between =
      let first = first_pass net.edges 0 [] (own_share net) (omega arith) none_yet (λ y h q. absurd (omega arith)) in
      second_pass net.edges 0 (follow_all net (starts_path net) 0 net.edges []) (omega arith) first.0 first.1 (λ y h. absurd (omega arith))

  places : FlowPlaces net
  places =
      record {
        edges = λ e. (flow_below net e, λ h. listed_mem e (flow_order net) (flow_all net e h));
        once = once_nodup (flow_order net) (flow_good net).once;
        downstream = λ node into out j.
            flow_between.stands out into (joint_shares net node into out j) (flow_all net out (leaves net node into out j).below);
      }

pub flow_places : FlowOrderPlaces
flow_places file net read = places net (read_sound file net read).noself
