-- The edges of a column that is no closed ring stand in flow order from its first edge on, each followed by the edge after it. Assumes nothing.
use mathlib.Core.Path.{◌≡◌, refl, sym, ap, ◌∙◌, subst}
use mathlib.Core.Logic.{◌⊎◌, inl, inr}
use Prim.Native.Nat.{ℕ, ◌<◌}
use native.Mathlib.Omega.{arith}
use mathlib.Core.Bool.{Bool, true, false}
use mathlib.Core.List.{List, [], ◌∷◌, ◌++◌, append_assoc}
use mathlib.Core.Option.{Option, none, some}
use lib.ListN.{length, length-append}
use lib.Dec.{T, eqb, eqb→eq, eqb_refl}
use Rattle.laws.proofs.Tests.{of_true}
use Rattle.pywr.specs.Network.{Network, keep_if, listed}
use Rattle.pywr.specs.ColEdgeMap.{column_of}
use Rattle.pywr.specs.FlowOrder.{flow_order}
use Rattle.pywr.proofs.ListLaws.{not_found, same_some}
use Rattle.pywr.proofs.OnceLaws.{listed_right, listed_here, listed_there, listed_cons, listed_nil, listed_left, listed_last, Once, nothing, more}
use Rattle.pywr.proofs.LinkLaws.{prev_of, NoSelf, columns_paths}
use Rattle.pywr.proofs.TurnLaws.{column_is}
use Rattle.pywr.proofs.FlowLaws.{flow_good, flow_all}
use Rattle.theorem_file_order.specs.ColumnClasses.{itself, downstream}
use Rattle.theorem_file_order.proofs.Joints.{shares_joint}
use Rattle.theorem_file_order.proofs.Classes.{joined_column}
use Rattle.theorem_costs.specs.CostOrder.{on_column}
use Rattle.theorem_costs.specs.FlowPlaces.{RightBehind, RingStart, FlowPlaces}
use Rattle.theorem_costs.specs.CostFileOrder.{OpenColumn}
use Rattle.theorem_costs.proofs.NextEdges.{next_of, next_prev, prev_next}
use Rattle.theorem_costs.proofs.FlowPlaces.{last_only}

-- ---- lists in which no number stands twice

-- a number has one place
one_place : (us vs us' vs' : List ℕ) (y : ℕ) → Once (us ++ y ∷ vs) → us ++ y ∷ vs ≡ us' ++ y ∷ vs' → us ≡ us'
one_place [] vs [] vs' y o e = refl
one_place [] vs (z ∷ us') vs' y (more f o) e =
    let tails : vs ≡ us' ++ y ∷ vs' = cc in
    absurd (f (subst (λ (l : List ℕ). T (listed y l)) (sym tails) (listed_right y us' (y ∷ vs') (listed_here y vs'))))
one_place (u ∷ us) vs [] vs' y (more f o) e =
    let same : u ≡ y = cc in
    absurd (f (subst (λ (k : ℕ). T (listed k (us ++ y ∷ vs))) (sym same) (listed_right y us (y ∷ vs) (listed_here y vs))))
one_place (u ∷ us) vs (z ∷ us') vs' y (more f o) e =
    let same : u ≡ z = cc in
    let tails : us ++ y ∷ vs ≡ us' ++ y ∷ vs' = cc in
    λ i. same i ∷ one_place us vs us' vs' y o tails i

before_not : (us vs : List ℕ) (y : ℕ) → Once (us ++ y ∷ vs) → T (listed y us) → ⊥
before_not [] vs y o t = listed_nil y t
before_not (u ∷ us) vs y (more f o) t =
    listed_cons y u us t
    (λ q. f (subst (λ (k : ℕ). T (listed k (us ++ y ∷ vs))) q (listed_right y us (y ∷ vs) (listed_here y vs))))
    (before_not us vs y o)

-- the last number
last_of : ℕ → List ℕ → ℕ
last_of d [] = d
last_of d (x ∷ xs) = last_of x xs

last_is : (d : ℕ) (xs : List ℕ) (x : ℕ) → last_of d (xs ++ x ∷ []) ≡ x
unfolding last_of
last_is d [] x = refl
last_is d (y ∷ xs) x = last_is y xs x

same_last : (us vs : List ℕ) (x y : ℕ) → us ++ x ∷ [] ≡ vs ++ y ∷ [] → x ≡ y
same_last us vs x y e = sym (last_is 0 us x) ∙ ap (last_of 0) e ∙ last_is 0 vs y

-- ---- the edges of a column

module _ (net : Network) where
  module _ (c : ℕ) where
    abbrev on : List ℕ → List ℕ
    on = on_column net c

    pub on_listed : (es : List ℕ) (x : ℕ) → T (listed x (on_column net c es)) → T (listed x es) × (column_of net x ≡ c)
    unfolding on_column keep_if
    on_listed [] x t = listed_nil x t
    on_listed (e ∷ es) x t = go (eqb (column_of net e) c) refl t (λ u. let r = on_listed es x u in (listed_there x e es r.0, r.1))
      where
        go : (b : Bool) → eqb (column_of net e) c ≡ b → T (listed x (keep_if b e (on es)))
            → (T (listed x (on es)) → T (listed x (e ∷ es)) × (column_of net x ≡ c)) → T (listed x (e ∷ es)) × (column_of net x ≡ c)
        go true q u later =
            listed_cons x e (on es) u
            (λ r.
            let one : column_of net e ≡ c = eqb→eq (column_of net e) c (of_true (eqb (column_of net e) c) q) in
            (subst (λ (k : ℕ). T (listed x (k ∷ es))) r (listed_here x es), ap (column_of net) r ∙ one))
            later
        go false q u later = later u

    on_yes : (e : ℕ) (es : List ℕ) → column_of net e ≡ c → on (e ∷ es) ≡ e ∷ on es
    unfolding on_column keep_if
    on_yes e es q = go (eqb (column_of net e) c) refl
      where
        go : (b : Bool) → eqb (column_of net e) c ≡ b → keep_if b e (on es) ≡ e ∷ on es
        go true r = refl
        go false r = absurd (subst T r (subst (λ (k : ℕ). T (eqb (column_of net e) k)) q (eqb_refl (column_of net e))))

    on_there : (es : List ℕ) (x : ℕ) → T (listed x es) → column_of net x ≡ c → T (listed x (on es))
    unfolding on_column keep_if
    on_there [] x t q = listed_nil x t
    on_there (e ∷ es) x t q =
        listed_cons x e es t
        (λ r. subst (λ (l : List ℕ). T (listed x l)) (sym (on_yes e es (ap (column_of net) (sym r) ∙ q)))
        (subst (λ (k : ℕ). T (listed x (k ∷ on es))) r (listed_here x (on es))))
        (λ u. go (eqb (column_of net e) c) (on_there es x u q))
      where
        go : (b : Bool) → T (listed x (on es)) → T (listed x (keep_if b e (on es)))
        go true u = listed_there x e (on es) u
        go false u = u

    on_append : (es fs : List ℕ) → on (es ++ fs) ≡ on es ++ on fs
    unfolding on_column keep_if
    on_append [] fs = refl
    on_append (e ∷ es) fs = go (eqb (column_of net e) c) (on_append es fs)
      where
        go : (b : Bool) → on (es ++ fs) ≡ on es ++ on fs → keep_if b e (on (es ++ fs)) ≡ keep_if b e (on es) ++ on fs
        go true r = ap (λ (l : List ℕ). e ∷ l) r
        go false r = r

    on_once : (es : List ℕ) → Once es → Once (on es)
    unfolding on_column keep_if
    on_once [] nothing = nothing
    on_once (e ∷ es) (more f o) = go (eqb (column_of net e) c) (on_once es o)
      where
        go : (b : Bool) → Once (on es) → Once (keep_if b e (on es))
        go true r = more (λ t. f (on_listed es e t).0) r
        go false r = r

    -- right behind in all edges, then in the column's
    on_behind : (es : List ℕ) (x p : ℕ) → column_of net x ≡ c → column_of net p ≡ c → RightBehind es x p → RightBehind (on es) x p
    on_behind es x p qx qp r =
        record {
          front = on r.front;
          rest = on r.rest;
          is =
              ap on r.is
              ∙ on_append r.front (p ∷ x ∷ r.rest)
              ∙ ap (λ (l : List ℕ). on r.front ++ l) (on_yes p (x ∷ r.rest) qp ∙ ap (λ (l : List ℕ). p ∷ l) (on_yes x r.rest qx));
        }

  -- ---- an edge, the edge after it, and so on to the last

  pub data Chain : ℕ → List ℕ → Type 0 where
    end : {x : ℕ} → next_of net x ≡ none → Chain x (x ∷ [])
    on_to : {x : ℕ} (y : ℕ) {ys : List ℕ} → next_of net x ≡ some y → Chain y ys → Chain x (x ∷ ys)

  pub chain_once : (x : ℕ) (xs ys : List ℕ) → Chain x xs → Chain x ys → xs ≡ ys
  chain_once x xs ys (end p) (end q) = refl
  chain_once x xs ys (end p) (on_to y q c) = not_found y (sym p ∙ q)
  chain_once x xs ys (on_to y p c) (end q) = not_found y (sym q ∙ p)
  chain_once x (_ ∷ xs) (_ ∷ ys) (on_to y p c) (on_to z q d) =
      ap (λ (l : List ℕ). x ∷ l) (chain_once y xs ys c (subst (λ (k : ℕ). Chain k ys) (sym (same_some y z (sym p ∙ q))) d))

-- ---- a column that is no closed ring

module _ (net : Network) (noself : NoSelf net) (places : FlowPlaces net) (c : ℕ) (o : OpenColumn net c) where
  abbrev f : ℕ
  f = o.first

  abbrev L : List ℕ
  L = on_column net c (flow_order net)

  once : Once L
  once = on_once net c (flow_order net) (flow_good net).once

  lies : (x : ℕ) → T (listed x L) → column_of net x ≡ c
  lies x t = (on_listed net c (flow_order net) x t).1

  below : (x : ℕ) → T (listed x L) → x < length net.edges
  below x t = (flow_good net).below x (on_listed net c (flow_order net) x t).0

  no_prev : prev_of net f ≡ none
  no_prev = go (prev_of net f) refl
    where
      go : (o : Option ℕ) → prev_of net f ≡ o → prev_of net f ≡ none
      go none q = q
      go (some p) q = let j = shares_joint net p f q in absurd (o.none_into j.0 p j.1)

  behind : (x p : ℕ) → column_of net x ≡ c → prev_of net x ≡ some p → RightBehind L x p
  behind x p q h =
      let j = shares_joint net p x h in
      go (joined_column net noself p x (downstream j.0 j.1 itself)) (places.downstream j.0 p x j.1)
    where
      go : column_of net p ≡ column_of net x → RightBehind (flow_order net) x p ⊎ RingStart net x → RightBehind L x p
      go one (inl r) = on_behind net c (flow_order net) x p q (one ∙ q) r
      go one (inr r) = let k = r.closed f o.under (o.lies ∙ sym q) in absurd (o.none_into k.0 k.1 k.2)

  -- no other edge of the column has none before it
  head_only : (x : ℕ) → T (listed x L) → prev_of net x ≡ none → x ≡ f
  head_only x t q =
      (columns_paths net noself).one_head x f c
      (column_is net noself x (below x t) ∙ ap {B = Option ℕ} some (lies x t))
      (column_is net noself f o.under ∙ ap {B = Option ℕ} some o.lies)
      (λ y h i. not_found y (sym q ∙ h))
      (λ y h i. not_found y (sym no_prev ∙ h))

  from_here : (pre ys : List ℕ) (x : ℕ) → L ≡ pre ++ x ∷ ys → T (listed f (pre ++ x ∷ [])) → Chain net x (x ∷ ys)
  from_here pre [] x e t = end (go (next_of net x) refl)
    where
      here : T (listed x L)
      here = subst (λ (l : List ℕ). T (listed x l)) (sym e) (listed_last x pre)

      go : (o : Option ℕ) → next_of net x ≡ o → next_of net x ≡ none
      go none r = r
      go (some z) r =
          let prev : prev_of net z ≡ some x = next_prev net x z (below x here) r in
          let j = shares_joint net x z prev in
          let k = behind z x (sym (joined_column net noself x z (downstream j.0 j.1 itself)) ∙ lies x here) prev in
          absurd (last_only pre k.front k.rest x z (subst Once e once) (sym e ∙ k.is))
  from_here pre (y ∷ ys) x e t = go (prev_of net y) refl (from_here (pre ++ x ∷ []) ys y whole (listed_left f (pre ++ x ∷ []) (y ∷ []) t))
    where
      whole : L ≡ (pre ++ x ∷ []) ++ y ∷ ys
      whole = e ∙ sym (append_assoc pre (x ∷ []) (y ∷ ys))

      here : T (listed y L)
      here = subst (λ (l : List ℕ). T (listed y l)) (sym whole) (listed_right y (pre ++ x ∷ []) (y ∷ ys) (listed_here y ys))

      go : (o : Option ℕ) → prev_of net y ≡ o → Chain net y (y ∷ ys) → Chain net x (x ∷ y ∷ ys)
      go none q rest =
          absurd (before_not (pre ++ x ∷ []) ys y (subst Once whole once) (subst (λ (k : ℕ). T (listed k (pre ++ x ∷ []))) (sym (head_only y here q)) t))
      go (some p) q rest =
          let r = behind y p (lies y here) q in
          let front : pre ++ x ∷ [] ≡ r.front ++ p ∷ [] =
          one_place (pre ++ x ∷ []) ys (r.front ++ p ∷ []) r.rest y (subst Once whole once)
          (sym whole ∙ r.is ∙ sym (append_assoc r.front (p ∷ []) (y ∷ r.rest))) in
          on_to y (ap (next_of net) (same_last pre r.front x p front) ∙ prev_next net p y q) rest

  pub chain : Chain net o.first (on_column net c (flow_order net))
  chain = go L refl
    where
      go : (l : List ℕ) → L ≡ l → Chain net f L
      go [] e = listed_nil f (subst (λ (l : List ℕ). T (listed f l)) e (on_there net c (flow_order net) f (flow_all net f o.under) o.lies))
      go (h ∷ ys) e =
          let first : h ≡ f = head (prev_of net h) refl in
          subst (Chain net f) (sym e)
          (subst (λ (k : ℕ). Chain net k (h ∷ ys)) first (from_here [] ys h e (subst (λ (k : ℕ). T (listed k (h ∷ []))) first (listed_here h []))))
        where
          here : T (listed h L)
          here = subst (λ (l : List ℕ). T (listed h l)) (sym e) (listed_here h ys)

          head : (o : Option ℕ) → prev_of net h ≡ o → h ≡ f
          head none q = head_only h here q
          head (some p) q =
              let r = behind h p (lies h here) q in
              let nothing-before : [] ≡ r.front ++ p ∷ [] =
              one_place [] ys (r.front ++ p ∷ []) r.rest h (subst Once e once)
              (sym e ∙ r.is ∙ sym (append_assoc r.front (p ∷ []) (h ∷ r.rest))) in
              let a = ap length nothing-before in
              let b = length-append r.front (p ∷ []) in
              absurd (omega arith)
