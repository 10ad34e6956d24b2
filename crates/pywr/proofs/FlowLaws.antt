-- Flow order holds every edge once. Assumes nothing.
use mathlib.Core.Path.{◌≡◌, refl, sym, subst}
use Prim.Native.Nat.{ℕ, zero, suc, ◌+◌, ◌<◌, ◌≤◌}
use native.Mathlib.Nat.{not-suc-le-zero}
use native.Mathlib.Decide.{ℕ_discrete}
use native.Mathlib.Omega.{arith}
use mathlib.Core.Bool.{Bool, true, false, cond}
use mathlib.Core.List.{List, [], ◌∷◌, ◌++◌, Memᴰ, Permᴰ}
use mathlib.Core.Option.{Option, none, some}
use lib.ListN.{length, length-append}
use lib.Dec.{T, T_not, eqb}
use Rattle.laws.proofs.Tests.{cond_both}
use Rattle.pywr.specs.Network.{link, Edge, Network, kind_of, source, listed, incoming, outgoing}
use Rattle.pywr.specs.ColEdgeMap.{single}
use Rattle.pywr.specs.FlowOrder.{edge_order, next_edge, edge_numbered, follow, starts_path, follow_all, paths, flow_order}
use Rattle.pywr.proofs.MembershipLaws.{mem_listed}
use Rattle.pywr.proofs.OnceLaws.{listed_left, listed_last, listed_snoc, listed_nil, Once, nothing, once_snoc, once_few, all_once, numbers_perm_length}
use Rattle.pywr.proofs.LinkLaws.{ends_sound, single_is, below_length}

-- ---- following keeps the order good: numbers of edges, each once

pub record Good (size : ℕ) (order : List ℕ) : Type 0 where
  pub once : Once order
  pub below : (x : ℕ) → T (listed x order) → x < size

-- nothing followed yet
pub good_none : (size : ℕ) → Good size []
good_none size = record { once = nothing; below = λ x t. listed_nil x t }

pub good_after : (size e : ℕ) (order : List ℕ) → e < size → (T (listed e order) → ⊥) → Good size order → Good size (order ++ e ∷ [])
good_after size e order h f g =
    record {
      once = once_snoc e order f g.once;
      below = λ x t. listed_snoc x e order t (g.below x) (λ q. omega arith);
    }

pub good_few : (size : ℕ) (order : List ℕ) → Good size order → length order ≤ size
good_few size order g = once_few size order g.once g.below

-- an order without e has room for it
pub good_room : (size e : ℕ) (order : List ℕ) → e < size → (T (listed e order) → ⊥) → Good size order → length order < size
good_room size e order h f g =
    let few = good_few size (order ++ e ∷ []) (good_after size e order h f g) in
    let a = length-append order (e ∷ []) in
    omega arith

module _ (net : Network) where
  abbrev pub size : ℕ
  size = length net.edges

  pub next_below : (e : Edge) (p : ℕ) → next_edge net e ≡ some p → p < size
  unfolding next_edge outgoing
  next_below e p h = go (eqb (kind_of net.nodes e.to) link) h
    where
      go : (b : Bool) → cond b (single (outgoing net e.to) (incoming net e.to)) none ≡ some p → p < size
      go true q =
          let s = single_is (outgoing net e.to) (incoming net e.to) p q in
          let r = ends_sound source e.to 0 p net.edges (subst (λ (l : List ℕ). Memᴰ p l) (sym s.into_is) (Memᴰ.head refl)) in
          let l = below_length net.edges r.at r.edge r.found in
          let w = r.where_at in
          omega arith
      go false q = let z : ◌≡◌ {A = ℕ} 0 1 = cc in absurd (omega arith)

  abbrev next_of : ℕ → Option ℕ
  next_of e = next_edge net (edge_numbered net e)

  -- what follows is an edge
  abbrev pub IsEdge : Option ℕ → Type 0
  IsEdge o = (x : ℕ) → o ≡ some x → x < size

  pub follow_good : (most : ℕ) (o : Option ℕ) (order : List ℕ) → IsEdge o → Good size order → Good size (follow net most o order)
  unfolding follow
  follow_good zero o order h g = g
  follow_good (suc most) none order h g = g
  follow_good (suc most) (some e) order h g =
      cond_both (Good size) (listed e order) order (follow net most (next_of e) (order ++ e ∷ []))
      (λ t. g)
      (λ f. follow_good most (next_of e) (order ++ e ∷ []) (next_below (edge_numbered net e)) (good_after size e order (h e refl) (T_not (listed e order) f) g))

  pub follow_keeps : (most : ℕ) (o : Option ℕ) (order : List ℕ) (x : ℕ) → T (listed x order) → T (listed x (follow net most o order))
  unfolding follow
  follow_keeps zero o order x t = t
  follow_keeps (suc most) none order x t = t
  follow_keeps (suc most) (some e) order x t =
      cond_both (λ (l : List ℕ). T (listed x l)) (listed e order) order (follow net most (next_of e) (order ++ e ∷ []))
      (λ u. t)
      (λ f. follow_keeps most (next_of e) (order ++ e ∷ []) x (listed_left x order (e ∷ []) t))

  pub follow_has : (most e : ℕ) (order : List ℕ) → 0 < most → T (listed e (follow net most (some e) order))
  unfolding follow
  follow_has zero e order h = absurd (not-suc-le-zero h)
  follow_has (suc most) e order h =
      cond_both (λ (l : List ℕ). T (listed e l)) (listed e order) order (follow net most (next_of e) (order ++ e ∷ []))
      (λ t. t)
      (λ f. follow_keeps most (next_of e) (order ++ e ∷ []) e (listed_last e order))

  -- ---- every edge once

  all_good_lem : (test : Edge → Bool) (e : ℕ) (xs : List Edge) (order : List ℕ) → e + length xs ≤ size → Good size order → Good size (follow_all net test e xs order)
  unfolding follow_all
  all_good_lem test e [] order h g = g
  all_good_lem test e (x ∷ xs) order h g =
      all_good_lem test (suc e) xs _ (omega arith)
      (cond_both (Good size) (test x) (follow net size (some e) order) order
      (λ t. follow_good size (some e) order (λ y q. let w : e ≡ y = cc in omega arith) g)
      (λ f. g))

  all_keeps : (test : Edge → Bool) (e : ℕ) (xs : List Edge) (order : List ℕ) (y : ℕ) → T (listed y order) → T (listed y (follow_all net test e xs order))
  unfolding follow_all
  all_keeps test e [] order y t = t
  all_keeps test e (x ∷ xs) order y t =
      all_keeps test (suc e) xs _ y
      (cond_both (λ (l : List ℕ). T (listed y l)) (test x) (follow net size (some e) order) order (λ u. follow_keeps size (some e) order y t) (λ f. t))

  all_has : (e : ℕ) (xs : List Edge) (order : List ℕ) (y : ℕ) → e ≤ y → y < e + length xs → e + length xs ≤ size → T (listed y (follow_all net (λ x. true) e xs order))
  unfolding follow_all
  all_has e [] order y h i k = absurd (omega arith)
  all_has e (x ∷ xs) order y h i k = go (ℕ_discrete y e) (λ a b c. all_has (suc e) xs (follow net size (some e) order) y a b c)
    where
      rest : List ℕ
      rest = follow_all net (λ x. true) (suc e) xs (follow net size (some e) order)

      go : Dec (y ≡ e) → (suc e ≤ y → y < suc e + length xs → suc e + length xs ≤ size → T (listed y rest)) → T (listed y rest)
      go (yes q) later =
          all_keeps (λ x. true) (suc e) xs (follow net size (some e) order) y
          (subst (λ (z : ℕ). T (listed z (follow net size (some e) order))) (sym q) (follow_has size e order (omega arith)))
      go (no f) later = later (omega arith) (omega arith) (omega arith)

  pub paths_good : Good size (paths net)
  unfolding paths
  paths_good = all_good_lem (starts_path net) 0 net.edges [] (omega arith) (good_none size)

  pub flow_good : Good size (flow_order net)
  unfolding flow_order
  flow_good = all_good_lem (λ x. true) 0 net.edges (paths net) (omega arith) paths_good

  pub flow_all : (e : ℕ) → e < size → T (listed e (flow_order net))
  unfolding flow_order
  flow_all e h = all_has 0 net.edges (paths net) e (omega arith) (omega arith) (omega arith)

  -- edge order in another order
  pub flow_perm : Permᴰ (edge_order net) (flow_order net)
  unfolding edge_order
  flow_perm =
      all_once size 0 (flow_order net) flow_good.once
      (λ x t. let h = flow_good.below x t in (omega arith, omega arith))
      (λ x a b. flow_all x (omega arith))

  pub flow_length : length (flow_order net) ≡ size
  unfolding edge_order
  flow_length = numbers_perm_length size (flow_order net) flow_perm

  pub flow_below : (e : ℕ) → Memᴰ e (flow_order net) → e < size
  flow_below e m = flow_good.below e (mem_listed e (flow_order net) m)
