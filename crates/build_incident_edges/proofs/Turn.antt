-- A turn of the loop that lists the edges from the last to the first. Assumes nothing.
use Prim.Native.Nat.{ℕ, zero, suc, ◌+◌, ◌<◌, ◌≤◌}
use mathlib.Core.Path.{◌≡◌, refl, sym, ap, ◌∙◌}
use mathlib.Core.Logic.{inl, inr, ⊎_elim}
use mathlib.Core.List.{List, [], ◌∷◌}
use mathlib.Core.Bool.{Bool, true, false}
use native.Mathlib.Decide.{ℕ_discrete}
use native.Mathlib.Omega.{arith}
use borrow.Author.Tests.{eq-eqb, ne_eqb}
use lib.ListN.{length, get_or, set, drop, replicate, length-set, drop_of_length-le}
use lib.Seq.{drop-cons, get_or-set_same, get_or-set_other}
use lib.Dec.{eqb}
use Rattle.pywr.specs.Network.{Edge, keep_if, edges_with}
use Rattle.network_edge.specs.Edge.{edge_at, edge_place, end_of}
use Rattle.network_edge.specs.declared.End.{End}
use Rattle.network_laws.specs.NetworkAt.{edge_records, network_at}
use Rattle.network_laws.proofs.Index.{edge_count, edge_index}
use Rattle.laws.specs.Linked.{Later, Linked}
use Rattle.laws.proofs.LinkedLaws.{linked_store}

module _ (size : ℕ) (next : List ℕ) (end : Edge → ℕ) (n : ℕ) where
  -- the edges from i on have numbers from i on
  edges_later : (i first : ℕ) (es : List Edge) → Linked size next first (edges_with end n (suc i) es) → Later i first
  unfolding edges_with keep_if
  edges_later i first [] l = inl l
  edges_later i first (x ∷ es) l = go (eqb (end x) n) (edges_later (suc i) first es) l
    where
      go : (b : Bool) → (Linked size next first (edges_with end n (suc (suc i)) es) → Later (suc i) first) → Linked size next first (keep_if b (suc i) (edges_with end n (suc (suc i)) es)) → Later i first
      go true more m = inr (omega (arith, m.0))
      go false more m = ⊎_elim (λ (q : first ≡ 0). inl q) (λ (q : suc (suc i) < first). inr (omega arith)) (more m)

module _ (size : ℕ) (next first : List ℕ) (end : Edge → ℕ) (es : List Edge) (e k : ℕ) (d : Edge) where
  -- edge e, which has node k as this end, goes in front of k's list
  pub cons_edge : e < length es → end (get_or es e d) ≡ k → e < size → e < length next → k < length first
      → ((n : ℕ) → Linked size next (get_or first n 0) (edges_with end n (suc e) (drop (suc e) es)))
      → (n : ℕ) → Linked size (set next e (get_or first k 0)) (get_or (set first k (suc e)) n 0) (edges_with end n e (drop e es))
  unfolding edges_with keep_if
  cons_edge he hk hs hn hf l n = rw (drop-cons es e d he, hk) (go (ℕ_discrete n k))
    where
      later : (m : ℕ) → Later e (get_or first m 0)
      later m = edges_later size next end m e (get_or first m 0) (drop (suc e) es) (l m)

      stored : (m : ℕ) → Linked size (set next e (get_or first k 0)) (get_or first m 0) (edges_with end m (suc e) (drop (suc e) es))
      stored m = linked_store size next e (get_or first k 0) (get_or first m 0) (edges_with end m (suc e) (drop (suc e) es)) (later m) (l m)

      go : Dec (n ≡ k) → Linked size (set next e (get_or first k 0)) (get_or (set first k (suc e)) n 0) (keep_if (eqb k n) e (edges_with end n (suc e) (drop (suc e) es)))
      go (yes q) = rw (q, eq-eqb k k refl, get_or-set_same next e (get_or first k 0) 0 hn, get_or-set_same first k (suc e) 0 hf) (refl, hs, later k, stored k)
      go (no f) = rw (ne_eqb k n (λ q. f (sym q)), get_or-set_other first k n (suc e) 0 f) (stored n)

zeros_at : (k n : ℕ) → get_or (replicate {A = ℕ} k 0) n 0 ≡ 0
zeros_at zero n = refl
zeros_at (suc k) zero = refl
zeros_at (suc k) (suc n) = zeros_at k n

-- the tables list the edges from e on
pub record ListedFrom (file : List ℕ) (nodes edges : ℕ) (end : End) (e : ℕ) (first next : List ℕ) : Type 0 where
  pub few : e ≤ edges
  pub first_length : length first ≡ 256
  pub next_length : length next ≡ 512
  pub listed : (n : ℕ) → Linked edges next (get_or first n 0) (edges_with (end_of end) n e (drop e (edge_records file nodes edges)))

pub none_listed : (file : List ℕ) (nodes edges : ℕ) (end : End) → ListedFrom file nodes edges end edges (replicate 256 0) (replicate 512 0)
unfolding edges_with network_at
none_listed file nodes edges end =
    let short : length (edge_records file nodes edges) ≤ edges = omega (arith, edge_count file nodes edges 0 0) in
    record { few = omega arith; first_length = refl; next_length = refl; listed = λ n. rw (drop_of_length-le (edge_records file nodes edges) short) (zeros_at 256 n) }

-- edge j goes in front of its node's list
pub edge_listed : (file : List ℕ) (nodes edges : ℕ) (end : End) (e j node plus_one : ℕ) (first next : List ℕ) → e ≡ suc j → plus_one ≡ j + 1
    → node ≡ end_of end (edge_at file (edge_place nodes j)) → node < 256 → edges ≤ 512 → ListedFrom file nodes edges end e first next
    → ListedFrom file nodes edges end j (set first node plus_one) (set next j (get_or first node 0))
unfolding network_at
edge_listed file nodes edges end e j node plus_one first next q p at under most h =
    let es : List Edge = edge_records file nodes edges in
    let x : get_or es j (edge_at file 0) ≡ edge_at file (edge_place nodes j) = edge_index file nodes edges 0 0 j (edge_at file 0) (omega arith) in
    let p' : plus_one ≡ suc j = omega arith in
    record {
      few = omega arith;
      first_length = length-set first node plus_one ∙ h.first_length;
      next_length = length-set next j (get_or first node 0) ∙ h.next_length;
      listed =
          rw p'
          (cons_edge edges next first (end_of end) es j node (edge_at file 0) (omega (arith, edge_count file nodes edges 0 0))
          (ap (end_of end) x ∙ sym at)
          (omega arith)
          (omega (arith, h.next_length))
          (omega (arith, h.first_length))
          (rw q at h.listed));
    }
