-- Varying rows that are alike join at the same places, so the same nodes, aggregates and virtual storages share rows. Assumes nothing.
use mathlib.Core.Path.{◌≡◌, refl, ap, ap₂}
use Prim.Native.Nat.{ℕ, suc}
use mathlib.Core.Bool.{Bool, true, false, cond}
use mathlib.Core.List.{List, [], ◌∷◌, ◌++◌, map}
use lib.ListN.{length}
use lib.Dec.{ltb}
use lib.Ieee.{neg}
use Rattle.pywr.specs.Numbers.{one64}
use Rattle.pywr.specs.Network.{Node}
use Rattle.pywr.specs.ColEdgeMap.{MappedEdge}
use Rattle.pywr.specs.ExclusiveSets.{sets_with_node}
use Rattle.pywr.specs.Rows.{Element, ColumnMap}
use Rattle.pywr.specs.VariableRows.{position, Joined, add_variable_row, add_variable_rows}
use Rattle.pywr.specs.Programme.{NodeRow}
use Rattle.pywr.specs.VaryingRows.{RowRequest, exclusive_requests, requests_by_sets, requests_from}
use Rattle.pywr.specs.Build.{placed_node_rows}
use Rattle.theorem_file_order.proofs.Renumbering.{Renumbering, Alike, same_row_alike}
use Rattle.theorem_file_order.proofs.RowsAlike.{with_edges, MovedEdges, node_row_alike, upper_row_alike, lower_row_alike}

-- ---- two lists, element for element

pub data Each {A B : Type 0} (R : A → B → Type 0) : List A → List B → Type 0 where
  none : Each R [] []
  more : {x : A} {y : B} {xs : List A} {ys : List B} → R x y → Each R xs ys → Each R (x ∷ xs) (y ∷ ys)

module _ {A B : Type 0} {R : A → B → Type 0} where
  pub each_append : {xs us : List A} {ys vs : List B} → Each R xs ys → Each R us vs → Each R (xs ++ us) (ys ++ vs)
  each_append Each.none k = k
  each_append (Each.more r h) k = Each.more r (each_append h k)

  pub each_length : {xs : List A} {ys : List B} → Each R xs ys → length xs ≡ length ys
  each_length Each.none = refl
  each_length (Each.more r h) = ap suc (each_length h)

  pub each_map : {C D : Type 0} {S : C → D → Type 0} (f : A → C) (g : B → D) → ((x : A) (y : B) → R x y → S (f x) (g y))
      → {xs : List A} {ys : List B} → Each R xs ys → Each S (map f xs) (map g ys)
  each_map f g step Each.none = Each.none
  each_map f g step (Each.more {x} {y} r h) = Each.more (step x y r) (each_map f g step h)

  pub each_of_one : {C : Type 0} (f : C → A) (g : C → B) → ((x : C) → R (f x) (g x)) → (xs : List C) → Each R (map f xs) (map g xs)
  each_of_one f g h [] = Each.none
  each_of_one f g h (x ∷ xs) = Each.more (h x) (each_of_one f g h xs)

-- ---- rows that join

pub record JoinedAlike (new : Renumbering) (j k : Joined) : Type 0 where
  pub rows : Each (Alike new) j.rows k.rows
  pub places : j.places ≡ k.places

module _ {new : Renumbering} where
  position_alike : {r s : List Element} → Alike new r s → {rs ss : List (List Element)} → Each (Alike new) rs ss → position r rs ≡ position s ss
  unfolding position
  position_alike h Each.none = refl
  position_alike h (Each.more k ks) = ap₂ (λ (b : Bool) (n : ℕ). cond b 0 (suc n)) (same_row_alike k h) (position_alike h ks)

  join_alike : {r s : List Element} {j k : Joined} → Alike new r s → JoinedAlike new j k → JoinedAlike new (add_variable_row r j) (add_variable_row s k)
  unfolding add_variable_row
  join_alike {r} {s} {j} {k} h a =
      let p = position_alike h a.rows in
      record {
        rows = rw (p, each_length a.rows) (go (ltb (position s k.rows) (length k.rows)));
        places = ap₂ (λ (ps : List ℕ) (q : ℕ). ps ++ (q ∷ [])) a.places p;
      }
    where
      go : (b : Bool) → Each (Alike new) (cond b j.rows (j.rows ++ (r ∷ []))) (cond b k.rows (k.rows ++ (s ∷ [])))
      go true = a.rows
      go false = each_append a.rows (Each.more h Each.none)

  pub joins_alike : {rs ss : List (List Element)} {j k : Joined} → Each (Alike new) rs ss → JoinedAlike new j k
      → JoinedAlike new (add_variable_rows rs j) (add_variable_rows ss k)
  unfolding add_variable_rows
  joins_alike Each.none a = a
  joins_alike (Each.more h hs) a = joins_alike hs (join_alike h a)

-- ---- what the nodes ask for

pub record RequestAlike (new : Renumbering) (p q : RowRequest) : Type 0 where
  pub node : p.node ≡ q.node
  pub row_type : p.row_type ≡ q.row_type
  pub set : p.set ≡ q.set
  pub row : Alike new p.row q.row

module _ {new : Renumbering} {f : ColumnMap} {es : List MappedEdge} (moved : MovedEdges new f es) where
  exclusive_alike : (n : ℕ) (ks : List ℕ) → Each (RequestAlike new) (exclusive_requests f n ks) (exclusive_requests (with_edges f es) n ks)
  unfolding exclusive_requests
  exclusive_alike n [] = Each.none
  exclusive_alike n (k ∷ ks) =
      Each.more (record { node = refl; row_type = refl; set = refl; row = upper_row_alike moved n k one64 })
      (Each.more (record { node = refl; row_type = refl; set = refl; row = lower_row_alike moved n k (neg one64) }) (exclusive_alike n ks))

  asked_alike : (n : ℕ) (ks : List ℕ) → Each (RequestAlike new) (requests_by_sets f n ks) (requests_by_sets (with_edges f es) n ks)
  unfolding requests_by_sets
  asked_alike n [] = Each.more (record { node = refl; row_type = refl; set = refl; row = node_row_alike moved n }) Each.none
  asked_alike n (k ∷ ks) = exclusive_alike n (k ∷ ks)

  pub requests_alike : (n : ℕ) (xs : List Node) → Each (RequestAlike new) (requests_from f n xs) (requests_from (with_edges f es) n xs)
  unfolding requests_from with_edges
  requests_alike n [] = Each.none
  requests_alike n (x ∷ xs) = each_append (go x.constant) (requests_alike (suc n) xs)
    where
      go : (b : Bool) → Each (RequestAlike new) (cond b [] (requests_by_sets f n (sets_with_node n 0 f.sets)))
          (cond b [] (requests_by_sets (with_edges f es) n (sets_with_node n 0 f.sets)))
      go true = Each.none
      go false = asked_alike n (sets_with_node n 0 f.sets)

pub placed_alike : {new : Renumbering} {ps qs : List RowRequest} → Each (RequestAlike new) ps qs → (rows : List ℕ) → placed_node_rows ps rows ≡ placed_node_rows qs rows
unfolding placed_node_rows
placed_alike Each.none rows = refl
placed_alike (Each.more h hs) [] = refl
placed_alike (Each.more h hs) (row ∷ rows) =
    ap₂ (λ (n : NodeRow) (ns : List NodeRow). n ∷ ns) (rw (h.node, h.row_type, h.set)) (placed_alike hs rows)
