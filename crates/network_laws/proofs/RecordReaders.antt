-- Each record: the definition's reader is the check, with the record read where it stands. Assumes nothing.
use Prim.Native.Nat.{ℕ, zero, suc, ◌+◌, ◌*◌, ◌<◌}
use mathlib.Core.Path.{◌≡◌, refl, sym, ◌∙◌, ap}
use mathlib.Core.List.{List, [], ◌∷◌, ◌++◌, append-nil}
use mathlib.Core.Bool.{Bool, true, false, cond, not, ◌&&◌, ◌||◌}
use native.Mathlib.Omega.{arith}
use borrow.Author.Tests.{ltb-true}
use lib.ListN.{length}
use lib.Seq.{append_snoc}
use lib.Dec.{ltb, eqb}
use Rattle.pywr.specs.Result.{Result, value, refused, ◌>>=◌, need}
use Rattle.pywr.specs.Bytes.{byte, le16, le32, u8, u16, bits64, checked}
use Rattle.pywr.specs.Numbers.{is_small, of_pattern}
use Rattle.pywr.specs.Network.{Node, Edge, Part, Network, kind_of, no_node}
use Rattle.pywr.specs.NetworkFile.{Read, between, read_node, read_edge, read_members, read_sets, read_aggregate, read_parts, read_virtual_storage, joins, wrong_way, least_date, most_date, most_constant}
use Rattle.fields.specs.Records.{records_at, records_end, check_each}
use Rattle.std.specs.Prelude.{Ok, Err}
use Rattle.pywr.specs.declared.Reason.{Reason}
use Rattle.pywr.specs.Answers.{number_of_reason, refusal_at}
use Rattle.fields.specs.Field.{Checked}
use Rattle.fields.proofs.RecordLaws.{records_length, records_get, end_fixed}
use Rattle.network_node.specs.Node.{node_at, check_node}
use Rattle.network_edge.specs.Edge.{edge_at, pair_among, wrong_way_at, check_ends, check_edge}
use Rattle.network_aggregate.specs.AggregatedNode.{aggregate_set_at, set_end, aggregate_at, check_member, check_set, check_aggregate}
use Rattle.network_virtual_storage.specs.VirtualStorage.{part_at, period_at, virtual_storage_at, check_part, check_dates, check_virtual_storage}
use Rattle.network_laws.specs.NetworkAt.{node_records, network_at}
use Rattle.network_laws.proofs.Readers.{answer, byte_then, byte_through, node_then, active_then, bound_then, coefficient_then, read_then}
use Rattle.network_laws.proofs.Passed.{member_end, set_end_lem, part_end}

-- the last reader of a record: the item is made of what it read
read_last : {A B : Type 0} (f : A → B) (part : A) (st : Checked)
    → (answer part st >>= λ r. value (record { item = f r.item; next = r.next })) ≡ answer (f part) st
unfolding ◌>>=◌
read_last f part (Ok x) = refl
read_last f part (Err r) = refl

bind_assoc : {A B C : Type 0} (r : Result A) (f : A → Result B) (g : B → Result C) → (r >>= f >>= g) ≡ (r >>= λ a. f a >>= g)
unfolding ◌>>=◌
bind_assoc (value a) f g = refl
bind_assoc (refused n p) f g = refl

bind_cong : {A B : Type 0} (r : Result A) (f g : A → Result B) → ((a : A) → f a ≡ g a) → (r >>= f) ≡ (r >>= g)
unfolding ◌>>=◌
bind_cong (value a) f g e = e a
bind_cong (refused n p) f g e = refl

-- a reader of `count` records, which keeps those read so far: by induction, once for all of the definition's
module _ {A : Type 0} (read : ℕ → A) (end : ℕ → ℕ) (check : ℕ → Checked) (ends : (at x : ℕ) → check at ≡ Ok x → x ≡ end at)
    (many : ℕ → List A → ℕ → Result (Read (List A)))
    (none : (so_far : List A) (at : ℕ) → many zero so_far at ≡ value (record { item = so_far; next = at }))
    (more : (count : ℕ) (so_far : List A) (at : ℕ) → many (suc count) so_far at ≡ (answer (read at) (check at) >>= λ r. many count (so_far ++ (r.item ∷ [])) r.next))
  where
    many_law : (count : ℕ) (so_far : List A) (at : ℕ) → many count so_far at ≡ answer (so_far ++ records_at read end count at) (check_each check count at)
    unfolding check_each records_at
    many_law zero so_far at = none so_far at ∙ rw (append-nil so_far)
    many_law (suc count) so_far at =
        more count so_far at
        ∙ read_then (read at) _ (check at) _ _
        (λ x e.
        many_law count (so_far ++ (read at ∷ [])) x
        ∙ ap (λ (l : List A). answer l (check_each check count x))
        (append_snoc so_far (read at) (records_at read end count x) ∙ ap (λ (k : ℕ). so_far ++ (read at ∷ records_at read end count k)) (ends at x e)))

module _ (file : List ℕ) where
  pub node_law : (at : ℕ) → read_node file at ≡ answer (node_at file at) (check_node file at)
  unfolding read_node check_node
  node_law at =
      byte_then _ _ _ file at (at + 2) 0 3
      (byte_then _ _ _ file at (at + 3) 0 (most_constant (byte file (at + 2)))
      (bound_then _ _ _ file at (at + 4) (byte file (at + 3))
      (bound_then _ _ _ file at (at + 12) (byte file (at + 3)) refl)))

  module _ (place nodes : ℕ) where
    -- ---- the nodes of a set, the sets of an aggregate

    members_more : (count : ℕ) (so_far : List ℕ) (at : ℕ) → read_members file place nodes (suc count) so_far at
        ≡ (answer (le16 file at) (check_member file place nodes at) >>= λ r. read_members file place nodes count (so_far ++ (r.item ∷ [])) r.next)
    unfolding read_members check_member ◌>>=◌
    members_more count so_far at =
        sym (bind_assoc {B = Read ℕ} (checked 4 place (λ n. ltb n nodes) (u16 file place 1 at)) (λ n. value (record { item = n; next = at + 2 })) _)
        ∙ ap (λ (read : Result (Read ℕ)). read >>= λ r. read_members file place nodes count (so_far ++ (r.item ∷ [])) r.next) (node_then _ _ _ file place at nodes (λ _. refl))

    members_law : (count : ℕ) (so_far : List ℕ) (at : ℕ)
        → read_members file place nodes count so_far at ≡ answer (so_far ++ records_at (le16 file) (λ at. at + 2) count at) (check_each (check_member file place nodes) count at)
    unfolding read_members
    members_law = many_law (le16 file) (λ at. at + 2) (check_member file place nodes) (member_end file place nodes) (read_members file place nodes) (λ so_far at. refl) members_more

    sets_more : (count : ℕ) (so_far : List (List ℕ)) (at : ℕ) → read_sets file place nodes (suc count) so_far at
        ≡ (answer (aggregate_set_at file at) (check_set file place nodes at) >>= λ r. read_sets file place nodes count (so_far ++ (r.item ∷ [])) r.next)
    unfolding read_sets check_set
    sets_more count so_far at =
        sym (bind_assoc (checked 3 place (between 1 16) (u8 file place 1 at)) (λ size. read_members file place nodes size [] (at + 1)) _)
        ∙ ap (λ (read : Result (Read (List ℕ))). read >>= λ r. read_sets file place nodes count (so_far ++ (r.item ∷ [])) r.next)
        (byte_then _ _ _ file place at 1 16 (members_law (byte file at) [] (at + 1)))

    sets_law : (count : ℕ) (so_far : List (List ℕ)) (at : ℕ)
        → read_sets file place nodes count so_far at ≡ answer (so_far ++ records_at (aggregate_set_at file) (set_end file) count at) (check_each (check_set file place nodes) count at)
    unfolding read_sets
    sets_law =
        many_law (aggregate_set_at file) (set_end file) (check_set file place nodes) (set_end_lem file place nodes) (read_sets file place nodes) (λ so_far at. refl) sets_more

    -- ---- the parts of a virtual storage

    parts_more : (count : ℕ) (so_far : List Part) (at : ℕ) → read_parts file place nodes (suc count) so_far at
        ≡ (answer (part_at file at) (check_part file place nodes at) >>= λ r. read_parts file place nodes count (so_far ++ (r.item ∷ [])) r.next)
    unfolding read_parts check_part ◌>>=◌
    parts_more count so_far at =
        let node = checked 4 place (λ n. ltb n nodes) (u16 file place 1 at) in
        let factor = checked 3 place is_small (bits64 file place 1 (at + 2)) in
        let part : ℕ → ℕ → Result (Read Part) = λ n bits. value (record { item = record { node = n; factor = of_pattern bits }; next = at + 10 }) in
        let rest : Read Part → Result (Read (List Part)) = λ r. read_parts file place nodes count (so_far ++ (r.item ∷ [])) r.next in
        bind_cong node _ _ (λ n. sym (bind_assoc factor (part n) rest))
        ∙ sym (bind_assoc node (λ n. factor >>= part n) rest)
        ∙ ap (λ (read : Result (Read Part)). read >>= rest) (node_then _ _ _ file place at nodes (λ _. coefficient_then _ _ _ file place (at + 2) refl))

    parts_law : (count : ℕ) (so_far : List Part) (at : ℕ)
        → read_parts file place nodes count so_far at ≡ answer (so_far ++ records_at (part_at file) (λ at. at + 10) count at) (check_each (check_part file place nodes) count at)
    unfolding read_parts
    parts_law = many_law (part_at file) (λ at. at + 10) (check_part file place nodes) (part_end file place nodes) (read_parts file place nodes) (λ so_far at. refl) parts_more

  pub aggregate_law : (net : Network) (at : ℕ) → read_aggregate net file at ≡ answer (aggregate_at file at) (check_aggregate file (length net.nodes) at)
  unfolding read_aggregate check_aggregate
  aggregate_law net at =
      byte_then _ _ _ file at (at + 2) 0 1
      (byte_then _ _ _ file at (at + 3) 1 16
      (active_then _ _ _ file at (at + 4) (byte file (at + 2)) 0
      (active_then _ _ _ file at (at + 8) (byte file (at + 2)) (le32 file (at + 4))
      (rw (sets_law at (length net.nodes) (byte file (at + 3)) [] (at + 12))
      (read_last
      (λ (sets : List (List ℕ)). record { exclusive = eqb (byte file (at + 2)) 1; min_active = le32 file (at + 4); max_active = le32 file (at + 8); sets = sets })
      (records_at (aggregate_set_at file) (set_end file) (byte file (at + 3)) (at + 12)) (check_each (check_set file at (length net.nodes)) (byte file (at + 3)) (at + 12)))))))

  pub virtual_storage_law : (net : Network) (at : ℕ) → read_virtual_storage net file at ≡ answer (virtual_storage_at file at) (check_virtual_storage file (length net.nodes) at)
  unfolding read_virtual_storage check_virtual_storage check_dates
  virtual_storage_law net at =
      let p = byte file (at + 2) in
      byte_then _ _ _ file at (at + 2) 0 1
      (byte_through _ _ _ _ file at (at + 3) (least_date p) (most_date p 12)
      (byte_through _ _ _ _ file at (at + 4) (least_date p) (most_date p 31)
      (byte_through _ _ _ _ file at (at + 5) (least_date p) (most_date p 12)
      (byte_through _ _ _ _ file at (at + 6) (least_date p) (most_date p 31)
      (byte_then _ _ _ file at (at + 7) 1 64
      (rw (parts_law at (length net.nodes) (byte file (at + 7)) [] (at + 8))
      (read_last (λ (parts : List Part). record { period = period_at file at; parts = parts })
      (records_at (part_at file) (λ at. at + 10) (byte file (at + 7)) (at + 8)) (check_each (check_part file at (length net.nodes)) (byte file (at + 7)) (at + 8)))))))))

  -- ---- an edge: its ends are looked up where their records stand

  pub kind_law : (n i : ℕ) → i < n → kind_of (node_records file n) i ≡ byte file (20 * i + 2)
  unfolding kind_of
  kind_law n i h =
      let q : records_end (λ at. at + 20) i 0 ≡ 20 * i = end_fixed 20 i 0 ∙ omega arith in
      ap (λ (v : Node). v.kind) (records_get (node_at file) (λ at. at + 20) n 0 i no_node h) ∙ ap (λ (k : ℕ). byte file (k + 2)) q

  joins_law : (e at from to : ℕ) → joins (records_at (edge_at file) (λ at. at + 6) e at) from to ≡ pair_among file e at from to
  unfolding joins pair_among records_at
  joins_law zero at from to = refl
  joins_law (suc e) at from to = ap (λ (b : Bool). (eqb (le16 file (at + 2)) from && eqb (le16 file (at + 4)) to) || b) (joins_law e (at + 6) from to)

  way_law : (n e a v from to : ℕ) → from < n → to < n → wrong_way (network_at file n e a v).nodes from to ≡ wrong_way_at file from to
  unfolding wrong_way wrong_way_at network_at
  way_law n e a v from to f t = rw (kind_law n to t, kind_law n from f)

  -- 5, 19, 20: one law over the number
  need_law : (b : Bool) (reason : Reason) (place : ℕ) (edge : Edge) (next : Edge → Result (Read Edge)) (st : Checked) → next edge ≡ answer edge st
      → (need (not b) (number_of_reason reason) place edge >>= next) ≡ answer edge (cond b (Err (refusal_at reason place)) st)
  unfolding need ◌>>=◌
  need_law true reason place edge next st h = refl
  need_law false reason place edge next st h = h

  pub edge_law : (n e a v at : ℕ) → read_edge (network_at file n e a v) file at ≡ answer (edge_at file at) (check_edge file n e at)
  unfolding read_edge check_edge check_ends network_at
  edge_law n e a v at =
      let from = le16 file (at + 2) in
      let to = le16 file (at + 4) in
      let edge : Edge = edge_at file at in
      let repeats = joins (network_at file n e a v).edges from to in
      let read : Edge → Result (Read Edge) = λ item. value (record { item = item; next = at + 6 }) in
      let unrepeated : Bool → Edge → Result (Read Edge) = λ repeats apart. need (not repeats) 20 (at + 2) apart >>= read in
      let answers : Bool → Bool → Result (Read Edge) = λ wrong repeats.
      need (not wrong) 5 (at + 2) edge >>= λ right_way. need (not (eqb from to)) 19 (at + 2) right_way >>= unrepeated repeats in
      rw (records_length (node_at file) (λ at. at + 20) n 0)
      (node_then _ _ _ file at (at + 2) n
      (λ f. node_then _ _ _ file at (at + 4) n
      (λ t. ap (λ (wrong : Bool). answers wrong repeats) (way_law n e a v from to (ltb-true _ _ f) (ltb-true _ _ t))
      ∙ ap (answers (wrong_way_at file from to)) (joins_law e (20 * n) from to)
      ∙ need_law (wrong_way_at file from to) Reason.WrongEnd (at + 2) edge _ _
      (need_law (eqb from to) Reason.EdgeToItself (at + 2) edge _ _ (need_law (pair_among file e (20 * n) from to) Reason.RepeatedEdge (at + 2) edge read _ refl)))))
