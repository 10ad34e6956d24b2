-- The longest records of a network file, read where they stand. Assumes nothing.
use mathlib.Core.Path.{◌≡◌, refl, ap, ◌∙◌, subst}
use Prim.Native.Nat.{ℕ, zero, suc, ◌+◌, ◌*◌, ◌<◌}
use native.Mathlib.Omega.{arith}
use mathlib.Core.Bool.{Bool, true, false, not, ◌&&◌}
use mathlib.Core.List.{List, [], ◌∷◌, ◌++◌}
use lib.ListN.{length, drop, replicate}
use lib.Dec.{ltb, eqb}
use borrow.Author.Tests.{lt-ltb}
use Rattle.pywr.specs.Result.{value}
use Rattle.pywr.specs.Bytes.{u8, u16}
use Rattle.pywr.specs.Numbers.{is_small, of_pattern}
use Rattle.pywr.specs.Network.{Node, Edge, Aggregate, Part, VirtualStorage, Network}
use Rattle.pywr.specs.NetworkFile.{between, Read, constant_fits, most_constant, read_node, joins, wrong_way, read_edge}
use Rattle.pywr.specs.NetworkFile.{read_members, read_sets, active_fits, read_aggregate, read_parts, least_date, most_date, read_virtual_storage}
use Rattle.pywr.specs.Compute.{computing}
use Rattle.theorem_prefixes.proofs.Left.{then_value, need_true, checked_true, times, times_left, left_next, u8_left, u16_left, u32_left, bits64_left}

-- ---- the records

-- a link
abbrev pub node_bytes : List ℕ
node_bytes = 78 ∷ 68 ∷ 2 ∷ 0 ∷ replicate 16 0

abbrev pub link_node : Node
link_node = record { kind = 2; constant = false; min = of_pattern 0; max = of_pattern 0 }

-- a bound and a factor of all zero bits
pub small_zero : is_small 0 ≡ true
unfolding computing
small_zero = refl

pub node_read_lem : (file : List ℕ) (at : ℕ) (rest : List ℕ) → drop at file ≡ node_bytes ++ rest → read_node file at ≡ value (record { item = link_node; next = at + 20 })
unfolding read_node between most_constant constant_fits
node_read_lem file at rest e =
    let l = node_bytes ++ rest in
    then_value _ _ _ 2 (checked_true 3 at _ 2 (u8_left file at l e at 1 2 (omega arith)) refl)
    (then_value _ _ _ 0 (checked_true 3 at _ 0 (u8_left file at l e at 1 3 (omega arith)) refl)
    (then_value _ _ _ 0 (checked_true 3 at _ 0 (bits64_left file at l e at 1 4 (omega arith)) refl)
    (then_value _ _ _ 0 (checked_true 3 at _ 0 (bits64_left file at l e at 1 12 (omega arith)) refl) refl)))

-- an edge between nodes under 256
abbrev pub edge_bytes : Edge → List ℕ
edge_bytes x = 69 ∷ 68 ∷ x.from ∷ 0 ∷ x.to ∷ 0 ∷ []

unfoldable pub good_edge : List Node → List Edge → Edge → Bool
good_edge nodes edges x =
    ltb x.from (length nodes)
    && (ltb x.to (length nodes)
    && (not (wrong_way nodes x.from x.to) && (not (eqb x.from x.to) && not (joins edges x.from x.to))))

pub each_true : (a b : Bool) → (a && b) ≡ true → (a ≡ true) × (b ≡ true)
each_true true b e = (refl, e)
each_true false b e = absurd (let z : ◌≡◌ {A = ℕ} 0 1 = cc in omega arith)

pub edge_read : (net : Network) (file : List ℕ) (at : ℕ) (x : Edge) (rest : List ℕ) → drop at file ≡ edge_bytes x ++ rest → good_edge net.nodes net.edges x ≡ true
    → read_edge net file at ≡ value (record { item = x; next = at + 6 })
unfolding read_edge good_edge
edge_read net file at x rest e good =
    let l = edge_bytes x ++ rest in
    let from : u16 file at 1 (at + 2) ≡ value x.from = u16_left file at l e at 1 2 (omega arith) ∙ ap value (let k : x.from + 256 * 0 ≡ x.from = omega arith in k) in
    let to : u16 file at 1 (at + 4) ≡ value x.to = u16_left file at l e at 1 4 (omega arith) ∙ ap value (let k : x.to + 256 * 0 ≡ x.to = omega arith in k) in
    let a = each_true _ _ good in
    let b = each_true _ _ a.1 in
    let way = each_true _ _ b.1 in
    let apart = each_true _ _ way.1 in
    then_value _ _ _ x.from (checked_true 4 at _ x.from from a.0)
    (then_value _ _ _ x.to (checked_true 4 at _ x.to to b.0)
    (then_value _ _ _ x (need_true _ 5 (at + 2) x way.0)
    (then_value _ _ _ x (need_true _ 19 (at + 2) x apart.0) (then_value _ _ _ x (need_true _ 20 (at + 2) x apart.1) refl))))

-- a plain aggregate of 16 sets, in each of which node 0 stands 16 times
abbrev pub member_bytes : List ℕ
member_bytes = 0 ∷ 0 ∷ []

abbrev pub set_bytes : List ℕ
set_bytes = 16 ∷ times 16 member_bytes

abbrev pub aggregate_bytes : List ℕ
aggregate_bytes = 65 ∷ 71 ∷ 0 ∷ 16 ∷ 0 ∷ 0 ∷ 0 ∷ 0 ∷ 0 ∷ 0 ∷ 0 ∷ 0 ∷ times 16 set_bytes

-- one always active, of 64 parts: node 0 with factor 0
abbrev pub part_bytes : List ℕ
part_bytes = replicate 10 0

abbrev pub virtual_storage_bytes : List ℕ
virtual_storage_bytes = 86 ∷ 83 ∷ 0 ∷ 0 ∷ 0 ∷ 0 ∷ 0 ∷ 64 ∷ times 64 part_bytes

module _ (file : List ℕ) (place nodes : ℕ) (some-nodes : 0 < nodes) where
  members_read : (count : ℕ) (so_far : List ℕ) (at : ℕ) (rest : List ℕ) → drop at file ≡ times count member_bytes ++ rest
      → (r : Read (List ℕ)) × (read_members file place nodes count so_far at ≡ value r) × (r.next ≡ at + 2 * count)
  unfolding read_members
  members_read zero so_far at rest e = (record { item = so_far; next = at }, refl, omega arith)
  members_read (suc count) so_far at rest e =
      let d = times_left count member_bytes rest (drop at file) e in
      let l = member_bytes ++ (times count member_bytes ++ rest) in
      let ih = members_read count (so_far ++ (0 ∷ [])) (at + 2) rest (left_next file at member_bytes (times count member_bytes ++ rest) d) in
      let q : u16 file place 1 at ≡ value 0 = ap (u16 file place 1) (let k : at ≡ at + 0 = omega arith in k) ∙ u16_left file at l d place 1 0 (omega arith) in
      (ih.0, then_value _ _ _ 0 (checked_true 4 place _ 0 q (lt-ltb 0 nodes some-nodes)) ih.1, (let k = ih.2 in omega arith))

  sets_read : (count : ℕ) (so_far : List (List ℕ)) (at : ℕ) (rest : List ℕ) → drop at file ≡ times count set_bytes ++ rest
      → (r : Read (List (List ℕ))) × (read_sets file place nodes count so_far at ≡ value r) × (r.next ≡ at + 33 * count)
  unfolding read_sets between times
  sets_read zero so_far at rest e = (record { item = so_far; next = at }, refl, omega arith)
  sets_read (suc count) so_far at rest e =
      let d = times_left count set_bytes rest (drop at file) e in
      let l = set_bytes ++ (times count set_bytes ++ rest) in
      let q : u8 file place 1 at ≡ value 16 = ap (u8 file place 1) (let k : at ≡ at + 0 = omega arith in k) ∙ u8_left file at l d place 1 0 (omega arith) in
      let m = members_read 16 [] (at + 1) (times count set_bytes ++ rest) (left_next file at (16 ∷ []) (times 16 member_bytes ++ (times count set_bytes ++ rest)) d) in
      let after : drop (at + 1 + 32) file ≡ times count set_bytes ++ rest = left_next file (at + 1) (times 16 member_bytes) (times count set_bytes ++ rest)
      (left_next file at (16 ∷ []) (times 16 member_bytes ++ (times count set_bytes ++ rest)) d) in
      let there : at + 1 + 32 ≡ m.0.next = (let k = m.2 in omega arith) in
      let ih = sets_read count (so_far ++ (m.0.item ∷ [])) m.0.next rest (subst (λ (p : ℕ). drop p file ≡ times count set_bytes ++ rest) there after) in
      (ih.0, then_value _ _ _ 16 (checked_true 3 place _ 16 q refl) (then_value _ _ _ m.0 m.1 ih.1), (let k = ih.2 in let j = m.2 in omega arith))

  parts_read : (count : ℕ) (so_far : List Part) (at : ℕ) (rest : List ℕ) → drop at file ≡ times count part_bytes ++ rest
      → (r : Read (List Part)) × (read_parts file place nodes count so_far at ≡ value r) × (r.next ≡ at + 10 * count)
  unfolding read_parts
  parts_read zero so_far at rest e = (record { item = so_far; next = at }, refl, omega arith)
  parts_read (suc count) so_far at rest e =
      let d = times_left count part_bytes rest (drop at file) e in
      let l = part_bytes ++ (times count part_bytes ++ rest) in
      let q : u16 file place 1 at ≡ value 0 = ap (u16 file place 1) (let k : at ≡ at + 0 = omega arith in k) ∙ u16_left file at l d place 1 0 (omega arith) in
      let ih = parts_read count (so_far ++ (record { node = 0; factor = of_pattern 0 } ∷ [])) (at + 10) rest (left_next file at part_bytes (times count part_bytes ++ rest) d) in (
        ih.0,
        then_value _ _ _ 0 (checked_true 4 place _ 0 q (lt-ltb 0 nodes some-nodes))
            (then_value _ _ _ 0 (checked_true 3 place is_small 0 (bits64_left file at l d place 1 2 (omega arith)) small_zero) ih.1),
        (let k = ih.2 in omega arith),
      )

pub aggregate_read : (net : Network) (file : List ℕ) (at : ℕ) (rest : List ℕ) → drop at file ≡ aggregate_bytes ++ rest → 0 < length net.nodes
    → (r : Read Aggregate) × (read_aggregate net file at ≡ value r) × (r.next ≡ at + 540)
unfolding read_aggregate between active_fits
aggregate_read net file at rest e h =
    let l = aggregate_bytes ++ rest in
    let head : List ℕ = 65 ∷ 71 ∷ 0 ∷ 16 ∷ 0 ∷ 0 ∷ 0 ∷ 0 ∷ 0 ∷ 0 ∷ 0 ∷ 0 ∷ [] in
    let m = sets_read file at (length net.nodes) h 16 [] (at + 12) rest (left_next file at head (times 16 set_bytes ++ rest) e) in (
      record { item = record { exclusive = false; min_active = 0; max_active = 0; sets = m.0.item }; next = m.0.next },
      then_value _ _ _ 0 (checked_true 3 at _ 0 (u8_left file at l e at 1 2 (omega arith)) refl)
          (then_value _ _ _ 16 (checked_true 3 at _ 16 (u8_left file at l e at 1 3 (omega arith)) refl)
          (then_value _ _ _ 0 (checked_true 3 at _ 0 (u32_left file at l e at 1 4 (omega arith)) refl)
          (then_value _ _ _ 0 (checked_true 3 at _ 0 (u32_left file at l e at 1 8 (omega arith)) refl)
          (then_value _ _ _ m.0 m.1 refl)))),
      (let k = m.2 in omega arith),
    )

pub virtual_storage_read : (net : Network) (file : List ℕ) (at : ℕ) (rest : List ℕ) → drop at file ≡ virtual_storage_bytes ++ rest → 0 < length net.nodes
    → (r : Read VirtualStorage) × (read_virtual_storage net file at ≡ value r) × (r.next ≡ at + 648)
unfolding read_virtual_storage between least_date most_date
virtual_storage_read net file at rest e h =
    let l = virtual_storage_bytes ++ rest in
    let head : List ℕ = 86 ∷ 83 ∷ 0 ∷ 0 ∷ 0 ∷ 0 ∷ 0 ∷ 64 ∷ [] in
    let m = parts_read file at (length net.nodes) h 64 [] (at + 8) rest (left_next file at head (times 64 part_bytes ++ rest) e) in (
      record { item = record { period = record { always = true; start_month = 0; start_day = 0; end_month = 0; end_day = 0 }; parts = m.0.item }; next = m.0.next },
      then_value _ _ _ 0 (checked_true 3 at _ 0 (u8_left file at l e at 1 2 (omega arith)) refl)
          (then_value _ _ _ 0 (checked_true 3 at _ 0 (u8_left file at l e at 1 3 (omega arith)) refl)
          (then_value _ _ _ 0 (checked_true 3 at _ 0 (u8_left file at l e at 1 4 (omega arith)) refl)
          (then_value _ _ _ 0 (checked_true 3 at _ 0 (u8_left file at l e at 1 5 (omega arith)) refl)
          (then_value _ _ _ 0 (checked_true 3 at _ 0 (u8_left file at l e at 1 6 (omega arith)) refl)
          (then_value _ _ _ 64 (checked_true 3 at _ 64 (u8_left file at l e at 1 7 (omega arith)) refl)
          (then_value _ _ _ m.0 m.1 refl)))))),
      (let k = m.2 in omega arith),
    )
