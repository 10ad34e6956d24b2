-- A record that passed its check: where it ends, and what holds of it. Assumes nothing.
use Prim.Native.Nat.{ℕ, ◌+◌, ◌*◌, ◌<◌, ◌≤◌}
use mathlib.Core.Path.{◌≡◌, sym, ◌∙◌, ap, subst}
use mathlib.Core.List.{List}
use native.Mathlib.Omega.{arith}
use lib.ListN.{length}
use lib.Dec.{eqb}
use Rattle.pywr.specs.Bytes.{byte, le16}
use Rattle.pywr.specs.NetworkFile.{most_constant}
use Rattle.fields.specs.Field.{byte_field, node_field, active_field, check_factor}
use Rattle.fields.specs.Records.{check_each}
use Rattle.std.specs.Prelude.{Ok}
use Rattle.fields.proofs.Within.{byte_within, node_within, active_within, factor_within, ok_same, ok_unless, check_next}
use Rattle.fields.proofs.RecordLaws.{end_fixed, each_ends, each_pass, each_within}
use Rattle.network_node.specs.Node.{check_bound, check_node}
use Rattle.network_node.proofs.BoundWithin.{bound_within}
use Rattle.network_edge.specs.Edge.{pair_among, wrong_way_at, check_ends, check_edge}
use Rattle.network_aggregate.specs.AggregatedNode.{set_end, aggregate_end, check_member, check_set, check_aggregate}
use Rattle.network_virtual_storage.specs.VirtualStorage.{virtual_storage_end, check_part, check_dates, check_virtual_storage}
use Rattle.network_laws.specs.Passed.{NodePassed, EdgePassed, SetPassed, AggregatePassed, PartPassed, VirtualStoragePassed}

module _ (file : List ℕ) where
  -- ---- a node

  module _ (at x : ℕ) (h : check_node file at ≡ Ok x) where
    pub node_end : x ≡ at + 20
    unfolding check_node
    node_end =
        let a = check_next (byte_field file at (at + 2) 0 3) _ x h in
        let b = check_next (byte_field file at (at + 3) 0 (most_constant a.0)) _ x a.2 in
        let c = check_next (check_bound file at (at + 4) b.0) _ x b.2 in
        let d = check_next (check_bound file at (at + 12) b.0) _ x c.2 in
        sym (ok_same d.2)

    pub node_passed : NodePassed file at
    unfolding check_node
    node_passed =
        let a = check_next (byte_field file at (at + 2) 0 3) _ x h in
        let b = check_next (byte_field file at (at + 3) 0 (most_constant a.0)) _ x a.2 in
        let c = check_next (check_bound file at (at + 4) b.0) _ x b.2 in
        let d = check_next (check_bound file at (at + 12) b.0) _ x c.2 in
        let k = byte_within file at (at + 2) 0 3 a.0 a.1 in
        let lo = bound_within file at (at + 4) b.0 c.0 c.1 in
        let hi = bound_within file at (at + 12) b.0 d.0 d.1 in
        record {
          within = omega (arith, hi.0);
          kind = omega (arith, k.1, k.3);
          min = lo.1;
          max = hi.1;
        }

  -- ---- an edge

  ends_next : (nodes edges at from to x : ℕ) → check_ends file nodes edges at from to ≡ Ok x → x ≡ at + 6
  unfolding check_ends
  ends_next nodes edges at from to x h =
      let way = ok_unless (wrong_way_at file from to) _ _ x h in
      let apart = ok_unless (eqb from to) _ _ x way.1 in
      let pair = ok_unless (pair_among file edges (20 * nodes) from to) _ _ x apart.1 in
      sym (ok_same pair.1)

  module _ (nodes edges at x : ℕ) (h : check_edge file nodes edges at ≡ Ok x) where
    pub edge_end : x ≡ at + 6
    unfolding check_edge
    edge_end =
        let a = check_next (node_field file at (at + 2) nodes) _ x h in
        let b = check_next (node_field file at (at + 4) nodes) _ x a.2 in
        ends_next nodes edges at a.0 b.0 x b.2

    pub edge_passed : EdgePassed file nodes at
    unfolding check_edge
    edge_passed =
        let a = check_next (node_field file at (at + 2) nodes) _ x h in
        let b = check_next (node_field file at (at + 4) nodes) _ x a.2 in
        let f = node_within file at (at + 2) nodes a.0 a.1 in
        let t = node_within file at (at + 4) nodes b.0 b.1 in
        record {
          within = omega (arith, t.0);
          from = subst (λ (y : ℕ). y < nodes) f.1 f.2;
          to = subst (λ (y : ℕ). y < nodes) t.1 t.2;
        }

  module _ (place nodes : ℕ) where
    -- ---- a node of a set, and a set

    pub member_end : (at x : ℕ) → check_member file place nodes at ≡ Ok x → x ≡ at + 2
    unfolding check_member
    member_end at x e = sym (ok_same (check_next (node_field file place at nodes) _ x e).2)

    member_within : (at x : ℕ) → check_member file place nodes at ≡ Ok x → (x ≤ length file) × (le16 file at < nodes)
    unfolding check_member
    member_within at x e =
        let a = check_next (node_field file place at nodes) _ x e in
        let f = node_within file place at nodes a.0 a.1 in
        let q : at + 2 ≡ x = ok_same a.2 in
        (subst (λ (y : ℕ). y ≤ length file) q f.0, subst (λ (y : ℕ). y < nodes) f.1 f.2)

    pub set_end_lem : (at x : ℕ) → check_set file place nodes at ≡ Ok x → x ≡ set_end file at
    unfolding check_set
    set_end_lem at x h =
        let a = check_next (byte_field file place at 1 16) _ x h in
        let b = byte_within file place at 1 16 a.0 a.1 in
        each_ends (check_member file place nodes) (λ y. y + 2) member_end a.0 (at + 1) x a.2
        ∙ end_fixed 2 a.0 (at + 1)
        ∙ ap (λ (k : ℕ). at + 1 + 2 * k) b.1

    set_within : (at x : ℕ) → check_set file place nodes at ≡ Ok x → x ≤ length file
    unfolding check_set
    set_within at x h =
        let a = check_next (byte_field file place at 1 16) _ x h in
        let b = byte_within file place at 1 16 a.0 a.1 in
        each_within (check_member file place nodes) (length file) (λ y z q. (member_within y z q).0) a.0 (at + 1) x b.0 a.2

    pub set_passed : (at x : ℕ) → check_set file place nodes at ≡ Ok x → SetPassed file nodes at
    unfolding check_set
    set_passed at x h =
        let a = check_next (byte_field file place at 1 16) _ x h in
        let b = byte_within file place at 1 16 a.0 a.1 in
        let pass = each_pass (check_member file place nodes) (λ y. y + 2) member_end a.0 (at + 1) x a.2 in
        record {
          within = subst (λ (y : ℕ). y ≤ length file) (set_end_lem at x h) (set_within at x h);
          least = omega (arith, b.1, b.2);
          most = omega (arith, b.1, b.3);
          members = λ k lt. subst (λ (y : ℕ). le16 file y < nodes) (end_fixed 2 k (at + 1)) (member_within _ _ (pass k (omega (arith, lt, b.1)))).1;
        }

    -- ---- a part

    pub part_end : (at x : ℕ) → check_part file place nodes at ≡ Ok x → x ≡ at + 10
    unfolding check_part
    part_end at x e =
        let a = check_next (node_field file place at nodes) _ x e in
        sym (ok_same (check_next (check_factor file place (at + 2)) _ x a.2).2)

    part_passed : (at x : ℕ) → check_part file place nodes at ≡ Ok x → PartPassed file nodes at
    unfolding check_part
    part_passed at x e =
        let a = check_next (node_field file place at nodes) _ x e in
        let b = check_next (check_factor file place (at + 2)) _ x a.2 in
        let n = node_within file place at nodes a.0 a.1 in
        let f = factor_within file place (at + 2) b.0 b.1 in
        record {
          within = omega (arith, f.0);
          node = subst (λ (y : ℕ). y < nodes) n.1 n.2;
          factor = f.1;
        }

    part_within : (at x : ℕ) → check_part file place nodes at ≡ Ok x → x ≤ length file
    part_within at x e = omega (arith, part_end at x e, (part_passed at x e).within)

  -- ---- an aggregate

  module _ (nodes at x : ℕ) (h : check_aggregate file nodes at ≡ Ok x) where
    -- how many sets, within the file, and their check
    sets_passed : (at + 12 ≤ length file) × (1 ≤ byte file (at + 3)) × (byte file (at + 3) ≤ 16) × (check_each (check_set file at nodes) (byte file (at + 3)) (at + 12) ≡ Ok x)
    unfolding check_aggregate
    sets_passed =
        let a = check_next (byte_field file at (at + 2) 0 1) _ x h in
        let b = check_next (byte_field file at (at + 3) 1 16) _ x a.2 in
        let c = check_next (active_field file at (at + 4) a.0 0) _ x b.2 in
        let d = check_next (active_field file at (at + 8) a.0 c.0) _ x c.2 in
        let n = byte_within file at (at + 3) 1 16 b.0 b.1 in
        let m = active_within file at (at + 8) a.0 c.0 d.0 d.1 in (
          omega (arith, m.0),
          omega (arith, n.1, n.2),
          omega (arith, n.1, n.3),
          subst (λ (k : ℕ). check_each (check_set file at nodes) k (at + 12) ≡ Ok x) n.1 d.2,
        )

    pub aggregate_end_lem : x ≡ aggregate_end file at
    aggregate_end_lem = each_ends (check_set file at nodes) (set_end file) (set_end_lem at nodes) (byte file (at + 3)) (at + 12) x sets_passed.3

    pub aggregate_passed : AggregatePassed file nodes at
    aggregate_passed =
        let s = sets_passed in
        let pass = each_pass (check_set file at nodes) (set_end file) (set_end_lem at nodes) (byte file (at + 3)) (at + 12) x s.3 in
        record {
          within = subst (λ (y : ℕ). y ≤ length file) aggregate_end_lem (each_within (check_set file at nodes) (length file) (set_within at nodes) (byte file (at + 3)) (at + 12) x s.0 s.3);
          least = s.1;
          most = s.2;
          sets = λ k lt. set_passed at nodes _ _ (pass k lt);
        }

  -- ---- a virtual storage

  module _ (nodes at x : ℕ) (h : check_virtual_storage file nodes at ≡ Ok x) where
    -- how many parts, within the file, and their check
    parts_passed : (at + 8 ≤ length file) × (1 ≤ byte file (at + 7)) × (byte file (at + 7) ≤ 64) × (check_each (check_part file at nodes) (byte file (at + 7)) (at + 8) ≡ Ok x)
    unfolding check_virtual_storage
    parts_passed =
        let a = check_next (byte_field file at (at + 2) 0 1) _ x h in
        let b = check_next (check_dates file at a.0) _ x a.2 in
        let c = check_next (byte_field file at (at + 7) 1 64) _ x b.2 in
        let n = byte_within file at (at + 7) 1 64 c.0 c.1 in (
          omega (arith, n.0),
          omega (arith, n.1, n.2),
          omega (arith, n.1, n.3),
          subst (λ (k : ℕ). check_each (check_part file at nodes) k (at + 8) ≡ Ok x) n.1 c.2,
        )

    pub virtual_storage_end_lem : x ≡ virtual_storage_end file at
    virtual_storage_end_lem =
        each_ends (check_part file at nodes) (λ y. y + 10) (part_end at nodes) (byte file (at + 7)) (at + 8) x parts_passed.3 ∙ end_fixed 10 (byte file (at + 7)) (at + 8)

    pub virtual_storage_passed : VirtualStoragePassed file nodes at
    virtual_storage_passed =
        let s = parts_passed in
        let pass = each_pass (check_part file at nodes) (λ y. y + 10) (part_end at nodes) (byte file (at + 7)) (at + 8) x s.3 in
        record {
          within = subst (λ (y : ℕ). y ≤ length file) virtual_storage_end_lem (each_within (check_part file at nodes) (length file) (part_within at nodes) (byte file (at + 7)) (at + 8) x s.0 s.3);
          least = s.1;
          most = s.2;
          parts = λ k lt. subst (PartPassed file nodes) (end_fixed 10 k (at + 8)) (part_passed at nodes _ _ (pass k lt));
        }

-- what passes under a node count passes under a larger one
pub aggregate_more : (file : List ℕ) (nodes most at : ℕ) → nodes ≤ most → AggregatePassed file nodes at → AggregatePassed file most at
aggregate_more file nodes most at le h =
    record {
      within = h.within;
      least = h.least;
      most = h.most;
      sets = λ k lt.
          let s = h.sets k lt in
          record { within = s.within; least = s.least; most = s.most; members = λ j l. let m = s.members j l in omega (arith, m, le) };
    }
