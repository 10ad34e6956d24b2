-- Plain joints: an edge shares with the edge that enters the joint which it leaves, and joined edges are an equivalence. Assumes nothing.
use mathlib.Core.Path.{◌≡◌, refl, sym, ap, ◌∙◌, subst}
use Prim.Native.Nat.{ℕ, ◌<◌}
use native.Mathlib.Nat.{zero-add}
use mathlib.Core.List.{List, [], ◌∷◌, Memᴰ}
use mathlib.Core.Option.{some}
use lib.ListN.{length, get_elem?}
use Rattle.pywr.specs.Network.{Edge, Network, source, incoming, outgoing}
use Rattle.pywr.proofs.LinkLaws.{prev_of, ends_sound, Single, Shares, shares, shares_back, exit_is}
use Rattle.pywr.proofs.ListLaws.{found_below}
use Rattle.pywr.proofs.ColumnLaws.{Equivalence}
use Rattle.theorem_file_order.specs.ColumnClasses.{PlainJoint, Joined, itself, downstream, upstream}

module _ (net : Network) where
  abbrev pub single : (node into out : ℕ) → PlainJoint net node into out → Single (incoming net node) (outgoing net node) into
  single node into out j = record { exit = out; into_is = j.one_in; out_is = j.one_out }

  -- the edge that leaves a joint, by its number
  pub record Leaves (node out : ℕ) : Type 0 where
    pub edge : Edge
    pub found : get_elem? net.edges out ≡ some edge
    pub from_is : edge.from ≡ node
    pub below : out < length net.edges

  pub leaves : (node into out : ℕ) → PlainJoint net node into out → Leaves node out
  unfolding outgoing
  leaves node into out j =
      let r = ends_sound source node 0 out net.edges (subst (λ (l : List ℕ). Memᴰ out l) (sym j.one_out) (Memᴰ.head refl)) in
      let found : get_elem? net.edges out ≡ some r.edge = ap (get_elem? net.edges) (r.where_at ∙ zero-add r.at) ∙ r.found in
      record { edge = r.edge; found = found; from_is = r.ends; below = found_below net.edges out r.edge found }

  pub joint_shares : (node into out : ℕ) → PlainJoint net node into out → prev_of net out ≡ some into
  joint_shares node into out j =
      let l = leaves node into out j in
      shares_back net node out into l.edge l.found l.from_is j.is_link (single node into out j)

  pub shares_joint : (into out : ℕ) → prev_of net out ≡ some into → (node : ℕ) × PlainJoint net node into out
  shares_joint into out h =
      let s : Shares net out into = shares net out into h in
      (s.edge.from, record { is_link = s.is_link; one_in = s.alone.into_is; one_out = s.alone.out_is ∙ ap (λ (k : ℕ). k ∷ []) (sym (exit_is net out into s)) })

  joined_on : (a b c : ℕ) → Joined net a b → Joined net b c → Joined net a c
  joined_on a b c itself k = k
  joined_on a b c (downstream node j rest) k = downstream node j (joined_on _ b c rest k)
  joined_on a b c (upstream node j rest) k = upstream node j (joined_on _ b c rest k)

  joined_back : (a b : ℕ) → Joined net a b → Joined net b a
  joined_back a b itself = itself
  joined_back a b (downstream node j rest) = joined_on b _ a (joined_back _ b rest) (upstream node j itself)
  joined_back a b (upstream node j rest) = joined_on b _ a (joined_back _ b rest) (downstream node j itself)

  pub joined_equivalence : Equivalence (Joined net)
  joined_equivalence = record { itself = λ a. itself; back = joined_back; on = joined_on }
