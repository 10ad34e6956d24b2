-- The columns of a network that was read are the classes of joined edges, numbered by their lowest edges. Assumes nothing.
use mathlib.Core.Path.{◌≡◌, refl, sym, ap, ◌∙◌, subst}
use Prim.Native.Nat.{ℕ, zero, suc, ◌<◌, ◌≤◌, zero-le, suc-le-suc}
use native.Mathlib.Omega.{arith}
use mathlib.Core.Bool.{Bool, true, false, cond}
use mathlib.Core.List.{List, [], ◌∷◌}
use mathlib.Core.Option
use mathlib.Core.Option.{Option, none, some}
use lib.ListN.{length, get_or}
use lib.Dec.{T, eqb, eqb→eq, eqb_refl}
use Rattle.laws.proofs.Tests.{of_true}
use Rattle.pywr.specs.Network.{link, Network, kind_of}
use Rattle.pywr.specs.ColEdgeMap.{columns, column_at, column_of}
use Rattle.pywr.specs.Rows.{column_map, mass_row}
use Rattle.pywr.proofs.ColumnLaws.{Related}
use Rattle.pywr.proofs.LinkLaws.{NoSelf, columns_related}
use Rattle.pywr.proofs.TurnLaws.{column_is, columns_joined, columns_begun, columns_ranked}
use Rattle.pywr.proofs.MassLaws.{dropped_single, single_dropped}
use Rattle.pywr.proofs.FitLaws.{columns_long}
use Rattle.pywr.proofs.ListLaws.{not_found, same_some}
use Rattle.pywr.proofs.ReadLaws.{Sound, read_sound}
use Rattle.pywr.proofs.StepMeets.{kind_found}
use Rattle.theorem_file_order.specs.ColumnClasses.{PlainJoint, Joined, itself, downstream, upstream, ColumnClasses, ColumnsAreClasses}
use Rattle.theorem_file_order.proofs.Joints.{single, leaves, joint_shares, shares_joint, joined_equivalence}

-- ---- the first edge of a column

first : ℕ → List (Option ℕ) → ℕ
first k [] = 0
first k (none ∷ cs) = suc (first k cs)
first k (some j ∷ cs) = cond (eqb j k) 0 (suc (first k cs))

is_first : (k : ℕ) (cs : List (Option ℕ)) (e : ℕ) → get_or cs e none ≡ some k → (get_or cs (first k cs) none ≡ some k) × (first k cs ≤ e)
unfolding first
is_first k [] e h = not_found k h
is_first k (none ∷ cs) zero h = not_found k h
is_first k (none ∷ cs) (suc e) h = let r = is_first k cs e h in (r.0, suc-le-suc r.1)
is_first k (some j ∷ cs) e h = go (eqb j k) refl e h (λ d q. is_first k cs d q)
  where
    go : (b : Bool) → eqb j k ≡ b → (e : ℕ) → get_or (some j ∷ cs) e none ≡ some k
        → ((d : ℕ) → get_or cs d none ≡ some k → (get_or cs (first k cs) none ≡ some k) × (first k cs ≤ d))
        → (get_or (some j ∷ cs) (cond b 0 (suc (first k cs))) none ≡ some k) × (cond b 0 (suc (first k cs)) ≤ e)
    go true q e h ih = (ap {B = Option ℕ} some (eqb→eq j k (of_true (eqb j k) q)), zero-le)
    go false q zero h ih = absurd (subst T q (subst (λ (n : ℕ). T (eqb j n)) (same_some j k h) (eqb_refl j)))
    go false q (suc d) h ih = let r = ih d h in (r.0, suc-le-suc r.1)

module _ (net : Network) (noself : NoSelf net) where
  pub column_of_lem : (e k : ℕ) → column_at (columns net) e ≡ some k → column_of net e ≡ k
  unfolding column_of
  column_of_lem e k q = ap (λ (o : Option ℕ). Option.get_or o 0) q

  -- ---- one column exactly where plain joints join

  across : (node into out : ℕ) → PlainJoint net node into out → column_of net into ≡ column_of net out
  across node into out j =
      let t = columns_joined net noself out into (leaves net node into out j).below (joint_shares net node into out j) in
      column_of_lem into t.column t.second ∙ sym (column_of_lem out t.column t.first)

  pub joined_column : (e f : ℕ) → Joined net e f → column_of net e ≡ column_of net f
  joined_column e f itself = refl
  joined_column e f (downstream node j rest) = across node e _ j ∙ joined_column _ f rest
  joined_column e f (upstream node j rest) = sym (across node _ e j) ∙ joined_column _ f rest

  related : Related (Joined net) (columns net)
  related = columns_related net noself (Joined net) (joined_equivalence net) (λ e p h. let j = shares_joint net p e h in upstream j.0 j.1 itself)

  pub column_joined : (e f : ℕ) → e < length net.edges → f < length net.edges → column_of net e ≡ column_of net f → Joined net e f
  column_joined e f he hf q = related.same e f (column_of net f) (column_is net noself e he ∙ ap {B = Option ℕ} some q) (column_is net noself f hf)

  pub column_below : (e : ℕ) → e < length net.edges → column_of net e < (columns net).count
  column_below e h = related.below e (column_of net e) (column_is net noself e h)

  -- ---- the lowest edges

  pub lowest : ℕ → ℕ
  lowest k = first k (columns net).of

  first_of : (k e : ℕ) → column_at (columns net) e ≡ some k → (column_at (columns net) (lowest k) ≡ some k) × (lowest k ≤ e)
  unfolding column_at lowest
  first_of k e h = is_first k (columns net).of e h

  pub lowest_lies : (k : ℕ) → k < (columns net).count → (lowest k < length net.edges) × (column_of net (lowest k) ≡ k)
  lowest_lies k h =
      let u = columns_begun net noself k h in
      let r = first_of k u.edge u.is in
      let b = u.below in
      let l = r.1 in
      (omega arith, column_of_lem (lowest k) k r.0)

  pub lowest_least : (e : ℕ) → e < length net.edges → lowest (column_of net e) ≤ e
  lowest_least e h = (first_of (column_of net e) e (column_is net noself e h)).1

  pub lowest_rising : (k l : ℕ) → k < l → l < (columns net).count → lowest k < lowest l
  lowest_rising k l h i =
      let w = lowest_lies l i in
      let at : column_at (columns net) (lowest l) ≡ some l = column_is net noself (lowest l) w.0 ∙ ap {B = Option ℕ} some w.1 in
      let u = columns_ranked net noself (lowest l) k l at h in
      let r = first_of k u.edge u.is in
      let b = u.below in
      let m = r.1 in
      omega arith

-- ---- the mass row of a link

module _ (net : Network) (sound : Sound net) (n : ℕ) (is_link : T (eqb (kind_of net.nodes n) link)) where
  pub dropped_joint : length (mass_row (column_map net) n) ≡ 1 → (into : ℕ) × (out : ℕ) × PlainJoint net n into out
  dropped_joint one =
      let x = kind_found net.nodes n is_link in
      let j = sound.links n x.0 x.1 x.2 in
      let s = dropped_single net sound.noself (columns_long net) n j.a j.b j.mi j.mo j.ins j.outs one in
      (s.0, s.1.exit, record { is_link = is_link; one_in = s.1.into_is; one_out = s.1.out_is })

  pub joint_dropped : (into out : ℕ) → PlainJoint net n into out → length (mass_row (column_map net) n) ≡ 1
  joint_dropped into out j = single_dropped net sound.noself (columns_long net) n is_link into (single net n into out j)

pub column_classes : (net : Network) → Sound net → ColumnClasses net
column_classes net sound =
    let noself = sound.noself in
    record {
      placed = λ e h. (column_is net noself e h, column_below net noself e h);
      classes = λ e f he hf. (column_joined net noself e f he hf, joined_column net noself e f);
      lowest = lowest net noself;
      lies = lowest_lies net noself;
      least = lowest_least net noself;
      rising = lowest_rising net noself;
      dropped = λ n t. (dropped_joint net sound n t, λ j. joint_dropped net sound n t j.0 j.1 j.2);
    }

pub columns_are_classes : ColumnsAreClasses
columns_are_classes file net read = column_classes net (read_sound file net read)
