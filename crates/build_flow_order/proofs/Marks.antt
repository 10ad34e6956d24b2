-- The order, and the table of the edges that are seen, with one edge more. Assumes nothing.
use Prim.Native.Nat.{ℕ, zero, suc, ◌+◌, ◌<◌, ◌≤◌}
use mathlib.Core.Path.{◌≡◌, refl, sym, ap, ◌∙◌}
use mathlib.Core.Logic.{◌≢◌}
use mathlib.Core.List.{List, [], ◌∷◌, ◌++◌}
use mathlib.Core.Bool.{Bool, true, false, ◌||◌}
use native.Mathlib.Decide.{ℕ_discrete}
use native.Mathlib.Omega.{arith}
use lib.ListN.{length, get_or, set, replicate, length-append, length-set, length-replicate, get_or-replicate}
use lib.Seq.{get_or-set_same, get_or-set_other}
use borrow.Author.Tests.{ne_eqb}
use Rattle.laws.proofs.Sets.{sets_snoc}
use Rattle.laws.proofs.Tests.{to_true}
use Rattle.layout.specs.Layout.{edge_ceiling, flow_order_at}
use Rattle.pywr.specs.Network.{listed}
use Rattle.pywr.proofs.OnceLaws.{listed_append, listed_last}
use Rattle.build_flow_order.specs.Ordered.{Ordered, Marked, unseen}

-- ---- how many edges are seen

unseen_less : (edges e : ℕ) (seen : List Bool) → e < edges → e < length seen → get_or seen e false ≡ false
    → unseen edges seen ≡ suc (unseen edges (set seen e true))
unfolding unseen
unseen_less zero e seen h i z = absurd (omega arith)
unseen_less (suc edges) e [] h i z = absurd (omega arith)
unseen_less (suc edges) zero (true ∷ seen) h i z = absurd (let q : ◌≡◌ {A = ℕ} 0 1 = cc in omega arith)
unseen_less (suc edges) zero (false ∷ seen) h i z = refl
unseen_less (suc edges) (suc e) (true ∷ seen) h i z = unseen_less edges e seen (omega arith) (omega arith) z
unseen_less (suc edges) (suc e) (false ∷ seen) h i z = ap suc (unseen_less edges e seen (omega arith) (omega arith) z)

unseen_all : (edges n : ℕ) → edges ≤ n → unseen edges (replicate n false) ≡ edges
unfolding unseen
unseen_all zero n h = refl
unseen_all (suc edges) zero h = absurd (omega arith)
unseen_all (suc edges) (suc n) h = ap suc (unseen_all edges n (omega arith))

pub none_marked : (edges : ℕ) → edges ≤ edge_ceiling → Marked edges (replicate edge_ceiling false) 0
none_marked edges h = record { long = length-replicate edge_ceiling false; all = omega (arith, unseen_all edges edge_ceiling h) }

module _ {edges e count : ℕ} {seen : List Bool} (h : Marked edges seen count) (few : edges ≤ edge_ceiling) (under : e < edges)
    (z : get_or seen e false ≡ false) where
  less : unseen edges seen ≡ suc (unseen edges (set seen e true))
  less = unseen_less edges e seen under (omega (arith, h.long)) z

  -- with an edge that is not seen, not all are
  pub room : count < edges
  room = omega (arith, less, h.all)

  pub one_marked : Marked edges (set seen e true) (count + 1)
  one_marked = record { long = length-set seen e true ∙ h.long; all = omega (arith, less, h.all) }

-- ---- the order

pub none_ordered : (edges : ℕ) (shape : List ℕ) → edges ≤ edge_ceiling → Ordered edges shape [] shape (replicate edge_ceiling false) 0
unfolding listed
none_ordered edges shape few = record { written = refl; count_is = refl; seen_is = λ e h. get_or-replicate edge_ceiling e false false (omega arith) }

listed_other : (x e : ℕ) (order : List ℕ) → x ≢ e → listed x (order ++ e ∷ []) ≡ listed x order
unfolding listed
listed_other x e order f = listed_append x order (e ∷ []) ∙ rw (ne_eqb x e f) (or_no (listed x order))
  where
    or_no : (b : Bool) → b || false ≡ b
    or_no true = refl
    or_no false = refl

pub one_ordered : (edges e count : ℕ) (shape₀ order shape : List ℕ) (seen : List Bool) → Ordered edges shape₀ order shape seen count → e < length seen
    → Ordered edges shape₀ (order ++ e ∷ []) (set shape (flow_order_at + count) e) (set seen e true) (count + 1)
one_ordered edges e count shape₀ order shape seen h i =
    record {
      written = rw (h.written, h.count_is) (sym (sets_snoc shape₀ flow_order_at order e));
      count_is = omega (arith, h.count_is, length-append order (e ∷ []));
      seen_is = λ x lt. go x lt (ℕ_discrete x e);
    }
  where
    go : (x : ℕ) → x < edges → Dec (x ≡ e) → get_or (set seen e true) x false ≡ listed x (order ++ e ∷ [])
    go x lt (yes q) = rw q (get_or-set_same seen e true false i ∙ sym (to_true (listed e (order ++ e ∷ [])) (listed_last e order)))
    go x lt (no f) = get_or-set_other seen e x true false f ∙ h.seen_is x lt ∙ sym (listed_other x e order f)
