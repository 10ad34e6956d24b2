-- Which nodes the marks are set for: the ends of edges, and the nodes that exclusive aggregates list. Assumes nothing.
use Prim.Native.Nat.{ℕ, suc, ◌<◌}
use mathlib.Core.Path.{◌≡◌, refl, sym, ◌∙◌, ap}
use mathlib.Core.List.{List, [], ◌∷◌, map}
use mathlib.Core.Bool.{Bool, true, false, cond, not, ◌&&◌, ◌||◌}
use borrow.Author.Tests.{eqb-true, eqb-false, eq-eqb, ne_eqb}
use lib.ListN.{length, get_or, set, replicate, length-set, length-replicate, get_or-replicate}
use lib.Seq.{get_or-set_same, get_or-set_other}
use lib.Dec.{eqb}
use Rattle.pywr.specs.Network.{Edge, Aggregate, keep_if, listed, any_listed, is_exclusive, edges_with}
use Rattle.pywr.specs.NetworkFile.{is_empty}
use Rattle.network_checks.specs.Marks.{mark_all, mark_sets, mark_exclusive}

-- ---- the marks of a list

get_d_set : (marks : List Bool) (x n : ℕ) → n < length marks → get_or (set marks x true) n false ≡ (eqb n x || get_or marks n false)
get_d_set marks x n lt = cases (eqb n x) refl
  where
    cases : (b : Bool) → eqb n x ≡ b → get_or (set marks x true) n false ≡ (eqb n x || get_or marks n false)
    cases true e = let q = eqb-true n x e in rw (e, ← q) (get_or-set_same marks n true false lt)
    cases false e = rw e (get_or-set_other marks x n true false (eqb-false n x e))

or_swap : (a b c : Bool) → (b || (a || c)) ≡ ((a || b) || c)
or_swap true true c = refl
or_swap true false c = refl
or_swap false b c = refl

pub length_mark : (ns : List ℕ) (marks : List Bool) → length (mark_all ns marks) ≡ length marks
unfolding mark_all
length_mark [] marks = refl
length_mark (x ∷ ns) marks = length_mark ns (set marks x true) ∙ length-set marks x true

pub mark_all_lem : (ns : List ℕ) (marks : List Bool) (n : ℕ) → n < length marks → get_or (mark_all ns marks) n false ≡ (listed n ns || get_or marks n false)
unfolding mark_all listed
mark_all_lem [] marks n lt = refl
mark_all_lem (x ∷ ns) marks n lt =
    mark_all_lem ns (set marks x true) n (rw (length-set marks x true) lt)
    ∙ ap (λ (b : Bool). listed n ns || b) (get_d_set marks x n lt)
    ∙ or_swap (eqb n x) (listed n ns) (get_or marks n false)

-- ---- those of the sets, and of the exclusive aggregates

length-sets : (ss : List (List ℕ)) (marks : List Bool) → length (mark_sets ss marks) ≡ length marks
unfolding mark_sets
length-sets [] marks = refl
length-sets (s ∷ ss) marks = length-sets ss (mark_all s marks) ∙ length_mark s marks

mark_sets_lem : (ss : List (List ℕ)) (marks : List Bool) (n : ℕ) → n < length marks → get_or (mark_sets ss marks) n false ≡ (any_listed n ss || get_or marks n false)
unfolding mark_sets any_listed
mark_sets_lem [] marks n lt = refl
mark_sets_lem (s ∷ ss) marks n lt =
    mark_sets_lem ss (mark_all s marks) n (rw (length_mark s marks) lt)
    ∙ ap (λ (b : Bool). any_listed n ss || b) (mark_all_lem s marks n lt)
    ∙ or_swap (listed n s) (any_listed n ss) (get_or marks n false)

-- the marks after one aggregate
abbrev marked : Aggregate → List Bool → List Bool
marked a marks = cond a.exclusive (mark_sets a.sets marks) marks

length_marked : (a : Aggregate) (marks : List Bool) → length (marked a marks) ≡ length marks
length_marked a marks = cases a.exclusive
  where
    cases : (b : Bool) → length (cond b (mark_sets a.sets marks) marks) ≡ length marks
    cases true = length-sets a.sets marks
    cases false = refl

get_marked : (a : Aggregate) (marks : List Bool) (n : ℕ) → n < length marks → get_or (marked a marks) n false ≡ ((a.exclusive && any_listed n a.sets) || get_or marks n false)
get_marked a marks n lt = cases a.exclusive
  where
    cases : (b : Bool) → get_or (cond b (mark_sets a.sets marks) marks) n false ≡ ((b && any_listed n a.sets) || get_or marks n false)
    cases true = mark_sets_lem a.sets marks n lt
    cases false = refl

mark_exclusive_lem : (ags : List Aggregate) (marks : List Bool) (n : ℕ) → n < length marks → get_or (mark_exclusive ags marks) n false ≡ (is_exclusive ags n || get_or marks n false)
unfolding mark_exclusive is_exclusive
mark_exclusive_lem [] marks n lt = refl
mark_exclusive_lem (a ∷ ags) marks n lt =
    mark_exclusive_lem ags (marked a marks) n (rw (length_marked a marks) lt)
    ∙ ap (λ (b : Bool). is_exclusive ags n || b) (get_marked a marks n lt)
    ∙ or_swap (a.exclusive && any_listed n a.sets) (is_exclusive ags n) (get_or marks n false)

-- ---- from no mark

or-false : (b : Bool) → (b || false) ≡ b
or-false true = refl
or-false false = refl

pub exclusive_marked : (ags : List Aggregate) (size n : ℕ) → n < size → get_or (mark_exclusive ags (replicate size false)) n false ≡ is_exclusive ags n
exclusive_marked ags size n lt =
    mark_exclusive_lem ags (replicate size false) n (rw (length-replicate size false) lt)
    ∙ ap (λ (b : Bool). is_exclusive ags n || b) (get_or-replicate size n false false lt)
    ∙ or-false (is_exclusive ags n)

eqb_swap : (a b : ℕ) → eqb a b ≡ eqb b a
eqb_swap a b = cases (eqb a b) refl
  where
    cases : (x : Bool) → eqb a b ≡ x → eqb a b ≡ eqb b a
    cases true e = rw (e, eq-eqb b a (sym (eqb-true a b e)))
    cases false e = rw (e, ne_eqb b a (λ q. eqb-false a b e (sym q)))

-- some edge has node n at its end exactly if the ends list it
ends_listed : (end : Edge → ℕ) (n i : ℕ) (es : List Edge) → listed n (map end es) ≡ not (is_empty (edges_with end n i es))
unfolding listed edges_with is_empty keep_if
ends_listed end n i [] = refl
ends_listed end n i (e ∷ es) = rw (eqb_swap n (end e)) (cases (eqb (end e) n) (ends_listed end n (suc i) es))
  where
    cases : (b : Bool) → listed n (map end es) ≡ not (is_empty (edges_with end n (suc i) es)) → (b || listed n (map end es)) ≡ not (is_empty (keep_if b i (edges_with end n (suc i) es)))
    cases true h = refl
    cases false h = h

pub ends_marked : (end : Edge → ℕ) (es : List Edge) (size n : ℕ) → n < size → get_or (mark_all (map end es) (replicate size false)) n false ≡ not (is_empty (edges_with end n 0 es))
ends_marked end es size n lt =
    mark_all_lem (map end es) (replicate size false) n (rw (length-replicate size false) lt)
    ∙ ap (λ (b : Bool). listed n (map end es) || b) (get_or-replicate size n false false lt)
    ∙ or-false (listed n (map end es))
    ∙ ends_listed end n 0 es
