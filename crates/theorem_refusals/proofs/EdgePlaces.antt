-- Where a build refuses an edge, the edge's ends are in the file. Assumes nothing.
use mathlib.Core.Path.{◌≡◌, subst}
use Prim.Native.Nat.{ℕ}
use mathlib.Core.Bool.{Bool}
use lib.Dec.{T, eqb, eqb→eq, eqb_refl}
use Rattle.pywr.specs.Result.{value, Result, refused, ◌>>=◌, need}
use Rattle.pywr.specs.NetworkFile.{parse_network}
use Rattle.pywr.specs.Build.{build}
use Rattle.pywr.specs.Calls.{build_room, build_answer}
use Rattle.theorem_refusals.specs.RefusalNumbers.{of_edge}
use Rattle.theorem_refusals.specs.EdgePlaces.{EdgeInFile}
use Rattle.theorem_refusals.proofs.Among.{need_among, number_among}
use Rattle.theorem_refusals.proofs.NetworkNumbers.{edge_inside}

-- which part of a reading refused
refused_where : {A B X : Type 0} (r : Result A) (k : A → Result B) (n p : ℕ) → (r >>= k) ≡ refused n p → (r ≡ refused n p → X) → ((x : A) → k x ≡ refused n p → X) → X
unfolding ◌>>=◌
refused_where (value x) k n p e first next = next x e
refused_where (refused m q) k n p e first next = first cc

-- a test that has another number did not
not_needed : {A : Type 0} (ok : Bool) (m q : ℕ) (x : A) (n p : ℕ) → (T (of_edge m) → ⊥) → T (of_edge n) → need ok m q x ≡ refused n p → ⊥
not_needed ok m q x n p other t e =
    let same : n ≡ m = eqb→eq n m (number_among (need ok m q x) n p (need_among {numbers = λ k. eqb k m} ok m q x (eqb_refl m)) e) in
    other (subst (λ (k : ℕ). T (of_edge k)) same t)

pub edge_in_file : EdgeInFile
unfolding build_answer build
edge_in_file s file old words numbers n p e t =
    refused_where (need (build_room old words numbers) 16 0 old) _ n p e
    (λ q. absurd (not_needed _ 16 0 old n p (λ u. u) t q))
    (λ room q. refused_where (parse_network file) _ n p q
    (λ r. edge_inside file n p r t)
    (λ net r. absurd (not_needed _ 11 0 _ n p (λ u. u) t r)))
