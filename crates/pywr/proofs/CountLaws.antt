-- At most 4,352 node rows: every membership of a node in a distinct set asks for two, and every other varying node for one. Assumes nothing.
use mathlib.Core.Path.{◌≡◌, refl, sym, ap₂, ◌∙◌, subst}
use Prim.Native.Nat.{ℕ, zero, suc, ◌+◌, ◌*◌, ◌<◌, ◌≤◌, zero-le}
use native.Mathlib.Nat.{zero-add, le_refl}
use native.Mathlib.Omega.{arith}
use mathlib.Core.Bool.{Bool, true, false, cond, ◌&&◌}
use mathlib.Core.List.{List, [], ◌∷◌}
use lib.ListN.{length, length-append}
use lib.Dec.{T, not_T, eqb, leb, eqb→eq, leb→le}
use lib.Ieee.Fits.{and_l}
use Rattle.layout.specs.Layout.{node_row_ceiling}
use Rattle.laws.proofs.Tests.{cond_no, by_cases, cond_yes}
use Rattle.pywr.specs.Network.{Node, Network, keep_if}
use Rattle.pywr.specs.ExclusiveSets.{exclusive_sets, times_in, sets_with_node}
use Rattle.pywr.specs.Rows.{ColumnMap, column_map}
use Rattle.pywr.specs.Programme.{Programme}
use Rattle.pywr.specs.VaryingRows.{exclusive_requests, requests_by_sets, requests_from}
use Rattle.pywr.specs.Build.{element_count, under_ceilings}
use Rattle.pywr.proofs.AmountLaws.{memberships}
use Rattle.pywr.proofs.ListLaws.{AllMem}
use Rattle.pywr.proofs.MembershipLaws.{set_from}
use Rattle.pywr.proofs.ReadLaws.{SetOk, Good}
use Rattle.pywr.proofs.FitLaws.{asks_of}
use Rattle.pywr.proofs.StepMeets.{memberships_few}

-- g a + .. + g (a + m - 1)
unfoldable sum_from : (ℕ → ℕ) → ℕ → ℕ → ℕ
sum_from g a zero = 0
sum_from g a (suc m) = g a + sum_from g (suc a) m

sum_two : (g h : ℕ → ℕ) (a m : ℕ) → sum_from (λ n. g n + h n) a m ≡ sum_from g a m + sum_from h a m
unfolding sum_from
sum_two g h a zero = refl
sum_two g h a (suc m) = let ih = sum_two g h (suc a) m in omega arith

sum_same : (g h : ℕ → ℕ) → ((n : ℕ) → g n ≡ h n) → (a m : ℕ) → sum_from g a m ≡ sum_from h a m
unfolding sum_from
sum_same g h e a zero = refl
sum_same g h e a (suc m) = ap₂ (λ (x y : ℕ). x + y) (e a) (sum_same g h e (suc a) m)

sum_none : (a m : ℕ) → sum_from (λ n. 0) a m ≡ 0
unfolding sum_from
sum_none a zero = refl
sum_none a (suc m) = let ih = sum_none (suc a) m in omega arith

abbrev hit : ℕ → ℕ → ℕ
hit x n = cond (eqb x n) 1 0

missed : (x a m : ℕ) → x < a → sum_from (hit x) a m ≡ 0
unfolding sum_from
missed x a zero h = refl
missed x a (suc m) h =
    let here : hit x a ≡ 0 = cond_no (eqb x a) 1 0 (not_T (eqb x a) (λ t. let e = eqb→eq x a t in omega arith)) in
    let ih = missed x (suc a) m (omega arith) in
    omega arith

hit_once : (x a m : ℕ) → sum_from (hit x) a m ≤ 1
unfolding sum_from
hit_once x a zero = zero-le
hit_once x a (suc m) =
    let ih = hit_once x (suc a) m in
    by_cases (eqb x a)
    (λ t. let here : hit x a ≡ 1 = cond_yes (eqb x a) 1 0 t in let e = eqb→eq x a t in let rest = missed x (suc a) m (omega arith) in omega arith)
    (λ t. let here : hit x a ≡ 0 = cond_no (eqb x a) 1 0 t in omega arith)

times_length : (n k x : ℕ) (xs : List ℕ) → length (times_in n k (x ∷ xs)) ≡ hit x n + length (times_in n k xs)
unfolding times_in keep_if
times_length n k x xs = go (eqb x n)
  where
    go : (b : Bool) → length (keep_if b k (times_in n k xs)) ≡ cond b 1 0 + length (times_in n k xs)
    go true = omega arith
    go false = sym (zero-add (length (times_in n k xs)))

times_none : (n k : ℕ) → length (times_in n k []) ≡ 0
unfolding times_in
times_none n k = refl

times_total : (k a m : ℕ) (s : List ℕ) → sum_from (λ n. length (times_in n k s)) a m ≤ length s
times_total k a m [] = subst (λ (j : ℕ). j ≤ 0) (sym (sum_same (λ n. length (times_in n k [])) (λ n. 0) (λ n. times_none n k) a m ∙ sum_none a m)) zero-le
times_total k a m (x ∷ xs) =
    let e = sum_same (λ n. length (times_in n k (x ∷ xs))) (λ n. hit x n + length (times_in n k xs)) (λ n. times_length n k x xs) a m ∙ sum_two (hit x) (λ n. length (times_in n k xs)) a m in
    let h = hit_once x a m in
    let ih = times_total k a m xs in
    subst (λ (j : ℕ). j ≤ suc (length xs)) (sym e) (omega arith)

membership_none : (n k : ℕ) → length (sets_with_node n k []) ≡ 0
unfolding sets_with_node
membership_none n k = refl

membership_length : (n k : ℕ) (s : List ℕ) (ss : List (List ℕ)) → length (sets_with_node n k (s ∷ ss)) ≡ length (times_in n k s) + length (sets_with_node n (suc k) ss)
unfolding sets_with_node
membership_length n k s ss = length-append (times_in n k s) (sets_with_node n (suc k) ss)

membership_total : (k a m : ℕ) (ss : List (List ℕ)) → sum_from (λ n. length (sets_with_node n k ss)) a m ≤ memberships ss
unfolding memberships
membership_total k a m [] = subst (λ (j : ℕ). j ≤ 0) (sym (sum_same (λ n. length (sets_with_node n k [])) (λ n. 0) (λ n. membership_none n k) a m ∙ sum_none a m)) zero-le
membership_total k a m (s ∷ ss) =
    let e = sum_same (λ n. length (sets_with_node n k (s ∷ ss))) (λ n. length (times_in n k s) + length (sets_with_node n (suc k) ss))
    (λ n. membership_length n k s ss) a m ∙ sum_two (λ n. length (times_in n k s)) (λ n. length (sets_with_node n (suc k) ss)) a m in
    let h = times_total k a m s in
    let ih = membership_total (suc k) a m ss in
    subst (λ (j : ℕ). j ≤ length s + memberships ss) (sym e) (omega arith)

exclusive_length : (f : ColumnMap) (n : ℕ) (ks : List ℕ) → length (exclusive_requests f n ks) ≡ 2 * length ks
unfolding exclusive_requests
exclusive_length f n [] = refl
exclusive_length f n (k ∷ ks) = let ih = exclusive_length f n ks in omega arith

by_sets_few : (f : ColumnMap) (n : ℕ) (ks : List ℕ) → length (requests_by_sets f n ks) ≤ 1 + 2 * length ks
unfolding requests_by_sets
by_sets_few f n [] = le_refl 1
by_sets_few f n (k ∷ ks) = let e = exclusive_length f n (k ∷ ks) in omega arith

one_few : (f : ColumnMap) (n : ℕ) (x : Node) → length (asks_of f n x) ≤ 1 + 2 * length (sets_with_node n 0 f.sets)
one_few f n x = go x.constant
  where
    go : (b : Bool) → length (cond b [] (requests_by_sets f n (sets_with_node n 0 f.sets))) ≤ 1 + 2 * length (sets_with_node n 0 f.sets)
    go true = zero-le
    go false = by_sets_few f n (sets_with_node n 0 f.sets)

requests_total : (f : ColumnMap) (xs : List Node) (a : ℕ) → length (requests_from f a xs) ≤ length xs + 2 * sum_from (λ n. length (sets_with_node n 0 f.sets)) a (length xs)
unfolding requests_from sum_from
requests_total f [] a = zero-le
requests_total f (x ∷ xs) a =
    let l = length-append (asks_of f a x) (requests_from f (suc a) xs) in
    let h = one_few f a x in
    let ih = requests_total f xs (suc a) in
    omega arith

pub sets_ok : (net : Network) → Good net → AllMem (SetOk (length net.nodes)) (exclusive_sets net)
sets_ok net good s m = let f = set_from net s m in (good.aggregates f.aggregate f.known).sets s f.has

pub sets_under : (net : Network) (p : Programme) → T (under_ceilings (column_map net) p) → length (exclusive_sets net) ≤ 128
unfolding under_ceilings column_map
sets_under net p under =
    let sets : ℕ = length (exclusive_sets net) in
    leb→le sets 128 (and_l (leb sets 128) (leb (length p.varying + length p.fixed) 1024)
    (and_l (leb sets 128 && leb (length p.varying + length p.fixed) 1024) (leb (element_count p.varying + element_count p.fixed) 4096) under))

pub requests_few : (net : Network) → Good net → length (exclusive_sets net) ≤ 128 → length (requests_from (column_map net) 0 net.nodes) ≤ node_row_ceiling
unfolding column_map
requests_few net good h =
    let a = requests_total (column_map net) net.nodes 0 in
    let b = membership_total 0 0 (length net.nodes) (exclusive_sets net) in
    let c = memberships_few (length net.nodes) (exclusive_sets net) (sets_ok net good) in
    let n = good.node_count in
    omega arith
