-- Factors of virtual storages in 1/1024, at most 1,000,000 in magnitude: their sums have room in a double, and whole factors are among them. Assumes nothing.
use mathlib.Core.Path.{◌≡◌, refl, sym, ap, ◌∙◌, subst}
use mathlib.Core.Logic.{◌↔◌}
use Prim.Native.Nat.{ℕ, suc, ◌+◌, ◌*◌, ◌/◌, ◌%◌, ◌^◌, ◌<◌, ◌≤◌}
use native.Mathlib.Nat.{add-zero, div-add-mod', lt_of_le_of_lt, mul-le-mul}
use native.Mathlib.Omega.{arith}
use mathlib.Core.Bool.{Bool, true}
use mathlib.Core.List.Memᴰ
use mathlib.Core.List.{List, [], ◌∷◌}
use mathlib.Core.Option.{some}
use lib.ListN.{length, get_elem?}
use lib.IntN.{nat_abs}
use lib.Dec.{T, eqb, leb, eqb→eq, leb→le, lit<}
use lib.Ieee.{Float, binary64, fits}
use lib.Pow.{mod-mod-pow}
use lib.Ieee.Fits.{and_i, and_l, and_r, eq→eqb}
use lib.Ieee.Scale.{finite}
use Rattle.laws.proofs.Tests.{to_true, of_true}
use Rattle.doubles.specs.Units.{sign, mag}
use Rattle.doubles.proofs.Units.{abs_signed}
use Rattle.pywr.specs.Network.{Part, VirtualStorage, Network}
use Rattle.pywr.specs.Plans.{Amount, exact, units_in_one, units_in1024th, all_from}
use Rattle.pywr.specs.Correspondence.{factor_limit, is_multiple_to_limit, factors_are_multiples, factors_in1024ths, factors_whole}
use Rattle.pywr.proofs.ExactLaws.{exact_rank}
use Rattle.pywr.proofs.SumLaws.{grid, Upto}
use Rattle.pywr.proofs.WeightLaws.{Factors, no_more, one_more, node_room}
use Rattle.pywr.proofs.ListLaws.{AllMem, found_mem, all_at}
use Rattle.pywr.proofs.ReadLaws.{VirtualStorageOk, PartOk, Sound}

-- ---- one factor

grid_factor : (g m : ℕ) (x : Float) → T (fits binary64 x) → T (finite x) → nat_abs (exact x) % 2 ^ grid g ≡ 0 → nat_abs (exact x) ≤ m * 2 ^ grid g → Upto g m x
grid_factor g m x fit is_finite none few =
    let u : ℕ = 2 ^ grid g in
    let n : ℕ = mag binary64 x in
    let is : nat_abs (exact x) ≡ n = ap nat_abs (exact_rank x fit is_finite) ∙ abs_signed (sign x) n in
    let r : n % u ≡ 0 = subst (λ (k : ℕ). k % u ≡ 0) is none in
    let whole : n ≡ n / u * u = sym (div-add-mod' n u) ∙ ap (λ (k : ℕ). n / u * u + k) r ∙ add-zero (n / u * u) in
    record { grain = record { fit = fit; is_finite = is_finite; count = n / u; is = whole }; most = subst (λ (k : ℕ). k ≤ m * u) is few }

-- the limit in 1/1024
abbrev pub limit_in1024ths : ℕ
limit_in1024ths = 1024000000

limit_is : factor_limit ≡ limit_in1024ths * units_in1024th
unfolding factor_limit units_in_one units_in1024th
limit_is = refl

part_factor : (p : Part) → PartOk p → T (is_multiple_to_limit units_in1024th p) → Upto 10 limit_in1024ths p.factor
unfolding is_multiple_to_limit units_in1024th
part_factor p ok t =
    let n : ℕ = nat_abs (exact p.factor) in
    let multiple : Bool = eqb (n % units_in1024th) 0 in
    let few : Bool = leb n factor_limit in
    grid_factor 10 limit_in1024ths p.factor ok.fit ok.finite
    (eqb→eq (n % units_in1024th) 0 (and_l multiple few t))
    (subst (λ (k : ℕ). n ≤ k) limit_is (leb→le n factor_limit (and_r multiple few t)))

-- ---- the factors of a virtual storage

module _ (net : Network) (sound : Sound net) (n : ℕ) (v : VirtualStorage) (at : get_elem? net.virtual_storages n ≡ some v) where
  known : VirtualStorageOk v
  known = sound.good.virtual_storages v (found_mem net.virtual_storages n v at)

  pub part_factors : T (factors_in1024ths net) → Factors 10 limit_in1024ths v.parts
  unfolding factors_in1024ths factors_are_multiples
  part_factors t =
      go v.parts known.parts
      (λ k p e. (all_at (λ (j : ℕ) (q : Part). is_multiple_to_limit units_in1024th q) v.parts 0).0
      ((all_at (λ (j : ℕ) (u : VirtualStorage). all_from (λ (i : ℕ) (q : Part). is_multiple_to_limit units_in1024th q) 0 u.parts) net.virtual_storages 0).0 t n v at) k p e)
    where
      go : (ps : List Part) → AllMem PartOk ps → ((k : ℕ) (p : Part) → get_elem? ps k ≡ some p → T (is_multiple_to_limit units_in1024th p)) → Factors 10 limit_in1024ths ps
      go [] ok h = no_more
      go (p ∷ ps) ok h = one_more (part_factor p (ok p (Memᴰ.head refl)) (h 0 p refl)) (go ps (λ q m. ok q (Memᴰ.tail m)) (λ k q e. h (suc k) q e))

  -- 64 parts on at most 1,024 edge ends: 67,108,864,000,000 of 1/1024, and 2^53 is 9,007,199,254,740,992
  pub parts_room : length v.parts * node_room net limit_in1024ths < 2 ^ 53
  parts_room =
      let few = known.few in
      let edges = sound.good.edge_count in
      let y : node_room net limit_in1024ths ≤ 1024 * limit_in1024ths = omega arith in
      lt_of_le_of_lt (mul-le-mul few y) (lit< tt)

-- ---- whole factors

-- 1.0 is 1,024 times 1/1024
whole_multiple : (p : Part) → T (is_multiple_to_limit units_in_one p) → T (is_multiple_to_limit units_in1024th p)
unfolding is_multiple_to_limit units_in1024th units_in_one
whole_multiple p t =
    let n : ℕ = nat_abs (exact p.factor) in
    let whole : Bool = eqb (n % units_in_one) 0 in
    let few : Bool = leb n factor_limit in
    let none : n % units_in_one ≡ 0 = eqb→eq (n % units_in_one) 0 (and_l whole few t) in
    and_i (eqb (n % units_in1024th) 0) few (eq→eqb (sym (mod-mod-pow n 10 1064) ∙ ap (λ (k : ℕ). k % units_in1024th) none)) (and_r whole few t)

-- a network whose factors are whole, at most 1,000,000 in magnitude, keeps demand 3's premise
pub whole_in_1024ths : (net : Network) → factors_whole net ≡ true → factors_in1024ths net ≡ true
unfolding factors_in1024ths factors_whole factors_are_multiples
whole_in_1024ths net e =
    to_true (factors_in1024ths net)
    ((storages units_in1024th).1 (λ n v at. (parts units_in1024th v).1 (λ k p here. whole_multiple p ((parts units_in_one v).0 ((storages units_in_one).0 (of_true (factors_whole net) e) n v at) k p here))))
  where
    storages : (amount : Amount)
        → T (factors_are_multiples amount net) ↔ ((n : ℕ) (v : VirtualStorage) → get_elem? net.virtual_storages n ≡ some v → T (all_from (λ (i : ℕ) (q : Part). is_multiple_to_limit amount q) 0 v.parts))
    storages amount = all_at (λ (j : ℕ) (u : VirtualStorage). all_from (λ (i : ℕ) (q : Part). is_multiple_to_limit amount q) 0 u.parts) net.virtual_storages 0

    parts : (amount : Amount) (v : VirtualStorage)
        → T (all_from (λ (i : ℕ) (q : Part). is_multiple_to_limit amount q) 0 v.parts) ↔ ((k : ℕ) (p : Part) → get_elem? v.parts k ≡ some p → T (is_multiple_to_limit amount p))
    parts amount v = all_at (λ (i : ℕ) (q : Part). is_multiple_to_limit amount q) v.parts 0
