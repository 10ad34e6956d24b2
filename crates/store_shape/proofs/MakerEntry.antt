-- The entry of a row's maker, tested word by word. Assumes nothing.
use mathlib.Core.Path.{◌≡◌, refl, subst}
use Prim.Native.Nat.{ℕ, zero, suc, ◌+◌, ◌≤◌, ◌<◌}
use native.Mathlib.Omega.{arith}
use mathlib.Core.Bool.{false}
use mathlib.Core.List.{List, [], ◌∷◌}
use lib.ListN.{get_or}
use lib.Dec.{leb}
use borrow.Author.Tests.{lt-ltb, le-ltb, le-leb, lt-leb}
use Rattle.pywr.specs.Programme.{by_exclusivity}
use Rattle.pywr.specs.Store.{Store, node_count, aggregate_count, virtual_storage_count}
use Rattle.pywr.specs.Misshapen.{makers_of_kind, maker_fits}

-- how many can make a row of each kind
abbrev pub of_kinds : Store → List ℕ
of_kinds s = node_count s ∷ node_count s ∷ aggregate_count s ∷ virtual_storage_count s ∷ aggregate_count s ∷ []

of_kind : (s : Store) (kind : ℕ) → kind ≤ by_exclusivity → get_or (of_kinds s) kind 0 ≡ makers_of_kind s kind
unfolding makers_of_kind
of_kind s zero h = refl
of_kind s (suc zero) h = refl
of_kind s (suc (suc zero)) h = refl
of_kind s (suc (suc (suc zero))) h = refl
of_kind s (suc (suc (suc (suc zero)))) h = refl
of_kind s (suc (suc (suc (suc (suc k))))) h = absurd (omega arith)

module _ (s : Store) (at : ℕ) where
  abbrev kind : ℕ
  kind = get_or s.shape at 0

  abbrev index : ℕ
  index = get_or s.shape (at + 1) 0

  pub kind_out : by_exclusivity < kind → false ≡ maker_fits s at
  unfolding maker_fits
  kind_out h = rw (lt-leb kind by_exclusivity h)

  pub index_out : kind ≤ by_exclusivity → get_or (of_kinds s) kind 0 ≤ index → false ≡ maker_fits s at
  unfolding maker_fits
  index_out k h = rw (le-leb kind by_exclusivity k, le-ltb index (makers_of_kind s kind) (subst (λ (n : ℕ). n ≤ index) (of_kind s kind k) h))

  pub by_sharers : kind ≤ by_exclusivity → index < get_or (of_kinds s) kind 0 → leb 1 (get_or s.shape (at + 2) 0) ≡ maker_fits s at
  unfolding maker_fits
  by_sharers k h = rw (le-leb kind by_exclusivity k, lt-ltb index (makers_of_kind s kind) (subst (λ (n : ℕ). index < n) (of_kind s kind k) h))
