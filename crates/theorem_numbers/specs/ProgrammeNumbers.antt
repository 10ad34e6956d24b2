-- No bound, cost or element of a programme is NaN, every element is finite, and no element of a build is −0.0: what this says of a programme, and where it
-- holds. So rows that join are equal bit for bit. Assumes nothing.
use Rattle.std.specs.Prelude.{◌≡◌, ℕ, Bool, true, not, ◌&&◌, eqb, Float}
use mathlib.Core.List.{List, ◌++◌, map, Memᴰ}
use Rattle.std.specs.Float.{binary64}
use Rattle.std.specs.Float.Ieee.{is_nan, to_bits}
use Rattle.pywr.specs.declared.Sentinel.{Sentinel}
use Rattle.pywr.specs.Result.{value}
use Rattle.pywr.specs.Network.{Network}
use Rattle.pywr.specs.NetworkFile.{parse_network}
use Rattle.pywr.specs.Rows.{Element, column_map, aggregate_row, virtual_storage_row}
use Rattle.pywr.specs.VariableRows.{same_row}
use Rattle.pywr.specs.VaryingRows.{requests_from}
use Rattle.pywr.specs.Build.{requested_row}
use Rattle.pywr.specs.Programme.{Column, Row, Programme}
use Rattle.pywr.specs.Plans.{is_finite, all_from}
use Rattle.pywr.specs.Store.{Store, programme_in}
use Rattle.pywr.specs.Calls.{build_answer, build_store, is_accepted}
use Rattle.pywr.specs.Correspondence.{Call, store_after}

unfoldable pub is_number : Float → Bool
is_number x = not (is_nan x)

-- the bits of −0.0
abbrev pub minus_zero_bits : ℕ
minus_zero_bits = 0x8000000000000000

unfoldable pub is_minus_zero : Float → Bool
is_minus_zero x = eqb (to_bits binary64 x) minus_zero_bits

-- ---- no NaN

unfoldable pub column_without_nan : Column → Bool
column_without_nan c = is_number c.lower && is_number c.upper && is_number c.cost

unfoldable pub element_without_nan : Element → Bool
element_without_nan e = is_number e.value

unfoldable pub row_without_nan : Row → Bool
row_without_nan r = is_number r.lower && is_number r.upper && all_from (λ (i : ℕ) (e : Element). element_without_nan e) 0 r.elements

-- every column's bounds and cost, every row's bounds and every element
unfoldable pub without_nan : Programme → Bool
without_nan p =
    all_from (λ (i : ℕ) (c : Column). column_without_nan c) 0 p.columns
    && all_from (λ (i : ℕ) (r : Row). row_without_nan r) 0 p.varying
    && all_from (λ (i : ℕ) (r : Row). row_without_nan r) 0 p.fixed

-- "no bound, cost or element of a programme is NaN after an accepted build and any list of steps": refused steps are in, and so is the empty list.
-- The store handed to the build, the work areas and the step files may hold anything, and nothing is asked of the network
abbrev pub NoNaN : Type 0
NoNaN =
    (network_file : List ℕ) (s : Sentinel) (old : Store) (words : List ℕ) (numbers : List Float)
    → is_accepted (build_answer s network_file old words numbers) ≡ true
    → (calls : List Call)
    → without_nan (programme_in (store_after (build_store s network_file old words numbers) calls)) ≡ true

-- ---- finite elements

unfoldable pub element_finite : Element → Bool
element_finite e = is_finite e.value

unfoldable pub row_elements_finite : Row → Bool
row_elements_finite r = all_from (λ (i : ℕ) (e : Element). element_finite e) 0 r.elements

-- every element of every row
unfoldable pub elements_finite : Programme → Bool
elements_finite p = all_from (λ (i : ℕ) (r : Row). row_elements_finite r) 0 p.varying && all_from (λ (i : ℕ) (r : Row). row_elements_finite r) 0 p.fixed

-- after an accepted build and any list of steps every element is finite, with the steps, stores and files of `NoNaN`. Bounds may be infinite: where one would
-- become a coefficient it is capped, or 10 or 21 refuses it
abbrev pub FiniteElements : Type 0
FiniteElements =
    (network_file : List ℕ) (s : Sentinel) (old : Store) (words : List ℕ) (numbers : List Float)
    → is_accepted (build_answer s network_file old words numbers) ≡ true
    → (calls : List Call)
    → elements_finite (programme_in (store_after (build_store s network_file old words numbers) calls)) ≡ true

-- ---- no element −0.0

unfoldable pub row_without_minus_zero : Row → Bool
row_without_minus_zero r = all_from (λ (i : ℕ) (e : Element). not (is_minus_zero e.value)) 0 r.elements

-- no element is −0.0
unfoldable pub without_minus_zero : Programme → Bool
without_minus_zero p = all_from (λ (i : ℕ) (r : Row). row_without_minus_zero r) 0 p.varying && all_from (λ (i : ℕ) (r : Row). row_without_minus_zero r) 0 p.fixed

-- "and no element of a build is −0.0". A step may leave one: a lower bound of 0.0 gives the coefficient −0.0
abbrev pub NoMinusZero : Type 0
NoMinusZero =
    (network_file : List ℕ) (s : Sentinel) (old : Store) (words : List ℕ) (numbers : List Float)
    → is_accepted (build_answer s network_file old words numbers) ≡ true
    → without_minus_zero (programme_in (build_store s network_file old words numbers)) ≡ true

-- ---- rows that join

-- the varying rows that are asked for, before equal ones join: of the nodes, the aggregates and the virtual storages
unfoldable pub asked_rows : Network → List (List Element)
asked_rows net =
    map requested_row (requests_from (column_map net) 0 net.nodes)
    ++ map (aggregate_row (column_map net)) net.aggregates
    ++ map (virtual_storage_row (column_map net)) net.virtual_storages

-- "Varying rows with equal columns and elements are one row": equal as doubles, and so equal bit for bit
abbrev pub EqualBits : Type 0
EqualBits =
    (network_file : List ℕ) (net : Network)
    → parse_network network_file ≡ value net
    → (a b : List Element)
    → Memᴰ a (asked_rows net)
    → Memᴰ b (asked_rows net)
    → same_row a b ≡ true
    → a ≡ b
