-- Who made the rows of five networks, computed: shared rows, a node listed twice, a dropped mass row, an exclusivity row; and refusal 17 with one row's maker
-- changed, at each kind's limit and one under it. Assumes nothing.
use mathlib.Core.Path.{◌≡◌, refl}
use Prim.Native.Nat.{ℕ, ◌+◌, ◌*◌}
use mathlib.Core.List.{List, [], ◌∷◌, ◌++◌, flat_map}
use mathlib.Core.Bool.{true, false}
use lib.ListN.{length, replicate}
use lib.Seq.{sets}
use Rattle.layout.specs.Layout.{words_length, numbers_length, makers_at, maker_width}
use Rattle.pywr.specs.declared.Sentinel.TheVariants.{Infinity}
use Rattle.pywr.specs.Result.{value, Result, refused}
use Rattle.pywr.specs.Numbers.{double, zero64, one64}
use Rattle.pywr.specs.Network.{input, output, link}
use Rattle.pywr.specs.Programme.{Maker, Built, by_mass, by_node, by_aggregate, by_virtual_storage, by_exclusivity}
use Rattle.pywr.specs.Build.{build}
use Rattle.pywr.specs.Store.{Store, makers_in}
use Rattle.pywr.specs.Misshapen.{well_shaped}
use Rattle.pywr.specs.Written.{maker_words}
use Rattle.pywr.specs.Calls.{build_store}
use Rattle.pywr.specs.FileBytes.{varying, constant, edge, w32, set_bytes, exclusive, virtual_storage}
use Rattle.pywr.specs.Compute.{computing}
use Rattle.pywr.specs.Cases.{blank, edgeless_inputs}

plain : List (List ℕ) → List ℕ
plain aggregate_sets = 65 ∷ 71 ∷ 0 ∷ length aggregate_sets ∷ w32 0 ++ w32 0 ++ flat_map set_bytes aggregate_sets

maker : ℕ → ℕ → ℕ → Maker
maker kind index shared_by = record { kind = kind; index = index; shared_by = shared_by }

makers_of : Result Built → List Maker
makers_of (value b) = b.makers
makers_of (refused number place) = []

-- ---- the networks

-- input 0, link 1 and the aggregate have one row; output 2 is constant
shared_row : List ℕ
shared_row = varying input ++ varying link ++ constant output zero64 (double 5) ++ edge 0 1 ++ edge 1 2 ++ plain ((0 ∷ []) ∷ [])

-- the set lists input 0 twice
listed_twice : List ℕ
listed_twice = varying input ++ varying output ++ edge 0 1 ++ exclusive 0 1 ((0 ∷ 0 ∷ []) ∷ [])

-- inputs 0 and 4, links 1 and 2, output 3: link 1's edges have one column, link 2's three; aggregate 0 is plain, 1 exclusive
every_kind : List ℕ
every_kind =
    varying input
    ++ varying link
    ++ varying link
    ++ varying output
    ++ varying input
    ++ edge 0 1
    ++ edge 1 2
    ++ edge 4 2
    ++ edge 2 3
    ++ plain ((3 ∷ []) ∷ [])
    ++ exclusive 0 1 ((0 ∷ []) ∷ [])
    ++ virtual_storage (replicate 5 0) 4 one64

-- a row of all three nodes and both aggregates, and a virtual storage's
two_rows : List ℕ
two_rows =
    varying input
    ++ varying link
    ++ varying output
    ++ edge 0 1
    ++ edge 1 2
    ++ plain ((0 ∷ []) ∷ [])
    ++ plain ((1 ∷ []) ∷ [])
    ++ virtual_storage (replicate 5 0) 0 one64

-- ---- the store of the last: 3 nodes, 2 aggregates, 1 virtual storage

built : Store
built = build_store Infinity two_rows blank (replicate words_length 0) (replicate numbers_length zero64)

-- another maker of its last row
with_maker : ℕ → ℕ → ℕ → Store
with_maker kind index shared_by =
    let b : Store = built in
    record {
      col_lower = b.col_lower;
      col_upper = b.col_upper;
      col_obj_coef = b.col_obj_coef;
      row_lower = b.row_lower;
      row_upper = b.row_upper;
      elements = b.elements;
      columns = b.columns;
      row_starts = b.row_starts;
      shape = sets b.shape (makers_at + maker_width * 1) (maker_words (maker kind index shared_by));
    }

pub record MakerExample : Type 0 where
  -- "first maker's kind .. and index, and how many makers share it"
  shared : makers_of (build Infinity shared_row) ≡ maker by_node 0 3 ∷ maker by_node 2 1 ∷ []
  -- "one that asks twice counted twice": the upper row and the lower row
  twice : makers_of (build Infinity listed_twice) ≡ maker by_node 0 2 ∷ maker by_node 0 2 ∷ maker by_node 1 1 ∷ maker by_aggregate 0 1 ∷ maker by_exclusivity 0 1 ∷ []
  -- the one empty row of inputs 0 and 1, and those of the constant nodes
  empty : makers_of (build Infinity edgeless_inputs) ≡ maker by_node 0 2 ∷ maker by_node 2 1 ∷ maker by_node 3 1 ∷ []
  -- link 1's mass row is dropped; "an exclusivity row's index is its aggregate's"
  every : makers_of (build Infinity every_kind)
      ≡ maker by_node 0 1
      ∷ maker by_node 0 1
      ∷ maker by_node 1 2
      ∷ maker by_node 2 3
      ∷ maker by_node 4 1
      ∷ maker by_virtual_storage 0 1
      ∷ maker by_mass 2 1
      ∷ maker by_exclusivity 1 1
      ∷ []
  stored : makers_in built ≡ maker by_node 0 5 ∷ maker by_virtual_storage 0 1 ∷ []
  -- the largest index of each kind
  last_mass : well_shaped (with_maker by_mass 2 1) ≡ true
  last_node : well_shaped (with_maker by_node 2 1) ≡ true
  last_aggregate : well_shaped (with_maker by_aggregate 1 1) ≡ true
  last_virtual_storage : well_shaped (with_maker by_virtual_storage 0 1) ≡ true
  last_exclusivity : well_shaped (with_maker by_exclusivity 1 1) ≡ true
  -- one more
  no_mass : well_shaped (with_maker by_mass 3 1) ≡ false
  no_node : well_shaped (with_maker by_node 3 1) ≡ false
  no_aggregate : well_shaped (with_maker by_aggregate 2 1) ≡ false
  no_virtual_storage : well_shaped (with_maker by_virtual_storage 1 1) ≡ false
  no_exclusivity : well_shaped (with_maker by_exclusivity 2 1) ≡ false
  -- a sixth kind, and a row of nobody's; no upper limit on the count
  no_kind : well_shaped (with_maker 5 0 1) ≡ false
  nobody : well_shaped (with_maker by_node 0 0) ≡ false
  many : well_shaped (with_maker by_node 0 65535) ≡ true

pub maker_example : MakerExample
unfolding computing blank edgeless_inputs plain maker makers_of shared_row listed_twice every_kind two_rows built with_maker
maker_example =
    record {
      shared = refl;
      twice = refl;
      empty = refl;
      every = refl;
      stored = refl;
      last_mass = refl;
      last_node = refl;
      last_aggregate = refl;
      last_virtual_storage = refl;
      last_exclusivity = refl;
      no_mass = refl;
      no_node = refl;
      no_aggregate = refl;
      no_virtual_storage = refl;
      no_exclusivity = refl;
      no_kind = refl;
      nobody = refl;
      many = refl;
    }
