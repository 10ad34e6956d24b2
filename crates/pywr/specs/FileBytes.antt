-- The bytes of files, written out record by record, for the worked cases. Assumes nothing.
use Rattle.std.specs.Prelude.{ℕ, ◌/◌, ◌%◌, ◌^◌, length, Float}
use mathlib.Core.List.{List, [], ◌∷◌, ◌++◌, flat_map}
use Rattle.std.specs.Float.{binary64}
use Rattle.std.specs.Float.Ieee.{to_bits}
use Rattle.pywr.specs.Numbers.{zero64}
use Rattle.pywr.specs.Network.{Part}

-- an integer of two bytes, of four, and a double, little-endian
unfoldable pub w16 : ℕ → List ℕ
w16 n = n % 256 ∷ n / 256 % 256 ∷ []

unfoldable pub w32 : ℕ → List ℕ
w32 n = w16 n ++ w16 (n / 2 ^ 16)

unfoldable pub w64 : Float → List ℕ
w64 x = w32 (to_bits binary64 x) ++ w32 (to_bits binary64 x / 2 ^ 32)

-- a varying node, and a constant one
unfoldable pub varying : ℕ → List ℕ
varying kind = 78 ∷ 68 ∷ kind ∷ 0 ∷ w64 zero64 ++ w64 zero64

unfoldable pub constant : ℕ → Float → Float → List ℕ
constant kind min max = 78 ∷ 68 ∷ kind ∷ 1 ∷ w64 min ++ w64 max

unfoldable pub edge : ℕ → ℕ → List ℕ
edge from to = 69 ∷ 68 ∷ w16 from ++ w16 to

-- a set of nodes, and an exclusive aggregate
unfoldable pub set_bytes : List ℕ → List ℕ
set_bytes set = length set ∷ flat_map w16 set

unfoldable pub exclusive : ℕ → ℕ → List (List ℕ) → List ℕ
exclusive least most sets = 65 ∷ 71 ∷ 1 ∷ length sets ∷ w32 least ++ w32 most ++ flat_map set_bytes sets

unfoldable pub part_bytes : Part → List ℕ
part_bytes part = w16 part.node ++ w64 part.factor

-- a virtual storage, and one of one part; a period is five bytes, 0 throughout for always
unfoldable pub virtual_storage_of : List ℕ → List Part → List ℕ
virtual_storage_of period parts = 86 ∷ 83 ∷ period ++ length parts ∷ flat_map part_bytes parts

unfoldable pub virtual_storage : List ℕ → ℕ → Float → List ℕ
virtual_storage period node factor = virtual_storage_of period (record { node = node; factor = factor } ∷ [])

-- the records of a step file: `ST`, `NB`, `GB`, `VB`
unfoldable pub date : ℕ → ℕ → Float → List ℕ
date month day days = 83 ∷ 84 ∷ month ∷ day ∷ w64 days

unfoldable pub node_step : Float → Float → Float → Float → List ℕ
node_step cost min max volume = 78 ∷ 66 ∷ w64 cost ++ w64 min ++ w64 max ++ w64 volume

unfoldable pub aggregate_step : Float → Float → List ℕ
aggregate_step lower upper = 71 ∷ 66 ∷ w64 lower ++ w64 upper

unfoldable pub virtual_storage_step : Float → Float → Float → List ℕ
virtual_storage_step min max volume = 86 ∷ 66 ∷ w64 min ++ w64 max ++ w64 volume
