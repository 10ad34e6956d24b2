-- The rows of document 01's example, "Varying input, output constant 0..48.5, edge 0→1", by their makers, by computing the definitions from its network file; and
-- two lines of examples/intake.network, from their makers. Assumes nothing.
use Prim.Native.Nat.{ℕ}
use mathlib.Core.Path.{◌≡◌, refl}
use mathlib.Core.List.{List, [], ◌∷◌, ◌++◌}
use mathlib.Core.Bool.{false}
use lib.Ieee.{fin}
use lib.IntN.{negsuc}
use lib.ListN.{replicate}
use Rattle.layout.specs.Layout.{numbers_length, words_length}
use Rattle.pywr.specs.declared.Sentinel.TheVariants.{Infinity}
use Rattle.pywr.specs.Numbers.{zero64}
use Rattle.pywr.specs.Network.{input, output}
use Rattle.pywr.specs.Programme.{by_virtual_storage, by_exclusivity}
use Rattle.pywr.specs.Store.{Store, row_count}
use Rattle.pywr.specs.Calls.{build_store}
use Rattle.pywr.specs.FileBytes.{varying, constant, edge}
use Rattle.pywr.specs.Compute.{computing}
use Rattle.pywr.specs.Cases.{blank}
use Rattle.listing_fields.specs.Fields.{decimal_within, decimal, number_field}
use Rattle.listing_makers.specs.Makers.{kind_words, shared_words, maker_line, makers_text}

built : Store
built =
    build_store Infinity (varying input ++ constant output zero64 (fin false 97 (negsuc 0)) ++ edge 0 1) blank (replicate words_length 0) (replicate numbers_length zero64)

-- row 0: node 0
first_row : List ℕ
first_row = 114 ∷ 111 ∷ 119 ∷ 32 ∷ 48 ∷ 58 ∷ 32 ∷ 110 ∷ 111 ∷ 100 ∷ 101 ∷ 32 ∷ 48 ∷ 10 ∷ []

-- row 1: node 1
second_row : List ℕ
second_row = 114 ∷ 111 ∷ 119 ∷ 32 ∷ 49 ∷ 58 ∷ 32 ∷ 110 ∷ 111 ∷ 100 ∷ 101 ∷ 32 ∷ 49 ∷ 10 ∷ []

-- row 7: virtual storage 0, shared by 2
licences : List ℕ
licences =
    114 ∷ 111 ∷ 119 ∷ 32 ∷ 55 ∷ 58 ∷ 32
    ∷ 118 ∷ 105 ∷ 114 ∷ 116 ∷ 117 ∷ 97 ∷ 108 ∷ 32 ∷ 115 ∷ 116 ∷ 111 ∷ 114 ∷ 97 ∷ 103 ∷ 101 ∷ 32 ∷ 48
    ∷ 44 ∷ 32 ∷ 115 ∷ 104 ∷ 97 ∷ 114 ∷ 101 ∷ 100 ∷ 32 ∷ 98 ∷ 121 ∷ 32 ∷ 50 ∷ 10 ∷ []

-- row 19: exclusivity of aggregate 0
exclusive : List ℕ
exclusive =
    114 ∷ 111 ∷ 119 ∷ 32 ∷ 49 ∷ 57 ∷ 58 ∷ 32
    ∷ 101 ∷ 120 ∷ 99 ∷ 108 ∷ 117 ∷ 115 ∷ 105 ∷ 118 ∷ 105 ∷ 116 ∷ 121 ∷ 32 ∷ 111 ∷ 102 ∷ 32 ∷ 97 ∷ 103 ∷ 103 ∷ 114 ∷ 101 ∷ 103 ∷ 97 ∷ 116 ∷ 101 ∷ 32 ∷ 48 ∷ 10 ∷ []

document : makers_text built (row_count built) ≡ first_row ++ second_row
unfolding computing blank decimal_within decimal number_field kind_words shared_words maker_line makers_text built first_row second_row
document = refl

shared_row_lem : maker_line 7 (record { kind = by_virtual_storage; index = 0; shared_by = 2 }) ≡ licences
unfolding decimal_within decimal number_field kind_words shared_words maker_line licences
shared_row_lem = refl

exclusive_row : maker_line 19 (record { kind = by_exclusivity; index = 0; shared_by = 1 }) ≡ exclusive
unfolding decimal_within decimal number_field kind_words shared_words maker_line exclusive
exclusive_row = refl
