-- Who made each row, in words, as bytes: a line such as "row 7: virtual storage 0, shared by 2", or "row 3: node 1" where nobody shares it. Assumes nothing.
use Rattle.std.specs.Prelude.{ℕ, zero, suc, cond, List, [], ◌∷◌, ◌++◌, ltb, eqb}
use Rattle.pywr.specs.Programme.{Maker, by_mass, by_node, by_aggregate, by_virtual_storage}
use Rattle.pywr.specs.Store.{Store, row_count, row_maker}
use Rattle.listing_fields.specs.Fields.{number_field}
use Rattle.listing_lines.specs.Lines.{line_end, refusal_line}

-- row
abbrev pub row_word : List ℕ
row_word = 114 ∷ 111 ∷ 119 ∷ []

-- a colon and a blank
abbrev pub colon : List ℕ
colon = 58 ∷ 32 ∷ []

-- mass balance of node
abbrev pub mass_balance : List ℕ
mass_balance = 109 ∷ 97 ∷ 115 ∷ 115 ∷ 32 ∷ 98 ∷ 97 ∷ 108 ∷ 97 ∷ 110 ∷ 99 ∷ 101 ∷ 32 ∷ 111 ∷ 102 ∷ 32 ∷ 110 ∷ 111 ∷ 100 ∷ 101 ∷ []

-- node
abbrev pub node : List ℕ
node = 110 ∷ 111 ∷ 100 ∷ 101 ∷ []

-- aggregate
abbrev pub aggregate : List ℕ
aggregate = 97 ∷ 103 ∷ 103 ∷ 114 ∷ 101 ∷ 103 ∷ 97 ∷ 116 ∷ 101 ∷ []

-- virtual storage
abbrev pub virtual_storage : List ℕ
virtual_storage = 118 ∷ 105 ∷ 114 ∷ 116 ∷ 117 ∷ 97 ∷ 108 ∷ 32 ∷ 115 ∷ 116 ∷ 111 ∷ 114 ∷ 97 ∷ 103 ∷ 101 ∷ []

-- exclusivity of aggregate
abbrev pub exclusivity : List ℕ
exclusivity = 101 ∷ 120 ∷ 99 ∷ 108 ∷ 117 ∷ 115 ∷ 105 ∷ 118 ∷ 105 ∷ 116 ∷ 121 ∷ 32 ∷ 111 ∷ 102 ∷ 32 ∷ 97 ∷ 103 ∷ 103 ∷ 114 ∷ 101 ∷ 103 ∷ 97 ∷ 116 ∷ 101 ∷ []

-- , shared by
abbrev pub shared : List ℕ
shared = 44 ∷ 32 ∷ 115 ∷ 104 ∷ 97 ∷ 114 ∷ 101 ∷ 100 ∷ 32 ∷ 98 ∷ 121 ∷ []

-- a kind over 3 reads as exclusivity
unfoldable pub kind_words : ℕ → List ℕ
kind_words kind =
    cond (eqb kind by_mass) mass_balance
    (cond (eqb kind by_node) node (cond (eqb kind by_aggregate) aggregate (cond (eqb kind by_virtual_storage) virtual_storage exclusivity)))

-- nothing where the row has one maker
unfoldable pub shared_words : ℕ → List ℕ
shared_words count = cond (eqb count 1) [] (shared ++ number_field count)

unfoldable pub maker_line : ℕ → Maker → List ℕ
maker_line row m = row_word ++ (number_field row ++ (colon ++ (kind_words m.kind ++ (number_field m.index ++ (shared_words m.shared_by ++ line_end)))))

-- the first k rows
unfoldable pub makers_text : Store → ℕ → List ℕ
makers_text s zero = []
makers_text s (suc k) = makers_text s k ++ maker_line k (row_maker s k)

-- one row; 18 "row not under the count" where the store has no such row
unfoldable pub maker_text : Store → ℕ → List ℕ
maker_text s row = cond (ltb row (row_count s)) (maker_line row (row_maker s row)) (refusal_line 18 row)
