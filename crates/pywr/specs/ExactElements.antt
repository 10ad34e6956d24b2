-- Document 02, L14: "the sum of factors on each column being exact". Each element of a virtual storage's row is the exact sum of its parts, in the row that the
-- definitions make and in the store after any accepted build and any list of steps. Assumes nothing.
use Rattle.std.specs.Prelude.{◌≡◌, ◌≢◌, ℕ, ◌+◌, true, cond, ℤ, pos, neg_ℤ, ◌+ℤ◌, ◌-ℤ◌, ◌*ℤ◌, eqb, Float}
use mathlib.Core.List.{List, [], ◌∷◌, Memᴰ}
use Rattle.std.proofs.Math.Option.{some}
use Rattle.std.proofs.Math.ListN.{get_elem?}
use Rattle.pywr.specs.declared.Sentinel.{Sentinel}
use Rattle.pywr.specs.Result.{value}
use Rattle.pywr.specs.Network.{output, storage, Part, VirtualStorage, Network, kind_of}
use Rattle.pywr.specs.NetworkFile.{parse_network}
use Rattle.pywr.specs.Rows.{Element, ColumnMap, column_map, columns_into, columns_out_of, virtual_storage_row}
use Rattle.pywr.specs.Programme.{Row, VirtualStorageShape}
use Rattle.pywr.specs.Store.{Store, shape_of, programme_in}
use Rattle.pywr.specs.Calls.{build_answer, build_store, is_accepted}
use Rattle.pywr.specs.Plans.{SignedAmount, exact, is_finite}
use Rattle.pywr.specs.Correspondence.{Call, store_after, factors_in1024ths}

-- how often the list has the column
unfoldable pub occurrences : ℕ → List ℕ → ℕ
occurrences column [] = 0
occurrences column (c ∷ cs) = cond (eqb c column) 1 0 + occurrences column cs

-- how often a node's row counts the column: "input and link use outgoing edges, output incoming, storage + incoming − outgoing"
unfoldable pub node_times : ColumnMap → ℕ → ℕ → ℤ
node_times mapping column node =
    let into : ℤ = pos (occurrences column (columns_into node mapping.mapped_edges)) in
    let out : ℤ = pos (occurrences column (columns_out_of node mapping.mapped_edges)) in
    cond (eqb (kind_of mapping.nodes node) output) into
    (cond (eqb (kind_of mapping.nodes node) storage) (into -ℤ out) out)

-- the exact sum of the parts on a column: "minus factor times node row"
unfoldable pub factor_sum : ColumnMap → ℕ → List Part → SignedAmount
factor_sum mapping column [] = pos 0
factor_sum mapping column (part ∷ parts) = neg_ℤ (exact part.factor) *ℤ node_times mapping column part.node +ℤ factor_sum mapping column parts

-- of the elements of a virtual storage's row
pub record ElementsExact (mapping : ColumnMap) (v : VirtualStorage) (row : List Element) : Type 0 where
  pub finite : (e : Element) → Memᴰ e row → is_finite e.value ≡ true
  pub each : (e : Element) → Memᴰ e row → exact e.value ≡ factor_sum mapping e.column v.parts
  -- where the row has no element, the parts sum to 0
  pub elsewhere : (column : ℕ) → ((e : Element) → Memᴰ e row → e.column ≢ column) → factor_sum mapping column v.parts ≡ pos 0

-- of every network that is read from a file, with demand 3's premise on factors and no other
abbrev pub ExactElements : Type 0
ExactElements = (network_file : List ℕ) (net : Network) → parse_network network_file ≡ value net → factors_in1024ths net ≡ true
    → (n : ℕ) (v : VirtualStorage) → get_elem? net.virtual_storages n ≡ some v → ElementsExact (column_map net) v (virtual_storage_row (column_map net) v)

-- of a store: the row that its table gives virtual storage n
pub record RowExact (net : Network) (n : ℕ) (v : VirtualStorage) (store : Store) : Type 0 where
  pub entry : VirtualStorageShape
  pub listed : get_elem? (shape_of store).virtual_storages n ≡ some entry
  pub row : Row
  pub found : get_elem? (programme_in store).varying entry.row ≡ some row
  pub elements : ElementsExact (column_map net) v row.elements

-- after any accepted build and any list of steps, refused ones too: exclusive nodes may vary
abbrev pub ExactElementsKept : Type 0
ExactElementsKept = (network_file : List ℕ) (s : Sentinel) (old : Store) (words : List ℕ) (numbers : List Float) (net : Network) → parse_network network_file ≡ value net
    → is_accepted (build_answer s network_file old words numbers) ≡ true → factors_in1024ths net ≡ true → (calls : List Call)
    → (n : ℕ) (v : VirtualStorage) → get_elem? net.virtual_storages n ≡ some v → RowExact net n v (store_after (build_store s network_file old words numbers) calls)
