-- Askers of varying rows: a joined row has a place, so that some asker was given it; the first of them, and how many they are. Assumes nothing.
use mathlib.Core.Path.{◌≡◌, refl, sym, ap, ap₂, ◌∙◌, subst}
use mathlib.Core.Logic.{◌⊎◌, inl, inr, ◌≢◌}
use Prim.Native.Nat.{ℕ, zero, suc, ◌+◌, ◌<◌, ◌≤◌, suc-le-suc, zero-le}
use native.Mathlib.Nat.{add-zero, add-suc, suc-add, zero-add, not-suc-le-zero, le_of_suc-le-suc, lt_of_not-le}
use native.Mathlib.Decide.{dec_le}
use native.Mathlib.Omega.{arith}
use mathlib.Core.Bool.{Bool, true, false, cond}
use mathlib.Core.List.Memᴰ
use mathlib.Core.List.{List, [], ◌∷◌, ◌++◌, map, Memᴰ}
use mathlib.Core.Option.{some}
use lib.ListN.{length, get_elem?, length-append}
use lib.Dec.{T, ltb, eqb, eqb→eq}
use lib.Ieee.Fits.{eq→eqb}
use borrow.Author.Tests.{ltb-false}
use Rattle.laws.proofs.Tests.{of_true}
use Rattle.pywr.specs.Network.{keep_if}
use Rattle.pywr.specs.Rows.{Element}
use Rattle.pywr.specs.Programme.{NodeRow, VirtualStorageShape, Shape, Maker, by_node, by_aggregate, by_virtual_storage}
use Rattle.pywr.specs.VariableRows.{position, Joined, add_variable_row, add_variable_rows}
use Rattle.pywr.specs.Makers.{Asker, askers_by_nodes, askers_in_turn, askers, sharers_of, first_of, maker_of, varying_makers, times_named, references}
use Rattle.pywr.specs.RowMakers.{FirstAsker}
use Rattle.pywr.proofs.JoinLaws.{position_most}
use Rattle.pywr.proofs.ListLaws.{AllMem, all_none, all_cons, all_map, found_mem, found_below, below_found, found_left, not_found, same_some}
use Rattle.pywr.proofs.VaryingLaws.{node_places_lem}

-- ---- a joined row has a place: a row is appended only with its place

abbrev Covered : ℕ → Joined → Type 0
Covered before j = (r : ℕ) → before ≤ r → r < length j.rows → Memᴰ r j.places

cover_one : (before : ℕ) (row : List Element) (j : Joined) → Covered before j → Covered before (add_variable_row row j)
unfolding add_variable_row
cover_one before row j h = go (ltb (position row j.rows) (length j.rows)) refl
  where
    p : ℕ
    p = position row j.rows

    go : (b : Bool) → ltb p (length j.rows) ≡ b → (r : ℕ) → before ≤ r → r < length (cond b j.rows (j.rows ++ (row ∷ []))) → Memᴰ r (j.places ++ (p ∷ []))
    go true e r l k = Memᴰ.append_left (p ∷ []) (h r l k)
    go false e r l k = at_end (dec_le (suc r) (length j.rows))
      where
        at_end : Dec (suc r ≤ length j.rows) → Memᴰ r (j.places ++ (p ∷ []))
        at_end (yes m) = Memᴰ.append_left (p ∷ []) (h r l m)
        at_end (no f) =
            let n = length-append j.rows (row ∷ []) in
            let m = position_most row j.rows in
            let g = ltb-false p (length j.rows) e in
            let o = lt_of_not-le f in
            let same : r ≡ p = omega arith in
            Memᴰ.append_right j.places (Memᴰ.head same)

cover_all : (before : ℕ) (asked : List (List Element)) (j : Joined) → Covered before j → Covered before (add_variable_rows asked j)
unfolding add_variable_rows
cover_all before [] j h = h
cover_all before (row ∷ asked) j h = cover_all before asked (add_variable_row row j) (cover_one before row j h)

-- of the rows that were there and those that were asked for, the new ones have places
pub joined_covers : (asked rows : List (List Element)) → Covered (length rows) (add_variable_rows asked (record { rows = rows; places = [] }))
joined_covers asked rows = cover_all (length rows) asked (record { rows = rows; places = [] }) (λ r l k. absurd (let m : r < length rows = k in omega arith))

-- ---- askers of a row

pub record AskedFor (row : ℕ) (all : List Asker) : Type 0 where
  pub asker : Asker
  pub among : Memᴰ asker all
  pub given : asker.row ≡ row

pub asked_left : (row : ℕ) (all more : List Asker) → AskedFor row all → AskedFor row (all ++ more)
asked_left row all more a = record { asker = a.asker; among = Memᴰ.append_left more a.among; given = a.given }

pub asked_right : (row : ℕ) (before all : List Asker) → AskedFor row all → AskedFor row (before ++ all)
asked_right row before all a = record { asker = a.asker; among = Memᴰ.append_right before a.among; given = a.given }

asked_later : (row : ℕ) (first : Asker) (all : List Asker) → AskedFor row all → AskedFor row (first ∷ all)
asked_later row first all a = record { asker = a.asker; among = Memᴰ.tail a.among; given = a.given }

pub nodes_ask : (ns : List NodeRow) (row : ℕ) → Memᴰ row (node_places_lem ns) → AskedFor row (askers_by_nodes ns)
unfolding node_places_lem askers_by_nodes
nodes_ask [] row m = absurd (Memᴰ.not-nil m)
nodes_ask (n ∷ ns) row m = go (λ k. nodes_ask ns row k) (Memᴰ.cases_cons m)
  where
    one : Asker
    one = record { kind = by_node; index = n.node; row = n.row }

    go : (Memᴰ row (node_places_lem ns) → AskedFor row (askers_by_nodes ns)) → (row ≡ n.row) ⊎ Memᴰ row (node_places_lem ns) → AskedFor row (one ∷ askers_by_nodes ns)
    go ih (inl e) = record { asker = one; among = Memᴰ.head refl; given = sym e }
    go ih (inr k) = asked_later row one (askers_by_nodes ns) (ih k)

pub in_turn_ask : (kind index : ℕ) (rows : List ℕ) (row : ℕ) → Memᴰ row rows → AskedFor row (askers_in_turn kind index rows)
unfolding askers_in_turn
in_turn_ask kind index [] row m = absurd (Memᴰ.not-nil m)
in_turn_ask kind index (x ∷ rows) row m = go (λ k. in_turn_ask kind (suc index) rows row k) (Memᴰ.cases_cons m)
  where
    one : Asker
    one = record { kind = kind; index = index; row = x }

    go : (Memᴰ row rows → AskedFor row (askers_in_turn kind (suc index) rows)) → (row ≡ x) ⊎ Memᴰ row rows → AskedFor row (one ∷ askers_in_turn kind (suc index) rows)
    go ih (inl e) = record { asker = one; among = Memᴰ.head refl; given = sym e }
    go ih (inr k) = asked_later row one (askers_in_turn kind (suc index) rows) (ih k)

-- ---- the first of them

pub first_made : (row : ℕ) (all : List Asker) → AskedFor row all → FirstAsker row all (maker_of all row)
unfolding maker_of sharers_of keep_if first_of
first_made row [] a = absurd (Memᴰ.not-nil a.among)
first_made row (x ∷ all) a = go (eqb x.row row) refl (λ k. first_made row all k) (Memᴰ.cases_cons a.among)
  where
    go : (b : Bool) → eqb x.row row ≡ b → (AskedFor row all → FirstAsker row all (first_of (sharers_of row all))) → (a.asker ≡ x) ⊎ Memᴰ a.asker all
        → FirstAsker row (x ∷ all) (first_of (keep_if b x (sharers_of row all)))
    go true e ih c =
        record {
          at = 0;
          asker = x;
          found = refl;
          given = eqb→eq x.row row (of_true (eqb x.row row) e);
          kind = refl;
          index = refl;
          shared = suc-le-suc zero-le;
          none_before = λ i y l f. absurd (not-suc-le-zero l);
        }
    go false e ih (inl s) = absurd (subst T e (eq→eqb (ap (λ (y : Asker). y.row) (sym s) ∙ a.given)))
    go false e ih (inr m) = later (ih (record { asker = a.asker; among = m; given = a.given }))
      where
        other : x.row ≢ row
        other s = absurd (subst T e (eq→eqb s))

        later : FirstAsker row all (first_of (sharers_of row all)) → FirstAsker row (x ∷ all) (first_of (sharers_of row all))
        later f =
            record {
              at = suc f.at;
              asker = f.asker;
              found = f.found;
              given = f.given;
              kind = f.kind;
              index = f.index;
              shared = f.shared;
              none_before = before f;
            }
          where
            before : (f : FirstAsker row all (first_of (sharers_of row all))) (i : ℕ) (y : Asker) → i < suc f.at → get_elem? (x ∷ all) i ≡ some y → y.row ≢ row
            before f zero y l q = subst (λ (z : Asker). z.row ≢ row) (same_some x y q) other
            before f (suc i) y l q = f.none_before i y (le_of_suc-le-suc l) q

-- who stands in the front of the list comes first
pub first_within : (P : ℕ → Type 0) (row : ℕ) (m : Maker) (front rest : List Asker) → AllMem (λ (a : Asker). P a.kind) front
    → (i : ℕ) (a : Asker) → get_elem? front i ≡ some a → a.row ≡ row → FirstAsker row (front ++ rest) m → P m.kind
first_within P row m front rest h i a q g f = go (dec_le (suc i) f.at)
  where
    go : Dec (suc i ≤ f.at) → P m.kind
    go (yes l) = absurd (f.none_before i a l (found_left front rest i a q) g)
    go (no o) =
        let l = lt_of_not-le o in
        let b = found_below front i a q in
        let x = below_found front f.at (omega arith) in
        let same : x.0 ≡ f.asker = same_some x.0 f.asker (sym (found_left front rest f.at x.0 x.1) ∙ f.found) in
        subst P (ap (λ (y : Asker). y.kind) same ∙ sym f.kind) (h x.0 (found_mem front f.at x.0 x.1))

abbrev pub node_asker : NodeRow → Asker
node_asker n = record { kind = by_node; index = n.node; row = n.row }

nodes_found : (ns : List NodeRow) (i : ℕ) (n : NodeRow) → get_elem? ns i ≡ some n → get_elem? (askers_by_nodes ns) i ≡ some (node_asker n)
unfolding askers_by_nodes
nodes_found [] i n e = not_found n e
nodes_found (x ∷ ns) zero n e = ap (λ (y : NodeRow). some (node_asker y)) (same_some x n e)
nodes_found (x ∷ ns) (suc i) n e = nodes_found ns i n e

-- in the order of asking node rows come first: asker i is that of node row i
pub node_row_asks : (shape : Shape) (i : ℕ) (n : NodeRow) → get_elem? shape.node_rows i ≡ some n → get_elem? (askers shape) i ≡ some (node_asker n)
unfolding askers
node_row_asks shape i n e =
    let nodes : List Asker = askers_by_nodes shape.node_rows in
    let aggregates : List Asker = askers_in_turn by_aggregate 0 shape.aggregates in
    let storages : List Asker = askers_in_turn by_virtual_storage 0 (map (λ (v : VirtualStorageShape). v.row) shape.virtual_storages) in
    found_left (nodes ++ aggregates) storages i (node_asker n) (found_left nodes aggregates i (node_asker n) (nodes_found shape.node_rows i n e))

pub nodes_kind : (ns : List NodeRow) → AllMem (λ (a : Asker). a.kind ≡ by_node) (askers_by_nodes ns)
unfolding askers_by_nodes
nodes_kind ns = all_map (λ (a : Asker). a.kind ≡ by_node) (λ (n : NodeRow). record { kind = by_node; index = n.node; row = n.row }) ns (λ n m. refl)

pub in_turn_kind : (kind index : ℕ) (rows : List ℕ) → AllMem (λ (a : Asker). a.kind ≡ kind) (askers_in_turn kind index rows)
unfolding askers_in_turn
in_turn_kind kind index [] = all_none (λ (a : Asker). a.kind ≡ kind)
in_turn_kind kind index (row ∷ rows) = all_cons (λ (a : Asker). a.kind ≡ kind) _ (askers_in_turn kind (suc index) rows) refl (in_turn_kind kind (suc index) rows)

-- ---- how many they are

pub sharers_count : (row : ℕ) (all : List Asker) → length (sharers_of row all) ≡ times_named (λ (a : Asker). a.row) row all
unfolding sharers_of times_named keep_if
sharers_count row [] = refl
sharers_count row (x ∷ all) = go (eqb x.row row) (sharers_count row all)
  where
    go : (b : Bool) → length (sharers_of row all) ≡ times_named (λ (a : Asker). a.row) row all
        → length (keep_if b x (sharers_of row all)) ≡ cond b 1 0 + times_named (λ (a : Asker). a.row) row all
    go true e = ap suc e ∙ omega arith
    go false e = e ∙ omega arith

pub first_count : (sharers : List Asker) → (first_of sharers).shared_by ≡ length sharers
unfolding first_of
first_count [] = refl
first_count (x ∷ rest) = refl

named_append : {A : Type 0} (of : A → ℕ) (row : ℕ) (xs ys : List A) → times_named of row (xs ++ ys) ≡ times_named of row xs + times_named of row ys
unfolding times_named
named_append of row [] ys = sym (zero-add (times_named of row ys))
named_append of row (x ∷ xs) ys = let ih = named_append of row xs ys in omega arith

named_map : {A B : Type 0} (of : B → ℕ) (g : A → B) (row : ℕ) (xs : List A) → times_named of row (map g xs) ≡ times_named (λ (x : A). of (g x)) row xs
unfolding times_named
named_map of g row [] = refl
named_map of g row (x ∷ xs) = ap (λ (n : ℕ). cond (eqb (of (g x)) row) 1 0 + n) (named_map of g row xs)

named_in_turn : (kind index row : ℕ) (rows : List ℕ) → times_named (λ (a : Asker). a.row) row (askers_in_turn kind index rows) ≡ times_named (λ (r : ℕ). r) row rows
unfolding times_named askers_in_turn
named_in_turn kind index row [] = refl
named_in_turn kind index row (x ∷ rows) = ap (λ (n : ℕ). cond (eqb x row) 1 0 + n) (named_in_turn kind (suc index) row rows)

pub askers_named : (shape : Shape) (row : ℕ) → times_named (λ (a : Asker). a.row) row (askers shape) ≡ references shape row
unfolding askers references askers_by_nodes
askers_named shape row =
    let of_asker : Asker → ℕ = (λ (a : Asker). a.row) in
    let nodes : List Asker = askers_by_nodes shape.node_rows in
    let aggregates : List Asker = askers_in_turn by_aggregate 0 shape.aggregates in
    let storages : List ℕ = map (λ (v : VirtualStorageShape). v.row) shape.virtual_storages in
    named_append of_asker row (nodes ++ aggregates) (askers_in_turn by_virtual_storage 0 storages)
    ∙ ap₂ (λ (m n : ℕ). m + n)
    (named_append of_asker row nodes aggregates
    ∙ ap₂ (λ (m n : ℕ). m + n)
    (named_map of_asker (λ (n : NodeRow). record { kind = by_node; index = n.node; row = n.row }) row shape.node_rows)
    (named_in_turn by_aggregate 0 row shape.aggregates))
    (named_in_turn by_virtual_storage 0 row storages ∙ named_map (λ (r : ℕ). r) (λ (v : VirtualStorageShape). v.row) row shape.virtual_storages)

-- ---- makers by number

pub varying_found : (all : List Asker) (row count i : ℕ) → i < count → get_elem? (varying_makers all row count) i ≡ some (maker_of all (row + i))
unfolding varying_makers
varying_found all row zero i h = absurd (not-suc-le-zero h)
varying_found all row (suc count) zero h = ap (λ (n : ℕ). some (maker_of all n)) (sym (add-zero row))
varying_found all row (suc count) (suc i) h = varying_found all (suc row) count i (le_of_suc-le-suc h) ∙ ap (λ (n : ℕ). some (maker_of all n)) (suc-add row i ∙ sym (add-suc row i))
