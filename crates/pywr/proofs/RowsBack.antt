-- Reading back what was written: the rows and the columns of a programme. Assumes nothing.
use mathlib.Core.Path.{◌≡◌, refl, sym, ap, ap₂, ◌∙◌}
use Prim.Native.Nat.{ℕ, ◌+◌, suc-le-suc, zero-le}
use native.Mathlib.Nat.{add-zero}
use mathlib.Core.List.{List, [], ◌∷◌, ◌++◌, map, flat_map, append_assoc}
use lib.ListN.{length, get_or, take, drop, length-append, length-map}
use lib.Seq.{slice, take_at, drop_at}
use lib.Dec.{leb}
use lib.Ieee.{Float}
use Rattle.pywr.specs.Numbers.{zero64}
use Rattle.pywr.specs.Rows.{Element}
use Rattle.pywr.specs.Programme.{Column, Row}
use Rattle.pywr.specs.Store.{Store, entries, elements_of, columns_of_row, row_entry, column_entry}
use Rattle.pywr.specs.Written.{starts_from, columns_in, values_in, lower_of, upper_of}
use Rattle.pywr.proofs.StoreLaws.{Holds, holds_right}

-- a row's elements from its columns and factors
elements_back : (es : List Element) → elements_of (map (λ (e : Element). e.column) es) (map (λ (e : Element). e.value) es) ≡ es
unfolding elements_of
elements_back [] = refl
elements_back (e ∷ es) = ap (λ (l : List Element). e ∷ l) (elements_back es)

-- the middle of three
middle : {A : Type 0} (pre mid post : List A) (at to : ℕ) → length pre ≡ at → at + length mid ≡ to → slice at to (pre ++ (mid ++ post)) ≡ mid
middle pre mid post at to p q =
    ap (λ l. drop at l) (ap (λ l. take to l) (sym (append_assoc pre mid post)) ∙ take_at (pre ++ mid) post to (length-append pre mid ∙ ap (λ (n : ℕ). n + length mid) p ∙ q))
    ∙ drop_at pre mid at p

-- the head of what is held, and the rest
pub held_head : {A : Type 0} (d : A) (run : List A) (at : ℕ) (x : A) (xs : List A) → Holds d run at (x ∷ xs) → get_or run at d ≡ x
unfolding Holds
held_head d run at x xs h = ap (λ (n : ℕ). get_or run n d) (sym (add-zero at)) ∙ h 0 (suc-le-suc zero-le)

pub held_tail : {A : Type 0} (d : A) (run : List A) (at : ℕ) (x : A) (xs : List A) → Holds d run at (x ∷ xs) → Holds d run (at + 1) xs
held_tail d run at x xs h = holds_right d run at (x ∷ []) xs h

-- the start of the first row of a list
pub start_head : (at : ℕ) (rows : List Row) (run : List ℕ) (r : ℕ) → Holds 0 run r (starts_from at rows) → get_or run r 0 ≡ at
unfolding starts_from
start_head at [] run r h = held_head 0 run r at [] h
start_head at (x ∷ xs) run r h = held_head 0 run r at (starts_from (at + length x.elements) xs) h

-- a part of a run that is the middle of three
pub part_is : {A : Type 0} (run pre mid rest post : List A) (from to at : ℕ) → run ≡ pre ++ ((mid ++ rest) ++ post) → length pre ≡ at → from ≡ at → to ≡ at + length mid
    → slice from to run ≡ mid
part_is run pre mid rest post from to at e p qf qt =
    ap (λ l. slice from to l) (e ∙ ap (λ l. pre ++ l) (append_assoc mid rest post))
    ∙ middle pre mid (rest ++ post) from to (p ∙ sym qf) (ap (λ (n : ℕ). n + length mid) qf ∙ sym qt)

pub columns_length : (x : Row) → length (columns_in x) ≡ length x.elements
unfolding columns_in
columns_length x = length-map x.elements (λ (e : Element). e.column)

pub values_length : (x : Row) → length (values_in x) ≡ length x.elements
unfolding values_in
values_length x = length-map x.elements (λ (e : Element). e.value)

row_here : (s : Store) (x : Row) (xs : List Row) (r at : ℕ) (pre_c post_c : List ℕ) (pre_e post_e : List Float)
    → s.columns ≡ pre_c ++ (flat_map columns_in (x ∷ xs) ++ post_c) → length pre_c ≡ at
    → s.elements ≡ pre_e ++ (flat_map values_in (x ∷ xs) ++ post_e) → length pre_e ≡ at
    → Holds 0 s.row_starts r (starts_from at (x ∷ xs))
    → Holds zero64 s.row_lower r (map lower_of (x ∷ xs)) → Holds zero64 s.row_upper r (map upper_of (x ∷ xs))
    → row_entry s r ≡ x
unfolding row_entry columns_of_row flat_map starts_from lower_of upper_of columns_in values_in
row_here s x xs r at pre_c post_c pre_e post_e ec lc ee le hs hl hu =
    let n : ℕ = length x.elements in
    let first : get_or s.row_starts r 0 ≡ at = start_head at (x ∷ xs) s.row_starts r hs in
    let second : get_or s.row_starts (r + 1) 0 ≡ at + n = start_head (at + n) xs s.row_starts (r + 1) (held_tail 0 s.row_starts r at (starts_from (at + n) xs) hs) in
    let cols = part_is s.columns pre_c (columns_in x) (flat_map columns_in xs) post_c (get_or s.row_starts r 0) (get_or s.row_starts (r + 1) 0) at ec lc first
    (second ∙ ap (λ (m : ℕ). at + m) (sym (columns_length x))) in
    let facs = part_is s.elements pre_e (values_in x) (flat_map values_in xs) post_e (get_or s.row_starts r 0) (get_or s.row_starts (r + 1) 0) at ee le first
    (second ∙ ap (λ (m : ℕ). at + m) (sym (values_length x))) in
    let lower = held_head zero64 s.row_lower r x.lower (map lower_of xs) hl in
    let upper = held_head zero64 s.row_upper r x.upper (map upper_of xs) hu in
    λ i. record { lower = lower i; upper = upper i; elements = (ap₂ elements_of cols facs ∙ elements_back x.elements) i }

-- Rows r, r + 1, .. of a store are `rows`: the elements from `at` on are theirs
pub rows_back : (s : Store) (rows : List Row) (r at : ℕ) (pre_c post_c : List ℕ) (pre_e post_e : List Float)
    → s.columns ≡ pre_c ++ (flat_map columns_in rows ++ post_c) → length pre_c ≡ at
    → s.elements ≡ pre_e ++ (flat_map values_in rows ++ post_e) → length pre_e ≡ at
    → Holds 0 s.row_starts r (starts_from at rows)
    → Holds zero64 s.row_lower r (map lower_of rows) → Holds zero64 s.row_upper r (map upper_of rows)
    → entries (row_entry s) 1 r (length rows) ≡ rows
unfolding entries flat_map starts_from
rows_back s [] r at pre_c post_c pre_e post_e ec lc ee le hs hl hu = refl
rows_back s (x ∷ xs) r at pre_c post_c pre_e post_e ec lc ee le hs hl hu =
    let n : ℕ = length x.elements in
    ap₂ (λ a b. a ∷ b)
    (row_here s x xs r at pre_c post_c pre_e post_e ec lc ee le hs hl hu)
    (rows_back s xs (r + 1) (at + n) (pre_c ++ columns_in x) post_c (pre_e ++ values_in x) post_e
    (ec ∙ ap (λ l. pre_c ++ l) (append_assoc (columns_in x) (flat_map columns_in xs) post_c) ∙ sym (append_assoc pre_c (columns_in x) (flat_map columns_in xs ++ post_c)))
    (length-append pre_c (columns_in x) ∙ ap₂ (λ (a b : ℕ). a + b) lc (columns_length x))
    (ee ∙ ap (λ l. pre_e ++ l) (append_assoc (values_in x) (flat_map values_in xs) post_e) ∙ sym (append_assoc pre_e (values_in x) (flat_map values_in xs ++ post_e)))
    (length-append pre_e (values_in x) ∙ ap₂ (λ (a b : ℕ). a + b) le (values_length x))
    (held_tail 0 s.row_starts r at (starts_from (at + n) xs) hs)
    (held_tail zero64 s.row_lower r (lower_of x) (map lower_of xs) hl)
    (held_tail zero64 s.row_upper r (upper_of x) (map upper_of xs) hu))

-- ---- the columns

-- the columns c, c + 1, .. : edge columns, then integer columns
pub data Typed (edges : ℕ) : ℕ → List Column → Type 0 where
  none : {c : ℕ} → Typed edges c []
  more : {c : ℕ} {x : Column} {xs : List Column} → x.integer ≡ leb edges c → Typed edges (c + 1) xs → Typed edges c (x ∷ xs)

pub columns_back : (s : Store) (edges : ℕ) → get_or s.shape 3 0 ≡ edges → (cols : List Column) (c : ℕ) → Typed edges c cols
    → Holds zero64 s.col_lower c (map (λ (x : Column). x.lower) cols)
    → Holds zero64 s.col_upper c (map (λ (x : Column). x.upper) cols)
    → Holds zero64 s.col_obj_coef c (map (λ (x : Column). x.cost) cols)
    → entries (column_entry s) 1 c (length cols) ≡ cols
unfolding entries column_entry
columns_back s edges e [] c none hl hu hc = refl
columns_back s edges e (x ∷ xs) c (more t ts) hl hu hc =
    let lower = held_head zero64 s.col_lower c x.lower (map (λ (y : Column). y.lower) xs) hl in
    let upper = held_head zero64 s.col_upper c x.upper (map (λ (y : Column). y.upper) xs) hu in
    let cost = held_head zero64 s.col_obj_coef c x.cost (map (λ (y : Column). y.cost) xs) hc in
    let here : column_entry s c ≡ x = (λ i. record { integer = (ap (λ (n : ℕ). leb n c) e ∙ sym t) i; lower = lower i; upper = upper i; cost = cost i }) in
    ap₂ (λ a b. a ∷ b) here
    (columns_back s edges e xs (c + 1) ts
    (held_tail zero64 s.col_lower c x.lower (map (λ (y : Column). y.lower) xs) hl)
    (held_tail zero64 s.col_upper c x.upper (map (λ (y : Column). y.upper) xs) hu)
    (held_tail zero64 s.col_obj_coef c x.cost (map (λ (y : Column). y.cost) xs) hc))
