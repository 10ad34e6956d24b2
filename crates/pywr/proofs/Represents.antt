-- What it is for a store to hold a programme and its shape; that a build's store does, and that they are read back. Assumes nothing.
use mathlib.Core.Path.{◌≡◌, refl, sym, ap, ap₂, ◌∙◌, subst}
use Prim.Native.Nat.{ℕ, zero, suc, ◌+◌, ◌-◌, ◌<◌, ◌≤◌}
use native.Mathlib.Nat.{add-zero, zero-add, le_refl, not-suc-le-zero, lt_of_not-le}
use native.Mathlib.Decide.{dec_le}
use native.Mathlib.Omega.{arith}
use mathlib.Core.List.{List, [], ◌∷◌, ◌++◌, map, flat_map, append_assoc}
use lib.ListN.{length, get_or, drop, length-append, length-map, get_or-append}
use lib.Seq.{sets, sets-eq, length-sets, drop_at, get_or-append-add}
use lib.Dec.{lit≤}
use lib.Ieee.{Float}
use Rattle.layout.specs.Layout.{row_starts_length, shape_length}
use Rattle.laws.proofs.Runs.{flat_append}
use Rattle.pywr.specs.declared.Sentinel.{Sentinel}
use Rattle.pywr.specs.declared.Sentinel.TheVariants.{Infinity, Largest}
use Rattle.pywr.specs.Numbers.{zero64}
use Rattle.pywr.specs.Programme.{Column, Row, Programme, Built}
use Rattle.pywr.specs.Build.{element_count}
use Rattle.pywr.specs.Store.{Store, sentinel_of, entries, node_entry, edge_entry, node_row_entry, virtual_storage_entry, maker_entry, makers_in, shape_of, row_entry, column_entry, programme_in}
use Rattle.pywr.specs.Written.{sentinel_word, integer_columns, count_words, shape_after, starts_from, columns_in, values_in, lower_of, upper_of, rows_of, built_store, stepped_store}
use Rattle.pywr.proofs.StoreLaws.{Holds, holds_left, holds_right, holds_before, sets_holds, TablesFit, count_is, shape_back, makers_back}
use Rattle.pywr.proofs.RowsBack.{rows_back, columns_back, Typed, held_head, held_tail, start_head, columns_length, values_length}

-- ---- lists

map-append : {A B : Type 0} (f : A → B) (xs ys : List A) → map f (xs ++ ys) ≡ map f xs ++ map f ys
map-append f [] ys = refl
map-append f (x ∷ xs) ys = ap (λ l. f x ∷ l) (map-append f xs ys)

held_cons : {A : Type 0} (d : A) (run : List A) (at : ℕ) (x : A) (xs : List A) → get_or run at d ≡ x → Holds d run (at + 1) xs → Holds d run at (x ∷ xs)
unfolding Holds
held_cons d run at x xs e h zero k = ap (λ (n : ℕ). get_or run n d) (add-zero at) ∙ e
held_cons d run at x xs e h (suc i) k =
    let l : suc i < suc (length xs) = k in
    let n : at + suc i ≡ at + 1 + i = omega arith in
    ap (λ (m : ℕ). get_or run m d) n ∙ h i (omega arith)

held_none : {A : Type 0} (d : A) (run : List A) (at : ℕ) → Holds d run at []
unfolding Holds
held_none d run at i k = absurd (not-suc-le-zero k)

held_append : {A : Type 0} (d : A) (run xs ys : List A) → Holds d run 0 xs → Holds d run (0 + length xs) ys → Holds d run 0 (xs ++ ys)
unfolding Holds
held_append d run xs ys h k i l = go (dec_le (suc i) (length xs))
  where
    go : Dec (suc i ≤ length xs) → get_or run (0 + i) d ≡ get_or (xs ++ ys) i d
    go (yes m) = h i m ∙ sym (get_or-append xs ys d i m)
    go (no f) =
        let g = lt_of_not-le f in
        let j : ℕ = i - length xs in
        let e : length xs + j ≡ i = omega arith in
        let e' : 0 + i ≡ 0 + length xs + j = omega arith in
        let a = length-append xs ys in
        ap (λ (n : ℕ). get_or run n d) e' ∙ k j (omega arith) ∙ sym (get_or-append-add xs ys j d) ∙ ap (λ (n : ℕ). get_or (xs ++ ys) n d) e

-- the starts of two lists of rows
starts_left : (run : List ℕ) (v f : List Row) (r at : ℕ) → Holds 0 run r (starts_from at (v ++ f)) → Holds 0 run r (starts_from at v)
unfolding starts_from
starts_left run [] f r at h = held_cons 0 run r at [] (start_head at f run r h) (held_none 0 run (r + 1))
starts_left run (x ∷ v) f r at h =
    held_cons 0 run r at (starts_from (at + length x.elements) v) (held_head 0 run r at (starts_from (at + length x.elements) (v ++ f)) h)
    (starts_left run v f (r + 1) (at + length x.elements) (held_tail 0 run r at (starts_from (at + length x.elements) (v ++ f)) h))

starts_right : (run : List ℕ) (v f : List Row) (r at : ℕ) → Holds 0 run r (starts_from at (v ++ f)) → Holds 0 run (r + length v) (starts_from (at + element_count v) f)
unfolding starts_from element_count
starts_right run [] f r at h = subst (λ (n : ℕ). Holds 0 run n (starts_from (at + 0) f)) (sym (add-zero r)) (subst (λ (n : ℕ). Holds 0 run r (starts_from n f)) (sym (add-zero at)) h)
starts_right run (x ∷ v) f r at h =
    let n : ℕ = length x.elements in
    let a : at + n + element_count v ≡ at + (n + element_count v) = omega arith in
    let b : r + 1 + length v ≡ r + suc (length v) = omega arith in
    subst (λ (m : ℕ). Holds 0 run m (starts_from (at + (n + element_count v)) f)) b
    (subst (λ (m : ℕ). Holds 0 run (r + 1 + length v) (starts_from m f)) a
    (starts_right run v f (r + 1) (at + n) (held_tail 0 run r at (starts_from (at + n) (v ++ f)) h)))

-- ---- the relation

pub record Represents (s : Store) (b : Built) : Type 0 where
  pub shape : shape_of s ≡ b.shape
  pub makers : makers_in s ≡ b.makers
  pub sentinel : sentinel_of (get_or s.shape 0 0) ≡ b.programme.sentinel
  pub edge_columns : get_or s.shape 3 0 ≡ b.shape.edge_columns
  pub column_count : get_or s.shape 3 0 + get_or s.shape 4 0 ≡ length b.programme.columns
  pub varying_count : get_or s.shape 5 0 ≡ length b.programme.varying
  pub fixed_count : get_or s.shape 6 0 ≡ length b.programme.fixed
  pub typed : Typed b.shape.edge_columns 0 b.programme.columns
  pub col_lower : Holds zero64 s.col_lower 0 (map (λ (x : Column). x.lower) b.programme.columns)
  pub col_upper : Holds zero64 s.col_upper 0 (map (λ (x : Column). x.upper) b.programme.columns)
  pub col_obj_coef : Holds zero64 s.col_obj_coef 0 (map (λ (x : Column). x.cost) b.programme.columns)
  pub spare_columns : List ℕ
  pub columns : s.columns ≡ flat_map columns_in (rows_of b.programme) ++ spare_columns
  pub spare_elements : List Float
  pub elements : s.elements ≡ flat_map values_in (rows_of b.programme) ++ spare_elements
  pub starts : Holds 0 s.row_starts 0 (starts_from 0 (rows_of b.programme))
  pub lower : Holds zero64 s.row_lower 0 (map lower_of (rows_of b.programme))
  pub upper : Holds zero64 s.row_upper 0 (map upper_of (rows_of b.programme))
  pub cost_room : length b.programme.columns ≤ length s.col_obj_coef
  pub lower_room : length (rows_of b.programme) ≤ length s.row_lower
  pub upper_room : length (rows_of b.programme) ≤ length s.row_upper

columns_count : (v : List Row) → length (flat_map columns_in v) ≡ element_count v
unfolding flat_map element_count
columns_count [] = refl
columns_count (x ∷ v) = length-append (columns_in x) (flat_map columns_in v) ∙ ap₂ (λ (a b : ℕ). a + b) (columns_length x) (columns_count v)

values_count : (v : List Row) → length (flat_map values_in v) ≡ element_count v
unfolding flat_map element_count
values_count [] = refl
values_count (x ∷ v) = length-append (values_in x) (flat_map values_in v) ∙ ap₂ (λ (a b : ℕ). a + b) (values_length x) (values_count v)

-- a represented programme is read back
pub programme_back : (s : Store) (b : Built) → Represents s b → programme_in s ≡ b.programme
unfolding programme_in rows_of
programme_back s b r =
    let p : Programme = b.programme in
    let v : List Row = p.varying in
    let f : List Row = p.fixed in
    let ec = r.columns ∙ ap (λ l. l ++ r.spare_columns) (flat_append columns_in v f) ∙ append_assoc (flat_map columns_in v) (flat_map columns_in f) r.spare_columns in
    let ee = r.elements ∙ ap (λ l. l ++ r.spare_elements) (flat_append values_in v f) ∙ append_assoc (flat_map values_in v) (flat_map values_in f) r.spare_elements in
    let hl = subst (λ l. Holds zero64 s.row_lower 0 l) (map-append lower_of v f) r.lower in
    let hu = subst (λ l. Holds zero64 s.row_upper 0 l) (map-append upper_of v f) r.upper in
    let cols : entries (column_entry s) 1 0 (get_or s.shape 3 0 + get_or s.shape 4 0) ≡ p.columns =
    ap (entries (column_entry s) 1 0) r.column_count ∙ columns_back s b.shape.edge_columns r.edge_columns p.columns 0 r.typed r.col_lower r.col_upper r.col_obj_coef in
    let vary : entries (row_entry s) 1 0 (get_or s.shape 5 0) ≡ v =
    ap (entries (row_entry s) 1 0) r.varying_count
    ∙ rows_back s v 0 0 [] (flat_map columns_in f ++ r.spare_columns) [] (flat_map values_in f ++ r.spare_elements) ec refl ee refl
    (starts_left s.row_starts v f 0 0 r.starts)
    (holds_left zero64 s.row_lower 0 (map lower_of v) (map lower_of f) hl)
    (holds_left zero64 s.row_upper 0 (map upper_of v) (map upper_of f) hu) in
    let n : ℕ = length v in
    let fix : entries (row_entry s) 1 (get_or s.shape 5 0) (get_or s.shape 6 0) ≡ f =
    ap₂ (entries (row_entry s) 1) r.varying_count r.fixed_count
    ∙ rows_back s f n (element_count v) (flat_map columns_in v) r.spare_columns (flat_map values_in v) r.spare_elements ec (columns_count v) ee (values_count v)
    (subst (λ (m : ℕ). Holds 0 s.row_starts m (starts_from (element_count v) f)) (zero-add n)
    (subst (λ (m : ℕ). Holds 0 s.row_starts (0 + n) (starts_from m f)) (zero-add (element_count v)) (starts_right s.row_starts v f 0 0 r.starts)))
    (subst (λ (m : ℕ). Holds zero64 s.row_lower m (map lower_of f)) (zero-add (length (map lower_of v)) ∙ length-map v lower_of) (holds_right zero64 s.row_lower 0 (map lower_of v) (map lower_of f) hl))
    (subst (λ (m : ℕ). Holds zero64 s.row_upper m (map upper_of f)) (zero-add (length (map upper_of v)) ∙ length-map v upper_of)
    (holds_right zero64 s.row_upper 0 (map upper_of v) (map upper_of f) hu)) in
    λ i. record { sentinel = r.sentinel i; columns = cols i; varying = vary i; fixed = fix i }

-- ---- a build's store

-- what an accepted build's programme keeps to
pub record ProgrammeFits (b : Built) : Type 0 where
  pub tables : TablesFit b
  pub columns : length b.programme.columns ≤ 640
  pub rows : length (rows_of b.programme) ≤ 1024
  pub elements : element_count (rows_of b.programme) ≤ 4096
  pub typed : Typed b.shape.edge_columns 0 b.programme.columns
  pub integers : b.shape.edge_columns + integer_columns b.programme.columns ≡ length b.programme.columns

-- runs as long as the ceilings need
pub record Roomy (s : Store) : Type 0 where
  pub col_lower : 640 ≤ length s.col_lower
  pub col_upper : 640 ≤ length s.col_upper
  pub col_obj_coef : 640 ≤ length s.col_obj_coef
  pub row_lower : 1024 ≤ length s.row_lower
  pub row_upper : 1024 ≤ length s.row_upper
  pub elements : 4096 ≤ length s.elements
  pub columns : 4096 ≤ length s.columns
  pub row_starts : row_starts_length ≤ length s.row_starts
  pub shape : shape_length ≤ length s.shape

sentinel_back : (w : Sentinel) → sentinel_of (sentinel_word w) ≡ w
unfolding sentinel_of sentinel_word
sentinel_back Infinity = refl
sentinel_back Largest = refl

starts_length : (at : ℕ) (rows : List Row) → length (starts_from at rows) ≡ suc (length rows)
unfolding starts_from
starts_length at [] = refl
starts_length at (x ∷ xs) = ap suc (starts_length (at + length x.elements) xs)

pub built_represents : (old : Store) (b : Built) → Roomy old → ProgrammeFits b → Represents (built_store old b) b
unfolding built_store count_words
built_represents old b room fit =
    let p : Programme = b.programme in
    let rows : List Row = rows_of p in
    let at : (i : ℕ) → i < 11 → get_or (shape_after old.shape b) i 0 ≡ get_or (count_words b) i 0 = count_is old b room.shape fit.tables in
    let nc = fit.columns in
    let nr = fit.rows in
    let ne = fit.elements in
    record {
      shape = shape_back old b room.shape fit.tables;
      makers = makers_back old b room.shape fit.tables;
      sentinel = ap sentinel_of (at 0 (lit≤ tt)) ∙ sentinel_back p.sentinel;
      edge_columns = at 3 (lit≤ tt);
      column_count = ap₂ (λ (x y : ℕ). x + y) (at 3 (lit≤ tt)) (at 4 (lit≤ tt)) ∙ fit.integers;
      varying_count = at 5 (lit≤ tt);
      fixed_count = at 6 (lit≤ tt);
      typed = fit.typed;
      col_lower = sets_holds zero64 (map (λ (x : Column). x.lower) p.columns) old.col_lower 0
          (let l = length-map p.columns (λ (x : Column). x.lower) in let r = room.col_lower in omega arith);
      col_upper = sets_holds zero64 (map (λ (x : Column). x.upper) p.columns) old.col_upper 0
          (let l = length-map p.columns (λ (x : Column). x.upper) in let r = room.col_upper in omega arith);
      col_obj_coef = sets_holds zero64 (map (λ (x : Column). x.cost) p.columns) old.col_obj_coef 0
          (let l = length-map p.columns (λ (x : Column). x.cost) in let r = room.col_obj_coef in omega arith);
      spare_columns = drop (0 + length (flat_map columns_in rows)) old.columns;
      columns = sets-eq (flat_map columns_in rows) old.columns 0 (let l = columns_count rows in let r = room.columns in omega arith);
      spare_elements = drop (0 + length (flat_map values_in rows)) old.elements;
      elements = sets-eq (flat_map values_in rows) old.elements 0 (let l = values_count rows in let r = room.elements in omega arith);
      starts = sets_holds 0 (starts_from 0 rows) old.row_starts 0 (let l = starts_length 0 rows in let r = room.row_starts in omega arith);
      lower = sets_holds zero64 (map lower_of rows) old.row_lower 0 (let l = length-map rows lower_of in let r = room.row_lower in omega arith);
      upper = sets_holds zero64 (map upper_of rows) old.row_upper 0 (let l = length-map rows upper_of in let r = room.row_upper in omega arith);
      cost_room = let l = length-sets old.col_obj_coef 0 (map (λ (x : Column). x.cost) p.columns) in let r = room.col_obj_coef in omega arith;
      lower_room = let l = length-sets old.row_lower 0 (map lower_of rows) in let r = room.row_lower in omega arith;
      upper_room = let l = length-sets old.row_upper 0 (map upper_of rows) in let r = room.row_upper in omega arith;
    }

-- ---- a step's store

-- rows that differ in bounds and factors alone
pub data SameColumns : List Row → List Row → Type 0 where
  none : SameColumns [] []
  more : {x y : Row} {xs ys : List Row} → columns_in x ≡ columns_in y → SameColumns xs ys → SameColumns (x ∷ xs) (y ∷ ys)

same_size : (x y : Row) → columns_in x ≡ columns_in y → length x.elements ≡ length y.elements
same_size x y e = sym (columns_length x) ∙ ap length e ∙ columns_length y

pub same_length : (xs ys : List Row) → SameColumns xs ys → length xs ≡ length ys
same_length [] [] none = refl
same_length (x ∷ xs) (y ∷ ys) (more e s) = ap suc (same_length xs ys s)
same_length [] (y ∷ ys) x'' = elim x'' [ ]
same_length (x ∷ xs) [] x4 = elim x4 [ ]

same_columns : (xs ys : List Row) → SameColumns xs ys → flat_map columns_in xs ≡ flat_map columns_in ys
unfolding flat_map
same_columns [] [] none = refl
same_columns (x ∷ xs) (y ∷ ys) (more e s) = ap₂ (λ a b. a ++ b) e (same_columns xs ys s)
same_columns [] (y ∷ ys) x'' = elim x'' [ ]
same_columns (x ∷ xs) [] x4 = elim x4 [ ]

same_count : (xs ys : List Row) → SameColumns xs ys → element_count xs ≡ element_count ys
unfolding element_count
same_count [] [] none = refl
same_count (x ∷ xs) (y ∷ ys) (more e s) = ap₂ (λ (a b : ℕ). a + b) (same_size x y e) (same_count xs ys s)
same_count [] (y ∷ ys) x'' = elim x'' [ ]
same_count (x ∷ xs) [] x4 = elim x4 [ ]

same_starts : (xs ys f : List Row) (at : ℕ) → SameColumns xs ys → starts_from at (xs ++ f) ≡ starts_from at (ys ++ f)
unfolding starts_from
same_starts [] [] f at none = refl
same_starts (x ∷ xs) (y ∷ ys) f at (more e s) =
    ap (λ (l : List ℕ). at ∷ l) (same_starts xs ys f (at + length x.elements) s ∙ ap (λ (n : ℕ). starts_from (at + n) (ys ++ f)) (same_size x y e))
same_starts [] (y ∷ ys) f at x'' = elim x'' [ ]
same_starts (x ∷ xs) [] f at x4 = elim x4 [ ]

-- both halves held, where the first was stored anew
anew : {A : Type 0} (d : A) (run new old rest : List A) → length new ≡ length old → length new ≤ length run → Holds d run 0 (old ++ rest) → Holds d (sets run 0 new) 0 (new ++ rest)
anew d run new old rest e room h = held_append d (sets run 0 new) new rest (sets_holds d new run 0 (omega arith))
    (holds_before d new rest run (0 + length new) 0 (le_refl (0 + length new)) (subst (λ (n : ℕ). Holds d run (0 + n) rest) (sym e) (holds_right d run 0 old rest h)))

module _ (s : Store) (b : Built) (r : Represents s b) (v : List Row) (cols : List Column)
    (same : SameColumns v b.programme.varying)
    (length-cols : length cols ≡ length b.programme.columns)
    (lowers : map (λ (x : Column). x.lower) cols ≡ map (λ (x : Column). x.lower) b.programme.columns)
    (uppers : map (λ (x : Column). x.upper) cols ≡ map (λ (x : Column). x.upper) b.programme.columns)
    (types : Typed b.shape.edge_columns 0 cols) where
  unfoldable pub next : Built
  next = record { programme = record { sentinel = b.programme.sentinel; columns = cols; varying = v; fixed = b.programme.fixed }; shape = b.shape; makers = b.makers }

  pub step_represents : Represents (stepped_store s next.programme) next
  unfolding stepped_store rows_of next shape_of node_entry edge_entry node_row_entry virtual_storage_entry makers_in maker_entry
  step_represents =
      let p : Programme = b.programme in
      let old : List Row = p.varying in
      let f : List Row = p.fixed in
      let n : length v ≡ length old = same_length v old same in
      let la = length-append old f in
      let lv = length-append v f in
      record {
        shape = r.shape;
        makers = r.makers;
        sentinel = r.sentinel;
        edge_columns = r.edge_columns;
        column_count = r.column_count ∙ sym length-cols;
        varying_count = r.varying_count ∙ sym n;
        fixed_count = r.fixed_count;
        typed = types;
        col_lower = subst (λ l. Holds zero64 s.col_lower 0 l) (sym lowers) r.col_lower;
        col_upper = subst (λ l. Holds zero64 s.col_upper 0 l) (sym uppers) r.col_upper;
        col_obj_coef = sets_holds zero64 (map (λ (x : Column). x.cost) cols) s.col_obj_coef 0 (let l = length-map cols (λ (x : Column). x.cost) in let c = r.cost_room in omega arith);
        spare_columns = r.spare_columns;
        columns =
            r.columns
            ∙ ap (λ l. l ++ r.spare_columns)
            (flat_append columns_in old f ∙ ap (λ l. l ++ flat_map columns_in f) (sym (same_columns v old same)) ∙ sym (flat_append columns_in v f));
        spare_elements = r.spare_elements;
        elements =
            let c : length (flat_map values_in v) ≡ length (flat_map values_in old) = values_count v ∙ same_count v old same ∙ sym (values_count old) in
            let e : s.elements ≡ flat_map values_in old ++ (flat_map values_in f ++ r.spare_elements) =
            r.elements ∙ ap (λ l. l ++ r.spare_elements) (flat_append values_in old f) ∙ append_assoc (flat_map values_in old) (flat_map values_in f) r.spare_elements in
            let k : length s.elements ≡ length (flat_map values_in old) + length (flat_map values_in f ++ r.spare_elements) = ap length e
            ∙ length-append (flat_map values_in old) (flat_map values_in f ++ r.spare_elements) in
            sets-eq (flat_map values_in v) s.elements 0 (omega arith)
            ∙ ap (λ l. flat_map values_in v ++ l)
            (ap (λ l. drop (0 + length (flat_map values_in v)) l) e
            ∙ drop_at (flat_map values_in old) (flat_map values_in f ++ r.spare_elements) (0 + length (flat_map values_in v)) (sym c ∙ sym (zero-add (length (flat_map values_in v)))))
            ∙ sym (append_assoc (flat_map values_in v) (flat_map values_in f) r.spare_elements)
            ∙ ap (λ l. l ++ r.spare_elements) (sym (flat_append values_in v f));
        starts = subst (λ l. Holds 0 s.row_starts 0 l) (sym (same_starts v old f 0 same)) r.starts;
        lower =
            subst (λ l. Holds zero64 (sets s.row_lower 0 (map lower_of v)) 0 l) (sym (map-append lower_of v f))
            (anew zero64 s.row_lower (map lower_of v) (map lower_of old) (map lower_of f) (length-map v lower_of ∙ n ∙ sym (length-map old lower_of))
            (let l = length-map v lower_of in let c = r.lower_room in omega arith)
            (subst (λ l. Holds zero64 s.row_lower 0 l) (map-append lower_of old f) r.lower));
        upper =
            subst (λ l. Holds zero64 (sets s.row_upper 0 (map upper_of v)) 0 l) (sym (map-append upper_of v f))
            (anew zero64 s.row_upper (map upper_of v) (map upper_of old) (map upper_of f) (length-map v upper_of ∙ n ∙ sym (length-map old upper_of))
            (let l = length-map v upper_of in let c = r.upper_room in omega arith)
            (subst (λ l. Holds zero64 s.row_upper 0 l) (map-append upper_of old f) r.upper));
        cost_room = let l = length-sets s.col_obj_coef 0 (map (λ (x : Column). x.cost) cols) in let c = r.cost_room in omega arith;
        lower_room = let l = length-sets s.row_lower 0 (map lower_of v) in let c = r.lower_room in omega arith;
        upper_room = let l = length-sets s.row_upper 0 (map upper_of v) in let c = r.upper_room in omega arith;
      }

-- ---- a step's store after another's

write_again : {A : Type 0} (run xs ys : List A) → length xs ≡ length ys → length ys ≤ length run → sets (sets run 0 xs) 0 ys ≡ sets run 0 ys
write_again run xs ys e room =
    let l = length-sets run 0 xs in
    sets-eq ys (sets run 0 xs) 0 (omega arith)
    ∙ ap (λ r. ys ++ drop (0 + length ys) r) (sets-eq xs run 0 (omega arith))
    ∙ ap (λ r. ys ++ r) (drop_at xs (drop (0 + length xs) run) (0 + length ys) (e ∙ sym (zero-add (length ys))) ∙ ap (λ (n : ℕ). drop (0 + n) run) e)
    ∙ sym (sets-eq ys run 0 (omega arith))

pub store_again : (s : Store) (b : Built) → Represents s b → (p q : Programme) → SameColumns p.varying b.programme.varying → SameColumns q.varying b.programme.varying
    → length p.columns ≡ length b.programme.columns → length q.columns ≡ length b.programme.columns → stepped_store (stepped_store s p) q ≡ stepped_store s q
unfolding stepped_store rows_of
store_again s b r p q hp hq cp cq =
    let v : List Row = b.programme.varying in
    let f : List Row = b.programme.fixed in
    let np : length p.varying ≡ length v = same_length p.varying v hp in
    let nq : length q.varying ≡ length v = same_length q.varying v hq in
    let la = length-append v f in
    let rows : (g : Row → Float) → length (map g p.varying) ≡ length (map g q.varying) = (λ g. length-map p.varying g ∙ np ∙ sym nq ∙ sym (length-map q.varying g)) in
    let factors : length (flat_map values_in q.varying) ≡ length (flat_map values_in v) = values_count q.varying ∙ same_count q.varying v hq ∙ sym (values_count v) in
    let long : length s.elements ≡ length (flat_map values_in v) + length (flat_map values_in f) + length r.spare_elements =
    ap length r.elements ∙ length-append (flat_map values_in (v ++ f)) r.spare_elements
    ∙ ap (λ (n : ℕ). n + length r.spare_elements) (ap length (flat_append values_in v f) ∙ length-append (flat_map values_in v) (flat_map values_in f)) in
    let cost = write_again s.col_obj_coef (map (λ (x : Column). x.cost) p.columns) (map (λ (x : Column). x.cost) q.columns)
    (length-map p.columns (λ (x : Column). x.cost) ∙ cp ∙ sym cq ∙ sym (length-map q.columns (λ (x : Column). x.cost)))
    (let l = length-map q.columns (λ (x : Column). x.cost) in let c = r.cost_room in omega arith) in
    let lower = write_again s.row_lower (map lower_of p.varying) (map lower_of q.varying) (rows lower_of) (let l = length-map q.varying lower_of in let c = r.lower_room in omega arith) in
    let upper = write_again s.row_upper (map upper_of p.varying) (map upper_of q.varying) (rows upper_of) (let l = length-map q.varying upper_of in let c = r.upper_room in omega arith) in
    let element = write_again s.elements (flat_map values_in p.varying) (flat_map values_in q.varying)
    (values_count p.varying ∙ same_count p.varying v hp ∙ sym (values_count v) ∙ sym factors) (omega arith) in
    λ i. record {
      col_lower = s.col_lower;
      col_upper = s.col_upper;
      col_obj_coef = cost i;
      row_lower = lower i;
      row_upper = upper i;
      elements = element i;
      columns =
          s.columns;
      row_starts = s.row_starts;
      shape = s.shape;
    }
