-- Rows that are joined: the row at a place has the columns and the sum of the row that was asked for. Assumes nothing.
use mathlib.Core.Path.{◌≡◌, refl, sym, ap, ap₂, ◌∙◌, subst}
use Prim.Native.Nat.{ℕ, zero, suc, ◌<◌, ◌≤◌, suc-le-suc, zero-le}
use native.Mathlib.Nat.{not-suc-le-zero, le_of_suc-le-suc}
use native.Mathlib.Omega.{arith}
use mathlib.Core.Bool.{Bool, true, false, cond, ◌&&◌}
use mathlib.Core.List.Memᴰ
use mathlib.Core.List.{List, [], ◌∷◌, ◌++◌, map, append-nil, append_assoc}
use lib.ListN.{length, get_or, length-append, get_or-append}
use lib.Seq.{get_or_at}
use lib.IntN.{ℤ, pos, ◌+ℤ◌, ◌*ℤ◌}
use lib.Dec.{T, eqb, ltb, eqb→eq, ltb→lt}
use lib.Ieee.{Float, binary64, fits, eq}
use lib.Ieee.Fits.{and_l, and_r, add-fits}
use borrow.Author.Tests.{ltb-false}
use Rattle.pywr.specs.Rows.{Element, element, add_element, add_on}
use Rattle.pywr.specs.VariableRows.{same_row, position, add_variable_rows, Joined, add_variable_row}
use Rattle.pywr.specs.Step.{change_coefficient}
use Rattle.pywr.specs.Plans.{exact, is_finite}
use Rattle.pywr.proofs.ElementLaws.{add_none, add_cases}
use Rattle.pywr.proofs.ExactLaws.{eq_exact, eq_finite}
use Rattle.pywr.proofs.SumLaws.{weighed}
use Rattle.pywr.proofs.ListLaws.{AllMem, all_none, all_cons}

-- every factor is a double
pub data AllFit : List Element → Type 0 where
  none : AllFit []
  more : {e : Element} {es : List Element} → T (fits binary64 e.value) → AllFit es → AllFit (e ∷ es)

pub add_fit : (c : ℕ) (x : Float) (row : List Element) → AllFit row → AllFit (add_element c x row)
add_fit c x [] none = rw (add_none c x) (more (add-fits binary64 _ x) none)
add_fit c x (e ∷ es) (more h hs) =
    add_cases c x e es AllFit (λ l. more (add-fits binary64 _ x) (more h hs)) (λ l. more (add-fits binary64 e.value x) hs) (λ l. more h (add_fit c x es hs))

pub add_on_fit : (cs : List ℕ) (x : Float) (row : List Element) → AllFit row → AllFit (add_on cs x row)
unfolding add_on
add_on_fit [] x row h = h
add_on_fit (c ∷ cs) x row h = add_on_fit cs x (add_element c x row) (add_fit c x row h)

-- ---- rows that count as one

abbrev pub cols : List Element → List ℕ
cols row = map (λ (e : Element). e.column) row

abbrev AllFinite : List Element → Type 0
AllFinite row = AllMem (λ (e : Element). is_finite e.value ≡ true) row

-- of the same column, of the same exact value, and finite where the other is
pub record AlikeElement (x y : Element) : Type 0 where
  pub column : x.column ≡ y.column
  pub amount : exact x.value ≡ exact y.value
  pub finite : is_finite x.value ≡ is_finite y.value

pub data Alike : List Element → List Element → Type 0 where
  none : Alike [] []
  more : {x y : Element} {xs ys : List Element} → AlikeElement x y → Alike xs ys → Alike (x ∷ xs) (y ∷ ys)

alike_self : (a : List Element) → Alike a a
alike_self [] = none
alike_self (x ∷ xs) = more (record { column = refl; amount = refl; finite = refl }) (alike_self xs)

pub alike_is : {a b : List Element} → a ≡ b → Alike a b
alike_is {a} {b} e = subst (Alike a) e (alike_self a)

same_alike : (a b : List Element) → AllFit a → AllFit b → T (same_row a b) → Alike a b
unfolding same_row
same_alike [] [] none none h = none
same_alike [] (y ∷ ys) fa fb h = absurd h
same_alike (x ∷ xs) [] fa fb h = absurd h
same_alike (x ∷ xs) (y ∷ ys) (more fx fa) (more fy fb) h =
    let both : T (eqb x.column y.column && eq x.value y.value) = and_l (eqb x.column y.column && eq x.value y.value) (same_row xs ys) h in
    let t : T (eq x.value y.value) = and_r (eqb x.column y.column) (eq x.value y.value) both in
    more
    (record {
      column = eqb→eq x.column y.column (and_l (eqb x.column y.column) (eq x.value y.value) both);
      amount = eq_exact x.value y.value fx fy t;
      finite = eq_finite x.value y.value t;
    })
    (same_alike xs ys fa fb (and_r (eqb x.column y.column && eq x.value y.value) (same_row xs ys) h))

pub alike_columns : {a b : List Element} → Alike a b → cols a ≡ cols b
alike_columns none = refl
alike_columns (more e rest) = ap₂ (λ (k : ℕ) (l : List ℕ). k ∷ l) e.column (alike_columns rest)

-- whatever a column weighs
pub alike_sum : (weight : ℕ → ℕ) {a b : List Element} → Alike a b → weighed weight a ≡ weighed weight b
unfolding weighed
alike_sum weight none = refl
alike_sum weight (more e rest) = ap₂ (λ (u v : ℤ). u +ℤ v) (ap₂ (λ (u : ℤ) (k : ℕ). u *ℤ pos (weight k)) e.amount e.column) (alike_sum weight rest)

pub alike_finite : {a b : List Element} → Alike a b → AllFinite b → AllFinite a
alike_finite none all = all
alike_finite (more {x} {y} {xs} {ys} e rest) all =
    all_cons (λ (z : Element). is_finite z.value ≡ true) x xs (e.finite ∙ all y (Memᴰ.head refl)) (alike_finite rest (λ z m. all z (Memᴰ.tail m)))

-- rows stay alike when the coefficient on a column is set
pub alike_set : (c : ℕ) (v : Float) {a b : List Element} → Alike a b → Alike (change_coefficient c (λ held. v) a) (change_coefficient c (λ held. v) b)
unfolding change_coefficient
alike_set c v none = none
alike_set c v (more {x} {y} {xs} {ys} e rest) = go (eqb x.column c) (eqb y.column c) (ap (λ (n : ℕ). eqb n c) e.column) (alike_set c v rest)
  where
    go : (p q : Bool) → p ≡ q → Alike (change_coefficient c (λ held. v) xs) (change_coefficient c (λ held. v) ys)
        → Alike (cond p (element c v ∷ xs) (x ∷ change_coefficient c (λ held. v) xs)) (cond q (element c v ∷ ys) (y ∷ change_coefficient c (λ held. v) ys))
    go true true s ih = more (record { column = refl; amount = refl; finite = refl }) rest
    go false false s ih = more e ih
    go true false s ih = absurd (subst T s tt)
    go false true s ih = absurd (subst T (sym s) tt)

-- ---- places

pub data RowsFit : List (List Element) → Type 0 where
  none : RowsFit []
  more : {r : List Element} {rs : List (List Element)} → AllFit r → RowsFit rs → RowsFit (r ∷ rs)

fit_append : (rs : List (List Element)) (r : List Element) → RowsFit rs → AllFit r → RowsFit (rs ++ (r ∷ []))
fit_append [] r none h = more h none
fit_append (x ∷ xs) r (more hx hs) h = more hx (fit_append xs r hs h)

fit_at : (rs : List (List Element)) (p : ℕ) → RowsFit rs → AllFit (get_or rs p [])
fit_at [] p none = none
fit_at (x ∷ xs) zero (more hx hs) = hx
fit_at (x ∷ xs) (suc p) (more hx hs) = fit_at xs p hs

position_found : (row : List Element) (rows : List (List Element)) → position row rows < length rows → T (same_row (get_or rows (position row rows) []) row)
unfolding position
position_found row [] h = absurd (not-suc-le-zero h)
position_found row (r ∷ rs) h = go (same_row r row) refl (λ k. position_found row rs k) h
  where
    go : (b : Bool) → same_row r row ≡ b → (position row rs < length rs → T (same_row (get_or rs (position row rs) []) row))
        → cond b 0 (suc (position row rs)) < suc (length rs) → T (same_row (get_or (r ∷ rs) (cond b 0 (suc (position row rs))) []) row)
    go true e ih k = subst T (sym e) tt
    go false e ih k = ih (le_of_suc-le-suc k)

pub position_most : (row : List Element) (rows : List (List Element)) → position row rows ≤ length rows
unfolding position
position_most row [] = zero-le
position_most row (r ∷ rs) = go (same_row r row) (position_most row rs)
  where
    go : (b : Bool) → position row rs ≤ length rs → cond b 0 (suc (position row rs)) ≤ suc (length rs)
    go true h = zero-le
    go false h = suc-le-suc h

-- each asked row's place has a row that counts as it
pub data Placed (rows : List (List Element)) : List (List Element) → List ℕ → Type 0 where
  none : Placed rows [] []
  more : {r : List Element} {rs : List (List Element)} {p : ℕ} {ps : List ℕ} → p < length rows → Alike (get_or rows p []) r → Placed rows rs ps → Placed rows (r ∷ rs) (p ∷ ps)

placed_later : (rows asked : List (List Element)) (ps : List ℕ) (r : List Element) → Placed rows asked ps → Placed (rows ++ (r ∷ [])) asked ps
placed_later rows [] [] r none = none
placed_later rows (a ∷ as') (p ∷ ps) r (more h e rest) =
    let l = length-append rows (r ∷ []) in
    let k : p < length (rows ++ (r ∷ [])) = omega arith in
    more k (subst (λ (row : List Element). Alike row a) (sym (get_or-append rows (r ∷ []) [] p h)) e) (placed_later rows as' ps r rest)
placed_later rows [] (p ∷ ps) r x'' = elim x'' [ ]
placed_later rows (a ∷ as') [] r x3 = elim x3 [ ]

placed_snoc : (rows asked : List (List Element)) (ps : List ℕ) (r : List Element) (p : ℕ) → Placed rows asked ps → p < length rows → Alike (get_or rows p []) r
    → Placed rows (asked ++ (r ∷ [])) (ps ++ (p ∷ []))
placed_snoc rows [] [] r p none h e = more h e none
placed_snoc rows (a ∷ as') (q ∷ ps) r p (more k e' rest) h e = more k e' (placed_snoc rows as' ps r p rest h e)
placed_snoc rows [] (q ∷ ps) r p x6 h e = elim x6 [ ]
placed_snoc rows (a ∷ as') [] r p x5 h e = elim x5 [ ]

-- what the join keeps
pub record JoinKept (asked : List (List Element)) (j : Joined) : Type 0 where
  pub fit : RowsFit j.rows
  pub placed : Placed j.rows asked j.places

pub join_kept : (asked : List (List Element)) (r : List Element) (j : Joined) → AllFit r → JoinKept asked j → JoinKept (asked ++ (r ∷ [])) (add_variable_row r j)
unfolding add_variable_row
join_kept asked r j h k = go (ltb (position r j.rows) (length j.rows)) refl
  where
    p : ℕ
    p = position r j.rows

    go : (b : Bool) → ltb p (length j.rows) ≡ b → JoinKept (asked ++ (r ∷ [])) (record { rows = cond b j.rows (j.rows ++ (r ∷ [])); places = j.places ++ (p ∷ []) })
    go true e =
        let l : p < length j.rows = ltb→lt p (length j.rows) (subst T (sym e) tt) in
        record {
          fit = k.fit;
          placed = placed_snoc j.rows asked j.places r p k.placed l (same_alike (get_or j.rows p []) r (fit_at j.rows p k.fit) h (position_found r j.rows l));
        }
    go false e =
        let n = length-append j.rows (r ∷ []) in
        let same : p ≡ length j.rows = (let m = position_most r j.rows in let g = ltb-false p (length j.rows) e in omega arith) in
        record {
          fit = fit_append j.rows r k.fit h;
          placed =
              placed_snoc (j.rows ++ (r ∷ [])) asked j.places r p (placed_later j.rows asked j.places r k.placed) (omega arith)
              (alike_is (get_or_at j.rows r [] [] p (sym same)));
        }

-- the whole list, after what was joined before
pub joins_kept : (asked before : List (List Element)) (j : Joined) → RowsFit asked → JoinKept before j → JoinKept (before ++ asked) (add_variable_rows asked j)
unfolding add_variable_rows
joins_kept [] before j RowsFit.none k = subst (λ l. JoinKept l j) (sym (append-nil before)) k
joins_kept (r ∷ rs) before j (RowsFit.more h hs) k =
    subst (λ l. JoinKept l (add_variable_rows rs (add_variable_row r j))) (append_assoc before (r ∷ []) rs) (joins_kept rs (before ++ (r ∷ [])) (add_variable_row r j) hs (join_kept before r j h k))

-- places stay good while more rows are joined
one_stays : (asked : List (List Element)) (ps : List ℕ) (r : List Element) (j : Joined) → Placed j.rows asked ps → Placed (add_variable_row r j).rows asked ps
unfolding add_variable_row
one_stays asked ps r j p = go (ltb (position r j.rows) (length j.rows))
  where
    go : (b : Bool) → Placed (cond b j.rows (j.rows ++ (r ∷ []))) asked ps
    go true = p
    go false = placed_later j.rows asked ps r p

pub placed_stays : (asked : List (List Element)) (ps : List ℕ) (rs : List (List Element)) (j : Joined) → Placed j.rows asked ps → Placed (add_variable_rows rs j).rows asked ps
unfolding add_variable_rows
placed_stays asked ps [] j p = p
placed_stays asked ps (r ∷ rs) j p = placed_stays asked ps rs (add_variable_row r j) (one_stays asked ps r j p)

pub placed_length : (rows asked : List (List Element)) (ps : List ℕ) → Placed rows asked ps → length asked ≡ length ps
placed_length rows [] [] none = refl
placed_length rows (r ∷ rs) (p ∷ ps) (more h e rest) = ap suc (placed_length rows rs ps rest)
placed_length rows [] (p ∷ ps) x'' = elim x'' [ ]
placed_length rows (r ∷ rs) [] x3 = elim x3 [ ]

pub places_under : (rows asked : List (List Element)) (ps : List ℕ) → Placed rows asked ps → AllMem (λ (p : ℕ). p < length rows) ps
places_under rows [] [] none = all_none (λ (p : ℕ). p < length rows)
places_under rows (r ∷ rs) (p ∷ ps) (more h e rest) = all_cons (λ (q : ℕ). q < length rows) p ps h (places_under rows rs ps rest)
places_under rows [] (p ∷ ps) x'' = elim x'' [ ]
places_under rows (r ∷ rs) [] x3 = elim x3 [ ]
