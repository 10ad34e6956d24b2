-- Those who asked, counted in turn: one more, and the loop that counts them. Assumes nothing.
use mathlib.Core.Path.{◌≡◌, refl, sym, ap, ap₂, ◌∙◌, subst}
use mathlib.Core.Logic.{◌≢◌}
use Prim.Native.Nat.{ℕ, zero, suc, ◌+◌, ◌*◌, ◌<◌, ◌≤◌}
use native.Mathlib.Decide.{ℕ_discrete, dec_le}
use native.Mathlib.Numerals.{add-one}
use native.Mathlib.Omega.{arith}
use mathlib.Core.List.{List, [], ◌∷◌, ◌++◌, append-nil, append_assoc}
use lib.ListN.{length, get_or, take, length-append}
use lib.Seq.{sets, length-sets, get_or-take}
use Rattle.layout.specs.Layout.{makers_at, shape_length}
use Rattle.laws.specs.Part.{part}
use Rattle.laws.proofs.Sets.{part_same, part_before, part_after, part_at}
use Rattle.pywr.specs.Programme.{Maker}
use Rattle.pywr.specs.Makers.{Asker, maker_of}
use Rattle.pywr.specs.Written.{maker_words}
use Rattle.pywr.proofs.StoreLaws.{maker_wide}
use Rattle.build_sharers.specs.Sharers.{maker_in, one_more, askers_to, RowsUnder, MakersOf, Counting, Counted}
use Rattle.build_sharers.proofs.OneMore.{more_same, more_other, shared_most}

-- ---- words before the table stay

pub word_kept : (shape shape' : List ℕ) (p : ℕ) → p < makers_at → take makers_at shape' ≡ take makers_at shape → get_or shape' p 0 ≡ get_or shape p 0
word_kept shape shape' p h e = sym (get_or-take makers_at shape' p 0 h) ∙ ap (λ (l : List ℕ). get_or l p 0) e ∙ get_or-take makers_at shape p 0 h

-- ---- an entry read

word_of : (shape ws : List ℕ) (at j : ℕ) → j < 3 → part at 3 shape ≡ ws → get_or shape (at + j) 0 ≡ get_or ws j 0
word_of shape ws at j h e = sym (part_at shape at 3 j 0 h) ∙ ap (λ (l : List ℕ). get_or l j 0) e

pub entry_read : (shape : List ℕ) (row : ℕ) (m : Maker) → part (makers_at + 3 * row) 3 shape ≡ maker_words m → maker_in shape row ≡ m
unfolding maker_words
entry_read shape row m e =
    let at : ℕ = makers_at + 3 * row in
    let z : at + 0 ≡ at = omega arith in
    let a : get_or shape at 0 ≡ m.kind = ap (λ (p : ℕ). get_or shape p 0) (sym z) ∙ word_of shape (maker_words m) at 0 (omega arith) e in
    let b : get_or shape (at + 1) 0 ≡ m.index = word_of shape (maker_words m) at 1 (omega arith) e in
    let c : get_or shape (at + 2) 0 ≡ m.shared_by = word_of shape (maker_words m) at 2 (omega arith) e in
    λ i. record { kind = a i; index = b i; shared_by = c i }

-- ---- one more has asked

module _ (shape : List ℕ) (a : Asker) (under : a.row < 1024) (room : shape_length ≤ length shape) (shape' : List ℕ)
    (w : shape' ≡ sets shape (makers_at + 3 * a.row) (maker_words (one_more a.kind a.index (maker_in shape a.row)))) where
  abbrev place : ℕ
  place = makers_at + 3 * a.row

  abbrev entry : Maker
  entry = one_more a.kind a.index (maker_in shape a.row)

  pub one_kept : take makers_at shape' ≡ take makers_at shape
  one_kept = ap (take makers_at) w ∙ part_before shape (maker_words entry) place 0 makers_at (omega arith)

  pub one_more_lem : (rows : ℕ) (all : List Asker) → MakersOf all rows shape → MakersOf (all ++ (a ∷ [])) rows shape'
  one_more_lem rows all held r h = go (ℕ_discrete a.row r)
    where
      here : a.row ≡ r → part (makers_at + 3 * r) 3 shape' ≡ maker_words (maker_of (all ++ (a ∷ [])) r)
      here e =
          let q : makers_at + 3 * r ≡ place = omega (arith, e) in
          let read : maker_in shape a.row ≡ maker_of all r = ap (maker_in shape) e ∙ entry_read shape r (maker_of all r) (held r h) in
          ap₂ (λ (p : ℕ) (l : List ℕ). part p 3 l) q w
          ∙ part_same shape (maker_words entry) place 3 (maker_wide entry) (omega arith)
          ∙ ap maker_words (ap (one_more a.kind a.index) read ∙ sym (more_same all a r e))

      beside : a.row ≢ r → Dec (a.row ≤ r) → part (makers_at + 3 * r) 3 (sets shape place (maker_words entry)) ≡ part (makers_at + 3 * r) 3 shape
      beside n (yes l) = part_after shape (maker_words entry) place (makers_at + 3 * r) 3 (omega (arith, maker_wide entry, n, l))
      beside n (no l) = part_before shape (maker_words entry) place (makers_at + 3 * r) 3 (omega (arith, l))

      go : Dec (a.row ≡ r) → part (makers_at + 3 * r) 3 shape' ≡ maker_words (maker_of (all ++ (a ∷ [])) r)
      go (yes e) = here e
      go (no n) = ap (part (makers_at + 3 * r) 3) w ∙ beside n (dec_le a.row r) ∙ held r h ∙ ap maker_words (sym (more_other all a r n))

-- ---- rows under the count

pub under_left : (rows : ℕ) (xs ys : List Asker) → RowsUnder rows (xs ++ ys) → RowsUnder rows xs
under_left rows [] ys h = tt
under_left rows (x ∷ xs) ys h = (h.0, under_left rows xs ys h.1)

pub under_right : (rows : ℕ) (xs ys : List Asker) → RowsUnder rows (xs ++ ys) → RowsUnder rows ys
under_right rows [] ys h = h
under_right rows (x ∷ xs) ys h = under_right rows xs ys h.1

under_at : (rows : ℕ) (asker : ℕ → Asker) (count i : ℕ) → i < count → RowsUnder rows (askers_to asker count) → (asker i).row < rows
unfolding askers_to
under_at rows asker zero i h u = absurd (omega arith)
under_at rows asker (suc count) i h u =
    go (ℕ_discrete i count) (λ l. under_at rows asker count i l (under_left rows (askers_to asker count) (asker count ∷ []) u))
  where
    go : Dec (i ≡ count) → (i < count → (asker i).row < rows) → (asker i).row < rows
    go (yes e) before = subst (λ (k : ℕ). (asker k).row < rows) (sym e) (under_right rows (askers_to asker count) (asker count ∷ []) u).0
    go (no n) before = before (omega (arith, n))

pub askers_length : (asker : ℕ → Asker) (count : ℕ) → length (askers_to asker count) ≡ count
unfolding askers_to
askers_length asker zero = refl
askers_length asker (suc count) = let ih = askers_length asker count in omega (arith, ih, length-append (askers_to asker count) (asker count ∷ []))

-- ---- the loop

-- the first i have been counted
pub record Walked (shape₀ : List ℕ) (asker : ℕ → Asker) (count : ℕ) (shape : List ℕ) (i : ℕ) : Type 0 where
  pub few : i ≤ count
  pub counted : Counted shape₀ (askers_to asker i) shape
  pub long : length shape ≡ length shape₀

module _ (shape₀ : List ℕ) (asker : ℕ → Asker) (count : ℕ) where
  pub walked_none : Walked shape₀ asker count shape₀ 0
  unfolding askers_to
  walked_none =
      record { few = omega arith; counted = record { held = λ rows all h. subst (λ (l : List Asker). MakersOf l rows shape₀) (sym (append-nil all)) h; kept = refl }; long = refl }

  module _ (ready : Counting shape₀ (askers_to asker count)) (shape : List ℕ) (i : ℕ) (lt : i < count) (w : Walked shape₀ asker count shape i) where
    pub next_under : (asker i).row < 1024
    next_under = omega (arith, under_at ready.rows asker count i lt ready.under, ready.few)

    pub next_room : (maker_in shape (asker i).row).shared_by < 65535
    next_room =
        let all : List Asker = ready.all ++ askers_to asker i in
        let held = w.counted.held ready.rows ready.all ready.held (asker i).row (under_at ready.rows asker count i lt ready.under) in
        let read = ap (λ (m : Maker). m.shared_by) (entry_read shape (asker i).row (maker_of all (asker i).row) held) in
        omega (
          arith,
          read,
          shared_most all (asker i).row,
          length-append ready.all (askers_to asker i),
          askers_length asker i,
          askers_length asker count,
          ready.room,
        )

    pub walked_more : shape_length ≤ length shape₀ → (a : Asker) → a ≡ asker i → (shape' : List ℕ)
        → shape' ≡ sets shape (makers_at + 3 * a.row) (maker_words (one_more a.kind a.index (maker_in shape a.row))) → Walked shape₀ asker count shape' (i + 1)
    unfolding askers_to
    walked_more room a e shape' s =
        let under : a.row < 1024 = subst (λ (x : Asker). x.row < 1024) (sym e) next_under in
        let here : shape_length ≤ length shape = omega (arith, w.long) in
        record {
          few = omega arith;
          counted =
              record {
                held = λ rows all h.
                    rw (add-one i, ← e, ← (append_assoc all (askers_to asker i) (a ∷ [])))
                    (one_more_lem shape a under here shape' s rows (all ++ askers_to asker i) (w.counted.held rows all h));
                kept = one_kept shape a under here shape' s ∙ w.counted.kept;
              };
          long = ap length s ∙ length-sets shape (makers_at + 3 * a.row) (maker_words (one_more a.kind a.index (maker_in shape a.row))) ∙ w.long;
        }

  pub walked_all : (shape : List ℕ) (i : ℕ) → count ≤ i → Walked shape₀ asker count shape i → Counted shape₀ (askers_to asker count) shape
  walked_all shape i h w = let e : i ≡ count = omega (arith, w.few) in subst (λ (k : ℕ). Counted shape₀ (askers_to asker k) shape) e w.counted
