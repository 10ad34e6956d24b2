-- The walk of a list of edges that adds each one's column to a row. Assumes nothing.
use Prim.Native.Nat.{ℕ, ◌-◌, ◌<◌, ◌≤◌}
use mathlib.Core.Path.{◌≡◌, refl, sym, ◌∙◌, ap}
use mathlib.Core.Logic.{◌⊎◌, inl, inr}
use mathlib.Core.Bool.{cond}
use mathlib.Core.List.{List, [], ◌∷◌}
use native.Mathlib.Omega.{arith}
use borrow.Author.Tests.{eq-eqb, ne_eqb}
use lib.Dec.{eqb}
use lib.ListN.{get_or}
use lib.Ieee.{Float}
use Rattle.pywr.specs.Rows.{Element, add_on}
use Rattle.build_row.specs.RowBuilder.{gathered, Rising, ElementAdded}
use Rattle.laws.specs.Linked.{Linked}
use Rattle.build_row.specs.EdgeList.{columns_of, HaveColumns, ListedEdges}

-- the table lists one list of edges
same_edges : (next : List ℕ) (first : ℕ) (es fs : List ℕ) → Linked 512 next first es → Linked 512 next first fs → es ≡ fs
same_edges next first [] [] h k = refl
same_edges next first [] (f ∷ fs) h k = absurd (omega arith)
same_edges next first (e ∷ es) [] h k = absurd (omega arith)
same_edges next first (e ∷ es) (f ∷ fs) h k =
    let q : f ≡ e = omega arith in
    let t = same_edges next (get_or next e 0) es fs h.3 (rw q at k.3) in
    rw (q, t)

-- e is the first of the edges left
pub record Ahead (next table : List ℕ) (link e : ℕ) (es : List ℕ) : Type 0 where
  pub within : e < 512
  pub least : 1 ≤ get_or table e 0
  pub most : get_or table e 0 ≤ 640
  pub higher : (get_or next e 0 ≡ 0) ⊎ (link < get_or next e 0)
  pub rest : ListedEdges next table (get_or next e 0)
  pub split : es ≡ e ∷ rest.edges

first_of : (next table : List ℕ) (link e : ℕ) (es : List ℕ) → Linked 512 next link es → HaveColumns table es → (link ≡ 0 → ⊥) → e ≡ link - 1 → Ahead next table link e es
first_of next table link e [] h m ne at = absurd (ne h)
first_of next table link e (f ∷ es) h m ne at =
    let q : e ≡ f = omega arith in
    record {
      within = omega arith;
      least = rw q m.0;
      most = rw q m.1;
      higher = rw (q, h.0) h.2;
      rest = record { edges = es; listed = rw q h.3; mapped = m.2 };
      split = rw q;
    }

pub ahead : (next table : List ℕ) (link e : ℕ) (l : ListedEdges next table link) → (link ≡ 0 → ⊥) → e ≡ link - 1 → Ahead next table link e l.edges
ahead next table link e l ne at = first_of next table link e l.edges l.listed l.mapped ne at

-- the loop's measure: what is left above the edge's number
abbrev pub above : ℕ → ℕ
above link = cond (eqb link 0) 0 (513 - link)

pub above_falls : (link then : ℕ) → (link ≡ 0 → ⊥) → link ≤ 512 → (then ≡ 0) ⊎ (link < then) → above then < above link
above_falls link then ne h (inl z) = rw (eq-eqb then 0 z, ne_eqb link 0 ne) (omega arith)
above_falls link then ne h (inr g) =
    let ne' : then ≡ 0 → ⊥ = λ z. omega arith in
    rw (ne_eqb then 0 ne', ne_eqb link 0 ne) (omega arith)

-- the loop: the whole list on the row at the start is the list left on the present row
pub record Walk (next table : List ℕ) (first : ℕ) (factor : Float) (row₀ : List Element) (columns : List ℕ) (elements : List Float) (n link : ℕ) : Type 0 where
  pub left : ListedEdges next table link
  pub row : (es : List ℕ) → Linked 512 next first es → add_on (columns_of table es) factor row₀ ≡ add_on (columns_of table left.edges) factor (gathered columns elements n)
  pub rising : Rising columns n
  pub few : n ≤ 640

module _ (next table : List ℕ) (first : ℕ) (factor : Float) where
  pub walk_first : (columns : List ℕ) (elements : List Float) (n : ℕ) → n ≤ 640 → Rising columns n → ListedEdges next table first
      → Walk next table first factor (gathered columns elements n) columns elements n first
  walk_first columns elements n few rising l =
      record { left = l; row = λ es h. rw (same_edges next first es l.edges h l.listed); rising = rising; few = few }

  module _ (row₀ : List Element) (columns : List ℕ) (elements : List Float) (n link : ℕ) (w : Walk next table first factor row₀ columns elements n link) where
    pub walk_next : (e : ℕ) → Ahead next table link e w.left.edges → (columns' : List ℕ) (elements' : List Float) (r : ℕ)
        → ElementAdded columns elements n (get_or table e 0 - 1) factor columns' elements' r
        → Walk next table first factor row₀ columns' elements' r (get_or next e 0)
    unfolding columns_of add_on
    walk_next e h columns' elements' r a =
        record {
          left = h.rest;
          row =
              λ es l.
              w.row es l
              ∙ ap (λ (fs : List ℕ). add_on (columns_of table fs) factor (gathered columns elements n)) h.split
              ∙ ap (add_on (columns_of table h.rest.edges) factor) (sym a.row);
          rising = a.rising;
          few = a.few;
        }

    pub walk_done : link ≡ 0 → (es : List ℕ) → Linked 512 next first es → gathered columns elements n ≡ add_on (columns_of table es) factor row₀
    unfolding columns_of add_on
    walk_done z es h =
        let none : w.left.edges ≡ [] = same_edges next link w.left.edges [] w.left.listed z in
        sym (w.row es h ∙ rw none)
