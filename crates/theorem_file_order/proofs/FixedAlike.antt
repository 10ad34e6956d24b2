-- Fixed rows that are alike: the same rows stand, with the same bounds and by the same makers. Assumes nothing.
use mathlib.Core.Path.{◌≡◌, refl, ap, ap₂}
use Prim.Native.Nat.{ℕ, suc}
use native.Mathlib.Omega.{arith}
use mathlib.Core.Bool.{Bool, true, false, cond, not, ◌&&◌}
use mathlib.Core.List.{List, [], ◌∷◌, ◌++◌}
use lib.ListN.{length}
use lib.Dec.{eqb}
use lib.Ieee.{eq}
use Rattle.pywr.specs.declared.Sentinel.{Sentinel}
use Rattle.pywr.specs.Numbers.{zero64, high}
use Rattle.pywr.specs.Network.{link, Node, Aggregate}
use Rattle.pywr.specs.ColEdgeMap.{MappedEdge}
use Rattle.pywr.specs.ExclusiveSets.{sets_with_node}
use Rattle.pywr.specs.Rows.{ColumnMap, mass_row, lower_row}
use Rattle.pywr.specs.Programme.{Row, Maker, by_mass, by_node, by_exclusivity}
use Rattle.pywr.specs.FixedRows.{mass_rows_from, upper_coefficient, lower_coefficient, exclusive_rows, constant_rows, constant_rows_from, exclusivity_rows}
use Rattle.pywr.specs.Makers.{made_by, made_in_turn, mass_makers, constant_makers, exclusivity_makers}
use Rattle.theorem_file_order.proofs.Renumbering.{Renumbering, Alike}
use Rattle.theorem_file_order.proofs.RowsAlike.{with_edges, MovedEdges, node_row_alike, mass_row_alike, upper_row_alike, lower_row_alike, exclusivity_row_alike}
use Rattle.theorem_file_order.proofs.JoinedAlike.{Each, each_append, each_length}

pub record RowAlike (new : Renumbering) (x y : Row) : Type 0 where
  pub lower : x.lower ≡ y.lower
  pub upper : x.upper ≡ y.upper
  pub elements : Alike new x.elements y.elements

made_alike : (kind index : ℕ) (xs ys : List Row) → length xs ≡ length ys → made_by kind index xs ≡ made_by kind index ys
unfolding made_by
made_alike kind index [] [] l = refl
made_alike kind index [] (y ∷ ys) l = let z : 0 ≡ suc (length ys) = l in absurd (omega arith)
made_alike kind index (x ∷ xs) [] l = let z : suc (length xs) ≡ 0 = l in absurd (omega arith)
made_alike kind index (x ∷ xs) (y ∷ ys) l =
    let z : suc (length xs) ≡ suc (length ys) = l in
    ap (λ (m : List Maker). record { kind = kind; index = index; shared_by = 1 } ∷ m) (made_alike kind index xs ys (omega arith))

-- as many rows by each maker
in_turn_alike : {A : Type 0} (kind : ℕ) (F G : ℕ → A → List Row) → ((n : ℕ) (x : A) → length (F n x) ≡ length (G n x)) → (n : ℕ) (xs : List A)
    → made_in_turn kind F n xs ≡ made_in_turn kind G n xs
unfolding made_in_turn
in_turn_alike kind F G h n [] = refl
in_turn_alike kind F G h n (x ∷ xs) = ap₂ (λ (p q : List Maker). p ++ q) (made_alike kind n (F n x) (G n x) (h n x)) (in_turn_alike kind F G h (suc n) xs)

-- one row, or none
when : {new : Renumbering} (b : Bool) {x y : Row} → RowAlike new x y → Each (RowAlike new) (cond b (x ∷ []) []) (cond b (y ∷ []) [])
when true h = Each.more h Each.none
when false h = Each.none

module _ {new : Renumbering} {f : ColumnMap} {es : List MappedEdge} (moved : MovedEdges new f es) where
  abbrev g : ColumnMap
  g = with_edges f es

  pub masses_alike : (n : ℕ) (xs : List Node) → Each (RowAlike new) (mass_rows_from f n xs) (mass_rows_from g n xs)
  unfolding mass_rows_from
  masses_alike n [] = Each.none
  masses_alike n (x ∷ xs) =
      let h = mass_row_alike moved n in
      rw h.elements
      (each_append (when (eqb x.kind link && not (eqb (length (mass_row g n)) 1)) (record { lower = refl; upper = refl; elements = h })) (masses_alike (suc n) xs))

  exclusives_alike : (s : Sentinel) (n : ℕ) (x : Node) (ks : List ℕ) → Each (RowAlike new) (exclusive_rows s f n x ks) (exclusive_rows s g n x ks)
  unfolding exclusive_rows
  exclusives_alike s n x [] = Each.none
  exclusives_alike s n x (k ∷ ks) =
      Each.more (record { lower = refl; upper = refl; elements = upper_row_alike moved n k (upper_coefficient x.max) })
      (each_append (go (eq x.min zero64)) (exclusives_alike s n x ks))
    where
      -- "min 0 omits the row"
      lower : ColumnMap → Row
      lower m = record { lower = zero64; upper = high s; elements = lower_row m n k (lower_coefficient x.min) }

      go : (b : Bool) → Each (RowAlike new) (cond b [] (lower f ∷ [])) (cond b [] (lower g ∷ []))
      go true = Each.none
      go false = Each.more (record { lower = refl; upper = refl; elements = lower_row_alike moved n k (lower_coefficient x.min) }) Each.none

  constant_alike : (s : Sentinel) (n : ℕ) (x : Node) (ks : List ℕ) → Each (RowAlike new) (constant_rows s f n x ks) (constant_rows s g n x ks)
  unfolding constant_rows
  constant_alike s n x [] = Each.more (record { lower = refl; upper = refl; elements = node_row_alike moved n }) Each.none
  constant_alike s n x (k ∷ ks) = exclusives_alike s n x (k ∷ ks)

  pub constants_alike : (s : Sentinel) (n : ℕ) (xs : List Node) → Each (RowAlike new) (constant_rows_from s f n xs) (constant_rows_from s g n xs)
  unfolding constant_rows_from with_edges
  constants_alike s n [] = Each.none
  constants_alike s n (x ∷ xs) = each_append (go x.constant) (constants_alike s (suc n) xs)
    where
      go : (b : Bool) → Each (RowAlike new) (cond b (constant_rows s f n x (sets_with_node n 0 f.sets)) [])
          (cond b (constant_rows s g n x (sets_with_node n 0 f.sets)) [])
      go true = constant_alike s n x (sets_with_node n 0 f.sets)
      go false = Each.none

  pub exclusivities_alike : (aggregates : List Aggregate) → Each (RowAlike new) (exclusivity_rows f aggregates) (exclusivity_rows g aggregates)
  unfolding exclusivity_rows
  exclusivities_alike [] = Each.none
  exclusivities_alike (a ∷ aggregates) =
      each_append (when a.exclusive (record { lower = refl; upper = refl; elements = exclusivity_row_alike moved a })) (exclusivities_alike aggregates)

  pub mass_makers_alike : (xs : List Node) → mass_makers f 0 xs ≡ mass_makers g 0 xs
  unfolding mass_makers
  mass_makers_alike xs = in_turn_alike by_mass _ _ (λ n x. each_length (masses_alike n (x ∷ []))) 0 xs

  pub fixed_makers_alike : (s : Sentinel) (xs : List Node) (aggregates : List Aggregate)
      → mass_makers f 0 xs ++ constant_makers s f 0 xs ++ exclusivity_makers f 0 aggregates
      ≡ mass_makers g 0 xs ++ constant_makers s g 0 xs ++ exclusivity_makers g 0 aggregates
  unfolding constant_makers exclusivity_makers
  fixed_makers_alike s xs aggregates =
      let constants : constant_makers s f 0 xs ≡ constant_makers s g 0 xs = in_turn_alike by_node _ _ (λ n x. each_length (constants_alike s n (x ∷ []))) 0 xs in
      let exclusivities : exclusivity_makers f 0 aggregates ≡ exclusivity_makers g 0 aggregates =
      in_turn_alike by_exclusivity _ _ (λ n x. each_length (exclusivities_alike (x ∷ []))) 0 aggregates in
      ap₂ (λ (p q : List Maker). p ++ q) (ap₂ (λ (p q : List Maker). p ++ q) (mass_makers_alike xs) constants) exclusivities
