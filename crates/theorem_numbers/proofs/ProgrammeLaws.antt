-- `NoNaN`, `FiniteElements`, `NoMinusZero` and `EqualBits`: after an accepted build and any list of steps no bound, cost or element of the programme is NaN and
-- every element is finite, after the build no element is −0.0, and rows that join are equal bit for bit. Assumes nothing.
use mathlib.Core.Path.{◌≡◌, refl, sym, ap, ap₂, ◌∙◌, subst}
use mathlib.Core.Logic.{inl, inr}
use Prim.Native.Nat.{ℕ, suc, ◌≤◌}
use native.Mathlib.Nat.{le_trans, le_of_eq}
use mathlib.Core.Bool.{Bool, true, false, cond, not, ◌&&◌}
use mathlib.Core.List.{List, [], ◌∷◌}
use mathlib.Core.Option.{Option, none as no-file, some}
use lib.ListN.{length}
use lib.Dec.{T, eqb, eqb→eq}
use lib.Ieee.{Float, nan, inf, fin, binary64, is_nan, eq}
use lib.Ieee.Fits.{and_i, and_l, and_r}
use Rattle.laws.proofs.Tests.{of_true, to_true}
use Rattle.doubles.proofs.Units.{finite_number, eq_same}
use Rattle.pywr.specs.declared.Sentinel.{Sentinel}
use Rattle.pywr.specs.Result.{value}
use Rattle.pywr.specs.Network.{Network}
use Rattle.pywr.specs.NetworkFile.{parse_network}
use Rattle.pywr.specs.Rows.{Element, element}
use Rattle.pywr.specs.VariableRows.{same_row}
use Rattle.pywr.specs.Programme.{Column, Row, Programme, Shape, Built}
use Rattle.pywr.specs.Build.{assemble, programme_of, build}
use Rattle.pywr.specs.StepFile.{StepFile}
use Rattle.pywr.specs.Step.{change_coefficient, periods, stepped}
use Rattle.pywr.specs.Plans.{all_from}
use Rattle.pywr.specs.Store.{Store, programme_in}
use Rattle.pywr.specs.Calls.{build_answer, build_store, store_of_step, is_accepted}
use Rattle.pywr.specs.Correspondence.{Call, store_after, reports, last_accepted}
use Rattle.pywr.proofs.ExactLaws.{finite_is}
use Rattle.pywr.proofs.BoundLaws.{IsBound}
use Rattle.pywr.proofs.NumberLaws.{FiniteFit}
use Rattle.pywr.proofs.MassLaws.{Every}
use Rattle.pywr.proofs.ListLaws.{AllMem, every_mem, found_mem, mem_found}
use Rattle.pywr.proofs.Represents.{Represents, programme_back}
use Rattle.pywr.proofs.RunLaws.{bind_value, after, after_held, Reached, run}
use Rattle.pywr.proofs.ReadLaws.{Sound, read_sound}
use Rattle.pywr.proofs.StepReadLaws.{step_sound, shape_periods_length, intervals_sound}
use Rattle.pywr.proofs.DemandThree.{accepted_value, build_accepted, build_represents}
use Rattle.pywr.proofs.KeptBinaryRows.{Left, left_of_built}
use Rattle.theorem_numbers.specs.ProgrammeNumbers.{is_number, column_without_nan, element_without_nan, row_without_nan, without_nan, NoNaN, element_finite}
use Rattle.theorem_numbers.specs.ProgrammeNumbers.{row_elements_finite, elements_finite, FiniteElements, is_minus_zero, row_without_minus_zero, without_minus_zero, NoMinusZero, asked_rows, EqualBits}
use Rattle.pywr.proofs.FlowLaws.{flow_length}
use Rattle.theorem_numbers.proofs.SumBounds.{plain_bits}
use Rattle.theorem_numbers.proofs.ReadBounds.{read_small, costs_small}
use Rattle.theorem_numbers.proofs.ElementBounds.{Plain, AllPlain}
use Rattle.theorem_numbers.proofs.BuildNumbers.{ElementsOk, RowOk, ColumnOk, ProgrammeOk, build_ok, asked_plain}
use Rattle.theorem_numbers.proofs.StepNumbers.{stepped_ok}

-- ---- the tests

all_pass : {A : Type 0} (P : A → Type 0) (test : A → Bool) → ((x : A) → P x → T (test x)) → (xs : List A) (i : ℕ) → Every P xs → T (all_from (λ (j : ℕ) (x : A). test x) i xs)
unfolding all_from
all_pass P test h [] i us = tt
all_pass {A} P test h (x ∷ xs) i us = and_i (test x) (all_from (λ (j : ℕ) (y : A). test y) (suc i) xs) (h x us.0) (all_pass P test h xs (suc i) us.1)

-- the varying rows and the fixed
rows_pass : (P : Float → Type 0) (test : Row → Bool) → ((r : Row) → RowOk P r → T (test r)) → (p : Programme) → ProgrammeOk P p
    → T (all_from (λ (i : ℕ) (r : Row). test r) 0 p.varying && all_from (λ (i : ℕ) (r : Row). test r) 0 p.fixed)
rows_pass P test h p ok =
    and_i (all_from (λ (i : ℕ) (r : Row). test r) 0 p.varying) (all_from (λ (i : ℕ) (r : Row). test r) 0 p.fixed)
    (all_pass (RowOk P) test h p.varying 0 ok.varying) (all_pass (RowOk P) test h p.fixed 0 ok.fixed)

is_number_lem : (x : Float) → IsBound x → T (is_number x)
unfolding is_number is_nan
is_number_lem nan b = b.1
is_number_lem (inf s) b = tt
is_number_lem (fin s m e) b = tt

column_without : (c : Column) → ColumnOk c → T (column_without_nan c)
unfolding column_without_nan
column_without c ok =
    and_i (is_number c.lower && is_number c.upper) (is_number c.cost)
    (and_i (is_number c.lower) (is_number c.upper) (is_number_lem c.lower ok.lower) (is_number_lem c.upper ok.upper)) (is_number_lem c.cost ok.cost)

element_without : (e : Element) → FiniteFit e.value → T (element_without_nan e)
unfolding element_without_nan
element_without e u = is_number_lem e.value (u.fit, finite_number e.value u.finite)

row_without : (r : Row) → RowOk FiniteFit r → T (row_without_nan r)
unfolding row_without_nan
row_without r ok =
    and_i (is_number r.lower && is_number r.upper) (all_from (λ (i : ℕ) (e : Element). element_without_nan e) 0 r.elements)
    (and_i (is_number r.lower) (is_number r.upper) (is_number_lem r.lower ok.lower) (is_number_lem r.upper ok.upper))
    (all_pass (λ (e : Element). FiniteFit e.value) element_without_nan element_without r.elements 0 ok.elements)

nan_pass : (p : Programme) → ProgrammeOk FiniteFit p → T (without_nan p)
unfolding without_nan
nan_pass p ok =
    let cols : Bool = all_from (λ (i : ℕ) (c : Column). column_without_nan c) 0 p.columns in
    let vary : Bool = all_from (λ (i : ℕ) (r : Row). row_without_nan r) 0 p.varying in
    let fix : Bool = all_from (λ (i : ℕ) (r : Row). row_without_nan r) 0 p.fixed in
    let rows : T (vary && fix) = rows_pass FiniteFit row_without_nan row_without p ok in
    and_i (cols && vary) fix (and_i cols vary (all_pass ColumnOk column_without_nan column_without p.columns 0 ok.columns) (and_l vary fix rows)) (and_r vary fix rows)

element_finite_lem : (e : Element) → FiniteFit e.value → T (element_finite e)
unfolding element_finite
element_finite_lem e u = rw (finite_is e.value) u.finite

row_finite : (r : Row) → RowOk FiniteFit r → T (row_elements_finite r)
unfolding row_elements_finite
row_finite r ok = all_pass (λ (e : Element). FiniteFit e.value) element_finite element_finite_lem r.elements 0 ok.elements

finite_pass : (p : Programme) → ProgrammeOk FiniteFit p → T (elements_finite p)
unfolding elements_finite
finite_pass p ok = rows_pass FiniteFit row_elements_finite row_finite p ok

row_without_minus_zero_lem : (r : Row) → RowOk Plain r → T (row_without_minus_zero r)
unfolding row_without_minus_zero
row_without_minus_zero_lem r ok = all_pass (λ (e : Element). Plain e.value) (λ (e : Element). not (is_minus_zero e.value))
    (λ e u. plain_bits e.value u.number.fit u.plain) r.elements 0 ok.elements

minus_zero_pass : (p : Programme) → ProgrammeOk Plain p → T (without_minus_zero p)
unfolding without_minus_zero
minus_zero_pass p ok = rows_pass Plain row_without_minus_zero row_without_minus_zero_lem p ok

-- what is plain is finite
every_weaker : {A : Type 0} (P Q : A → Type 0) → ((x : A) → P x → Q x) → (xs : List A) → Every P xs → Every Q xs
every_weaker P Q h [] us = tt
every_weaker P Q h (x ∷ xs) us = (h x us.0, every_weaker P Q h xs us.1)

row_weaker : (r : Row) → RowOk Plain r → RowOk FiniteFit r
row_weaker r ok = record {
  lower = ok.lower;
  upper = ok.upper;
  elements = every_weaker (λ (e : Element). Plain e.value)
      (λ (e : Element). FiniteFit e.value) (λ e u. u.number) r.elements ok.elements;
}

weaker : (p : Programme) → ProgrammeOk Plain p → ProgrammeOk FiniteFit p
weaker p ok = record {
  columns = ok.columns;
  varying = every_weaker (RowOk Plain) (RowOk FiniteFit) row_weaker p.varying ok.varying;
  fixed = every_weaker
      (RowOk Plain) (RowOk FiniteFit) row_weaker p.fixed ok.fixed;
}

-- ---- any list of steps

set_finite : (c : ℕ) (v : Float) → FiniteFit v → (es : List Element) → Every (λ (e : Element). FiniteFit e.value) es
    → Every (λ (e : Element). FiniteFit e.value) (change_coefficient c (λ held. v) es)
unfolding change_coefficient
set_finite c v ok [] us = tt
set_finite c v ok (e ∷ es) us = go (eqb e.column c) (set_finite c v ok es us.1)
  where
    go : (b : Bool) → Every (λ (e : Element). FiniteFit e.value) (change_coefficient c (λ held. v) es)
        → Every (λ (e : Element). FiniteFit e.value) (cond b (element c v ∷ es) (e ∷ change_coefficient c (λ held. v) es))
    go true ih = (ok, us.1)
    go false ih = (us.0, ih)

left_finite : (y x : Row) → Left y x → ElementsOk FiniteFit y → ElementsOk FiniteFit x
left_finite y x (inl same) us = subst (Every (λ (e : Element). FiniteFit e.value)) (sym same) us
left_finite y x (inr set) us = subst (Every (λ (e : Element). FiniteFit e.value)) (sym set.2) (set_finite set.0 set.1 set.3 y.elements us)

module _ (s : Store) (b : Built) (held : Represents s b) (few : length b.shape.flow_order ≤ 512) (ok : ProgrammeOk FiniteFit b.programme) where
  reached_ok : (o : Option (List ℕ)) (t : Store) → Reached s b held o t → AllMem (ElementsOk FiniteFit) (programme_in t).varying → ProgrammeOk FiniteFit (programme_in t)
  unfolding Reached
  reached_ok no-file t h elements = subst (ProgrammeOk FiniteFit) (sym (ap programme_in h ∙ programme_back s b held)) ok
  reached_ok (some file) t h elements =
      let f : StepFile = h.0 in
      let shape : Shape = b.shape in
      let a : ℕ = length shape.aggregates in
      let v : ℕ = length shape.virtual_storages in
      let is : programme_in t ≡ stepped shape f b.programme = ap programme_in h.2 ∙ programme_back (store_of_step s (value f)) (after s b held f) (after_held s b held f) in
      subst (ProgrammeOk FiniteFit) (sym is)
      (stepped_ok FiniteFit shape f b.programme a v few (costs_small shape.nodes a v file f h.1)
      (intervals_sound b.programme.sentinel (periods shape) a v f (shape_periods_length shape) (step_sound shape.nodes a v file f h.1))
      (subst (λ (p : Programme). AllMem (ElementsOk FiniteFit) p.varying) is elements) ok)

-- ---- the laws

accepted_network : (network_file : List ℕ) (s : Sentinel) (old : Store) (words : List ℕ) (numbers : List Float) → is_accepted (build_answer s network_file old words numbers) ≡ true
    → (net : Network) × (parse_network network_file ≡ value net)
unfolding build_answer build
accepted_network network_file s old words numbers accepted =
    let v = accepted_value (build_answer s network_file old words numbers) accepted in
    let a = bind_value _ _ v.0 v.1 in
    let b = bind_value _ _ v.0 a.2 in
    (b.0, b.1)

module _ (network_file : List ℕ) (s : Sentinel) (old : Store) (words : List ℕ) (numbers : List Float) (accepted : is_accepted (build_answer s network_file old words numbers) ≡ true) where
  abbrev start : Store
  start = build_store s network_file old words numbers

  net : Network
  net = (accepted_network network_file s old words numbers accepted).0

  parsed : parse_network network_file ≡ value net
  unfolding net
  parsed = (accepted_network network_file s old words numbers accepted).1

  sound : Sound net
  sound = read_sound network_file net parsed

  held : Represents start (programme_of s net)
  held = build_represents s net old network_file words numbers sound (build_accepted s net old network_file words numbers parsed accepted)

  built : ProgrammeOk Plain (programme_of s net).programme
  built = build_ok net sound (read_small network_file net parsed) s

  built_finite : ProgrammeOk FiniteFit (programme_of s net).programme
  built_finite = weaker (programme_of s net).programme built

  few : length (programme_of s net).shape.flow_order ≤ 512
  unfolding programme_of assemble
  few = le_trans (le_of_eq (flow_length net)) sound.good.edge_count

  elements_after : (calls : List Call) → AllMem (ElementsOk FiniteFit) (programme_in (store_after start calls)).varying
  elements_after calls x m =
      let rows : List Row = (programme_of s net).programme.varying in
      let at = mem_found (programme_in (store_after start calls)).varying x m in
      let y = left_of_built network_file s old words numbers net parsed accepted calls at.0 x at.1 in
      left_finite y.0 x y.2 (every_mem (RowOk FiniteFit) rows built_finite.varying y.0 (found_mem rows at.0 y.0 y.1)).elements

  after_steps : (calls : List Call) → ProgrammeOk FiniteFit (programme_in (store_after start calls))
  unfolding Reached
  after_steps calls =
      reached_ok start (programme_of s net) held few built_finite (last_accepted no-file (reports start calls)) (store_after start calls)
      (run start (programme_of s net) held calls start no-file refl) (elements_after calls)

pub no_nan : NoNaN
no_nan network_file s old words numbers accepted calls =
    let p : Programme = programme_in (store_after (build_store s network_file old words numbers) calls) in
    to_true (without_nan p) (nan_pass p (after_steps network_file s old words numbers accepted calls))

pub finite_elements : FiniteElements
finite_elements network_file s old words numbers accepted calls =
    let p : Programme = programme_in (store_after (build_store s network_file old words numbers) calls) in
    to_true (elements_finite p) (finite_pass p (after_steps network_file s old words numbers accepted calls))

pub no_minus_zero : NoMinusZero
no_minus_zero network_file s old words numbers accepted =
    let store : Store = build_store s network_file old words numbers in
    let b : Built = programme_of s (net network_file s old words numbers accepted) in
    to_true (without_minus_zero (programme_in store))
    (minus_zero_pass (programme_in store) (subst (ProgrammeOk Plain) (sym (programme_back store b (held network_file s old words numbers accepted))) (built network_file s old words numbers accepted)))

-- ---- rows that join

same_double : (x y : Float) → Plain x → Plain y → T (eq x y) → x ≡ y
same_double x y u v h = eq_same binary64 x y u.number.fit v.number.fit u.number.finite v.number.finite u.plain v.plain h

same_row_lem : (a b : List Element) → AllPlain a → AllPlain b → T (same_row a b) → a ≡ b
unfolding same_row
same_row_lem [] [] us vs h = refl
same_row_lem [] (y ∷ ys) us vs h = absurd h
same_row_lem (x ∷ xs) [] us vs h = absurd h
same_row_lem (x ∷ xs) (y ∷ ys) us vs h =
    let c : Bool = eqb x.column y.column in
    let q : Bool = eq x.value y.value in
    let front : T (c && q) = and_l (c && q) (same_row xs ys) h in
    ap₂ (λ (e : Element) (es : List Element). e ∷ es)
    (ap₂ element (eqb→eq x.column y.column (and_l c q front)) (same_double x.value y.value us.0 vs.0 (and_r c q front)))
    (same_row_lem xs ys us.1 vs.1 (and_r (c && q) (same_row xs ys) h))

pub equal_bits : EqualBits
equal_bits network_file net parsed a b ma mb e =
    let plain : AllMem AllPlain (asked_rows net) = asked_plain net (read_sound network_file net parsed) (read_small network_file net parsed) in
    same_row_lem a b (plain a ma) (plain b mb) (of_true (same_row a b) e)
