-- Mass rows: which are dropped, and that kept or dropped they are met exactly if the links balance. Assumes nothing.
use mathlib.Core.Path.{◌≡◌, refl, sym, ap, ◌∙◌, subst}
use mathlib.Core.Logic.{◌⊎◌, inl, inr, ◌↔◌}
use Prim.Native.Nat.{ℕ, zero, suc, ◌+◌, ◌*◌, ◌^◌, ◌<◌, zero-le, suc-le-suc}
use native.Mathlib.Nat.{add-zero, add-suc, suc-add, zero-add, eq_of_mul-eq-mul_right, zero-mul, mul-pos}
use native.Mathlib.Omega.{arith}
use mathlib.Core.Bool.{Bool, true, false, cond, not, ◌&&◌}
use mathlib.Core.List.Memᴰ
use mathlib.Core.List.{List, [], ◌∷◌, ◌++◌, Memᴰ, map}
use mathlib.Core.Option
use mathlib.Core.Option.{Option, none, some}
use lib.ListN.{length, get_or, get_elem?}
use lib.IntN.{ℤ, pos, negsuc, neg_ℤ, ◌+ℤ◌, ◌-ℤ◌, +ℤ_invr, nat_abs, -ℤ-+ℤ_cancel}
use lib.Signed.{le_z}
use lib.Dec.{T, eqb, leb, eqb→eq, eqb_refl, leb→le}
use lib.Ieee.{Float, binary64, add, neg, le, lt, eq, of_bits}
use lib.Ieee.Fits.{and_i, and_l, and_r}
use Rattle.pywr.specs.declared.Sentinel.{Sentinel}
use Rattle.pywr.specs.declared.Sentinel.TheVariants.{Infinity, Largest}
use Rattle.pywr.specs.Numbers.{zero64, one64, high, low}
use Rattle.pywr.specs.Network.{link, Node, Edge, Network, kind_of, keep_if, source, target, edges_with, incoming, outgoing}
use Rattle.pywr.specs.ColEdgeMap.{columns, column_at, MappedEdge, with_columns, mapped_edges, column_of}
use Rattle.pywr.specs.Rows.{Element, element, add_element, add_on, ColumnMap, column_map, columns_with, columns_into, columns_out_of, mass_row}
use Rattle.pywr.specs.Programme.{Row}
use Rattle.pywr.specs.FixedRows.{mass_rows_from}
use Rattle.pywr.specs.Plans.{exact, meets, Plan, units_in_one, signed, is_finite, times_one, lower_met, upper_met, all_from}
use Rattle.pywr.specs.Allows.{inflow, outflow}
use Rattle.pywr.specs.Admits.{on_column, row_sum, row_met}
use Rattle.pywr.proofs.ElementLaws.{add_none, add_at, add_cases}
use Rattle.pywr.proofs.ExactLaws.{units_pos}
use Rattle.pywr.proofs.LinkLaws.{NoSelf, Single, ends_sound, one_column_single}
use Rattle.pywr.proofs.TurnLaws.{across_joined}
use Rattle.pywr.proofs.AmountLaws.{Carries, mass_sum}
use Rattle.pywr.proofs.EvenLaws.{amounts, flow_amounts, mapped_edge_of}

-- ---- the columns of a row

pub data HasColumn (c : ℕ) : List Element → Type 0 where
  here : {e : Element} {es : List Element} → e.column ≡ c → HasColumn c (e ∷ es)
  there : {e : Element} {es : List Element} → HasColumn c es → HasColumn c (e ∷ es)

pub added : (c : ℕ) (x : Float) (row : List Element) → HasColumn c (add_element c x row)
added c x [] = rw (add_none c x) (here refl)
added c x (e ∷ es) = add_cases c x e es (HasColumn c) (λ h. here refl) (λ h. here refl) (λ h. there (added c x es))

still : (c d : ℕ) (x : Float) (row : List Element) → HasColumn c row → HasColumn c (add_element d x row)
still c d x (e ∷ es) (here q) = add_cases d x e es (HasColumn c) (λ h. there (here q)) (λ h. here (h ∙ q)) (λ h. here q)
still c d x (e ∷ es) (there h) = add_cases d x e es (HasColumn c) (λ l. there (there h)) (λ l. there h) (λ l. there (still c d x es h))
still c d x [] x'' = elim x'' [ ]

still_on : (c : ℕ) (cs : List ℕ) (x : Float) (row : List Element) → HasColumn c row → HasColumn c (add_on cs x row)
unfolding add_on
still_on c [] x row h = h
still_on c (d ∷ cs) x row h = still_on c cs x (add_element d x row) (still c d x row h)

pub added_on : (c : ℕ) (cs : List ℕ) (x : Float) (row : List Element) → Memᴰ c cs → HasColumn c (add_on cs x row)
unfolding add_on
added_on c [] x row m = absurd (Memᴰ.not-nil m)
added_on c (d ∷ cs) x row m = go (λ k. added_on c cs x (add_element d x row) k) (Memᴰ.cases_cons m)
  where
    go : (Memᴰ c cs → HasColumn c (add_on cs x (add_element d x row))) → (c ≡ d) ⊎ Memᴰ c cs → HasColumn c (add_on cs x (add_element d x row))
    go ih (inl q) = still_on c cs x (add_element d x row) (subst (λ (k : ℕ). HasColumn k (add_element d x row)) (sym q) (added d x row))
    go ih (inr k) = ih k

-- a row of one element has one column
alone : (row : List Element) (a b : ℕ) → length row ≡ 1 → HasColumn a row → HasColumn b row → a ≡ b
alone (e ∷ []) a b l (here p) (here q) = sym p ∙ q
alone (e ∷ d ∷ es) a b l h k = let z : suc (suc (length es)) ≡ 1 = l in absurd (omega arith)
alone [] a b l h k = elim h [ ]
alone (e ∷ []) a b l (here p) (there x16) = elim x16 [ ]
alone (e ∷ []) a b l (there x16) k = elim x16 [ ]

-- ---- pipes

column_member : (end : MappedEdge → ℕ) (n : ℕ) (ps : List MappedEdge) (i : ℕ) (p : MappedEdge) → get_elem? ps i ≡ some p → end p ≡ n → Memᴰ p.column (columns_with end n ps)
unfolding columns_with keep_if
column_member end n [] i p h q = let z : ◌≡◌ {A = ℕ} 0 1 = cc in absurd (omega arith)
column_member end n (x ∷ xs) i p h q = go (eqb (end x) n) refl i h (λ j r. column_member end n xs j p r q)
  where
    go : (b : Bool) → eqb (end x) n ≡ b → (i : ℕ) → get_elem? (x ∷ xs) i ≡ some p
        → ((j : ℕ) → get_elem? xs j ≡ some p → Memᴰ p.column (columns_with end n xs)) → Memᴰ p.column (keep_if b x.column (columns_with end n xs))
    go true e zero r ih = let s : x ≡ p = cc in Memᴰ.head (ap (λ (y : MappedEdge). y.column) (sym s))
    go true e (suc j) r ih = Memᴰ.tail (ih j r)
    go false e zero r ih =
        let s : x ≡ p = cc in
        absurd (subst T e (subst (λ (k : ℕ). T (eqb (end x) k)) (ap end s ∙ q) (eqb_refl (end x))))
    go false e (suc j) r ih = ih j r

pub record PipeFor (es : List Edge) (cs : List (Option ℕ)) (e : ℕ) (x : Edge) : Type 0 where
  pub pipe : MappedEdge
  pub found : get_elem? (with_columns es cs) e ≡ some pipe
  pub from_is : pipe.from ≡ x.from
  pub to_is : pipe.to ≡ x.to

pub pipe_for : (es : List Edge) (cs : List (Option ℕ)) (e : ℕ) (x : Edge) → length es ≡ length cs → get_elem? es e ≡ some x → PipeFor es cs e x
unfolding with_columns
pipe_for [] cs e x l h = let z : ◌≡◌ {A = ℕ} 0 1 = cc in absurd (omega arith)
pipe_for (y ∷ ys) [] e x l h = let z : suc (length ys) ≡ 0 = l in absurd (omega arith)
pipe_for (y ∷ ys) (c ∷ cs) zero x l h =
    let s : y ≡ x = cc in
    record { pipe = record { from = y.from; to = y.to; column = Option.get_or c 0 }; found = refl; from_is = ap source s; to_is = ap target s }
pipe_for (y ∷ ys) (c ∷ cs) (suc e) x l h =
    let r = pipe_for ys cs e x (let z : suc (length ys) ≡ suc (length cs) = l in omega arith) h in
    record { pipe = r.pipe; found = r.found; from_is = r.from_is; to_is = r.to_is }

-- ---- a link's row is dropped exactly if the link has one edge in and one out

map_keep : (f : ℕ → ℕ) (b : Bool) (x : ℕ) (xs : List ℕ) → map f (keep_if b x xs) ≡ keep_if b (f x) (map f xs)
unfolding keep_if
map_keep f true x xs = refl
map_keep f false x xs = refl

-- the columns of the edges with one end at a node are those of its list of edges
module _ (end : MappedEdge → ℕ) (side : Edge → ℕ) (same : (x : Edge) (k : ℕ) → end (record { from = x.from; to = x.to; column = k }) ≡ side x) (n : ℕ) (f : ℕ → ℕ) where
  pub columns_with_lem : (es : List Edge) (cs : List (Option ℕ)) (i : ℕ) → length es ≡ length cs → ((j : ℕ) → f (i + j) ≡ Option.get_or (get_or cs j none) 0)
      → columns_with end n (with_columns es cs) ≡ map f (edges_with side n i es)
  unfolding columns_with with_columns edges_with
  columns_with_lem [] cs i l h = refl
  columns_with_lem (x ∷ es) [] i l h = absurd (omega (arith, l))
  columns_with_lem (x ∷ es) (c ∷ cs) i l h =
      let here : f i ≡ Option.get_or c 0 = ap f (sym (add-zero i)) ∙ h 0 in
      let rest : columns_with end n (with_columns es cs) ≡ map f (edges_with side n (suc i) es) =
      columns_with_lem es cs (suc i) (omega (arith, l)) (λ j. ap f (suc-add i j ∙ sym (add-suc i j)) ∙ h (suc j)) in
      rw (same x (Option.get_or c 0), rest, ← here) (sym (map_keep f (eqb (side x) n) i (edges_with side n (suc i) es)))

one_element : (k : ℕ) (into out : List ℕ) → into ≡ k ∷ [] → out ≡ k ∷ [] → length (add_on out (neg one64) (add_on into one64 [])) ≡ 1
unfolding add_on
one_element k into out p q = rw (p, q, add_none k one64, add_at k (neg one64) (element k (add binary64 zero64 one64)) [] refl)

module _ (net : Network) (noself : NoSelf net) (long : length net.edges ≡ length (columns net).of) (n : ℕ) where
  abbrev f : ColumnMap
  f = column_map net

  record InMass (e : ℕ) : Type 0 where
    pipe : MappedEdge
    found : get_elem? (mapped_edges net) e ≡ some pipe
    has : HasColumn pipe.column (mass_row f n)

  in_mass : (e : ℕ) → Memᴰ e (incoming net n) → InMass e
  unfolding incoming mass_row column_map mapped_edges columns_into
  in_mass e m =
      let r = ends_sound target n 0 e net.edges m in
      let x : get_elem? net.edges e ≡ some r.edge = ap (get_elem? net.edges) (r.where_at ∙ zero-add r.at) ∙ r.found in
      let p = pipe_for net.edges (columns net).of e r.edge long x in
      let c = column_member (λ q. q.to) n (mapped_edges net) e p.pipe p.found (p.to_is ∙ r.ends) in
      record {
        pipe = p.pipe;
        found = p.found;
        has = still_on p.pipe.column (columns_out_of n (mapped_edges net)) (neg one64) _ (added_on p.pipe.column (columns_into n (mapped_edges net)) one64 [] c);
      }

  out_mass : (e : ℕ) → Memᴰ e (outgoing net n) → InMass e
  unfolding outgoing mass_row column_map mapped_edges columns_out_of
  out_mass e m =
      let r = ends_sound source n 0 e net.edges m in
      let x : get_elem? net.edges e ≡ some r.edge = ap (get_elem? net.edges) (r.where_at ∙ zero-add r.at) ∙ r.found in
      let p = pipe_for net.edges (columns net).of e r.edge long x in
      let c = column_member (λ q. q.from) n (mapped_edges net) e p.pipe p.found (p.from_is ∙ r.ends) in
      record { pipe = p.pipe; found = p.found; has = added_on p.pipe.column (columns_out_of n (mapped_edges net)) (neg one64) _ c }

  -- a link has an edge in and an edge out (refusal 8)
  pub dropped_single : (a b : ℕ) (mi mo : List ℕ) → incoming net n ≡ a ∷ mi → outgoing net n ≡ b ∷ mo → length (mass_row f n) ≡ 1 → (p : ℕ) × Single (incoming net n) (outgoing net n) p
  dropped_single a b mi mo hi ho one =
      let ia = in_mass a (subst (λ (l : List ℕ). Memᴰ a l) (sym hi) (Memᴰ.head refl)) in
      let k : ℕ = ia.pipe.column in
      let ins : (e : ℕ) → Memᴰ e (incoming net n) → column_at (columns net) e ≡ some k =
      (λ e m. let i = in_mass e m in (mapped_edge_of net noself e i.pipe i.found).column ∙ ap {B = Option ℕ} some (alone (mass_row f n) i.pipe.column k one i.has ia.has)) in
      let outs : (e : ℕ) → Memᴰ e (outgoing net n) → column_at (columns net) e ≡ some k =
      (λ e m. let i = out_mass e m in (mapped_edge_of net noself e i.pipe i.found).column ∙ ap {B = Option ℕ} some (alone (mass_row f n) i.pipe.column k one i.has ia.has)) in
      one_column_single net noself n k ins outs a b mi mo hi ho

  -- and the other way: the two edges lie in one column, whatever the order of the file
  pub single_dropped : T (eqb (kind_of net.nodes n) link) → (p : ℕ) → Single (incoming net n) (outgoing net n) p → length (mass_row f n) ≡ 1
  unfolding mass_row column_map columns_into columns_out_of incoming outgoing mapped_edges column_of column_at
  single_dropped is_link p s =
      let t = across_joined net noself n p s is_link in
      let same : column_of net s.exit ≡ column_of net p = ap (λ (o : Option ℕ). Option.get_or o 0) (t.first ∙ sym t.second) in
      one_element (column_of net p) _ _
      (columns_with_lem (λ q. q.to) target (λ x k. refl) n (column_of net) net.edges (columns net).of 0 long (λ j. ap (column_of net) (zero-add j))
      ∙ ap (map (column_of net)) s.into_is)
      (columns_with_lem (λ q. q.from) source (λ x k. refl) n (column_of net) net.edges (columns net).of 0 long (λ j. ap (column_of net) (zero-add j))
      ∙ ap (map (column_of net)) s.out_is ∙ ap (λ (k : ℕ). k ∷ []) same)

-- ---- a dropped row's link balances

module _ (net : Network) (noself : NoSelf net) (plan : Plan) (long : length net.edges ≡ length (columns net).of) (carries : Carries net plan) (n : ℕ) where
  -- one edge in and one out, on the row's only column
  single_balanced : (p q : ℕ) → incoming net n ≡ p ∷ [] → outgoing net n ≡ q ∷ [] → length (mass_row (column_map net) n) ≡ 1 → inflow net plan n ≡ outflow net plan n
  unfolding inflow outflow amounts incoming outgoing
  single_balanced p q hp hq one =
      let ip = in_mass net noself long n p (subst (λ (l : List ℕ). Memᴰ p l) (sym hp) (Memᴰ.head refl)) in
      let iq = out_mass net noself long n q (subst (λ (l : List ℕ). Memᴰ q l) (sym hq) (Memᴰ.head refl)) in
      let same : plan.amount p ≡ plan.amount q =
      sym (carries p ip.pipe ip.found)
      ∙ ap (on_column (column_map net) plan) (alone (mass_row (column_map net) n) ip.pipe.column iq.pipe.column one ip.has iq.has)
      ∙ carries q iq.pipe iq.found in
      flow_amounts target plan n 0 net.edges
      ∙ ap (amounts plan) hp
      ∙ ap (λ (m : ℕ). m + 0) same
      ∙ sym (flow_amounts source plan n 0 net.edges ∙ ap (amounts plan) hq)

  pub dropped_balanced : (a b : ℕ) (mi mo : List ℕ) → incoming net n ≡ a ∷ mi → outgoing net n ≡ b ∷ mo → length (mass_row (column_map net) n) ≡ 1 → inflow net plan n ≡ outflow net plan n
  dropped_balanced a b mi mo hi ho one =
      let s = dropped_single net noself long n a b mi mo hi ho one in
      single_balanced s.0 s.1.exit s.1.into_is s.1.out_is one

-- ---- bounds 0 and 0

zero_both : (v : ℤ) → T (le_z (pos 0) v && le_z v (pos 0)) → v ≡ pos 0
zero_both (pos n) h = let k = leb→le n 0 (and_r (leb 0 n) (leb n 0) h) in ap pos (omega arith)
zero_both (negsuc n) h = absurd h

pub zero_met : (w : Sentinel) (v : ℤ) → T (meets w (record { lower = zero64; upper = zero64 }) v) ↔ (v ≡ pos 0)
unfolding meets lower_met upper_met le lt eq low high neg of_bits is_finite zero64 exact signed times_one units_in_one
zero_met Infinity v = (zero_both v, λ e. rw e tt)
zero_met Largest v = (zero_both v, λ e. rw e tt)

abs_neg_pos : (m : ℕ) → nat_abs (neg_ℤ (pos m)) ≡ m
abs_neg_pos zero = refl
abs_neg_pos (suc m) = refl

times_one_zero : (z : ℤ) → times_one z ≡ pos 0 → z ≡ pos 0
unfolding times_one
times_one_zero (pos n) h = ap pos (eq_of_mul-eq-mul_right units_in_one units_pos n 0 (ap nat_abs h ∙ sym (zero-mul units_in_one)))
times_one_zero (negsuc n) h =
    let z : suc n * units_in_one ≡ 0 = sym (abs_neg_pos (suc n * units_in_one)) ∙ ap nat_abs h in
    let p : 0 < suc n * units_in_one = mul-pos (suc-le-suc zero-le) units_pos in
    absurd (omega arith)

pub times_one_of_zero : times_one (pos 0) ≡ pos 0
unfolding times_one
times_one_of_zero = ap pos (zero-mul units_in_one)

diff_zero : (a b : ℕ) → pos a -ℤ pos b ≡ pos 0 → a ≡ b
diff_zero a b h =
    let e : pos a ≡ pos (0 + b) = sym (-ℤ-+ℤ_cancel (pos a) (pos b)) ∙ ap (λ (z : ℤ). z +ℤ pos b) h in
    ap nat_abs e ∙ zero-add b

-- ---- every row of a list

module _ {A : Type 0} (P : A → Type 0) where
  abbrev pub Every : List A → Type 0
  Every [] = Unit {0}
  Every (x ∷ xs) = P x × Every xs

  pub every_append : (xs ys : List A) → Every (xs ++ ys) ↔ (Every xs × Every ys)
  every_append [] ys = (λ h. (tt, h), λ h. h.1)
  every_append (x ∷ xs) ys =
      let ih = every_append xs ys in
      (λ h. let r = ih.0 h.1 in ((h.0, r.0), r.1), λ h. (h.0.0, ih.1 (h.0.1, h.1)))

module _ (w : Sentinel) (g : ColumnMap) (plan : Plan) where
  abbrev pub Met : Row → Type 0
  Met r = T (meets w (record { lower = r.lower; upper = r.upper }) (row_sum g plan r.elements))

  pub every_met : (rows : List Row) (n : ℕ) → T (all_from (row_met w g plan) n rows) ↔ Every Met rows
  unfolding all_from row_met
  every_met [] n = (λ h. tt, λ h. tt)
  every_met (r ∷ rs) n =
      let a : Bool = meets w (record { lower = r.lower; upper = r.upper }) (row_sum g plan r.elements) in
      let ih = every_met rs (suc n) in (
        λ h. (and_l a (all_from (row_met w g plan) (suc n) rs) h, ih.0 (and_r a (all_from (row_met w g plan) (suc n) rs) h)),
        λ h. and_i a (all_from (row_met w g plan) (suc n) rs) h.0 (ih.1 h.1),
      )

-- ---- the mass rows of all nodes

-- a link has an edge in and an edge out
pub record Joined (net : Network) (n : ℕ) : Type 0 where
  pub a : ℕ
  pub b : ℕ
  pub mi : List ℕ
  pub mo : List ℕ
  pub ins : incoming net n ≡ a ∷ mi
  pub outs : outgoing net n ≡ b ∷ mo

module _ (w : Sentinel) (net : Network) (noself : NoSelf net) (plan : Plan) (long : length net.edges ≡ length (columns net).of) (carries : Carries net plan)
    (room : length net.edges * 1 + length net.edges * 1 < 2 ^ 53) where
  abbrev g : ColumnMap
  g = column_map net

  kept_met : (n : ℕ) → Met w g plan (record { lower = zero64; upper = zero64; elements = mass_row g n }) ↔ (inflow net plan n ≡ outflow net plan n)
  kept_met n =
      let s : row_sum g plan (mass_row g n) ≡ times_one (pos (inflow net plan n) -ℤ pos (outflow net plan n)) = mass_sum net plan long carries n room in
      let z = zero_met w (row_sum g plan (mass_row g n)) in (
        λ h. diff_zero (inflow net plan n) (outflow net plan n) (times_one_zero _ (sym s ∙ z.0 h)),
        λ e. z.1 (s ∙ ap times_one (ap (λ (k : ℕ). pos k -ℤ pos (outflow net plan n)) e ∙ +ℤ_invr (pos (outflow net plan n))) ∙ times_one_of_zero),
      )

  abbrev mass_of : ℕ → Row
  mass_of n = record { lower = zero64; upper = zero64; elements = mass_row g n }

  mass_one : (n : ℕ) (t : Bool) → (T t → Joined net n) → Every (Met w g plan) (cond (t && not (eqb (length (mass_row g n)) 1)) (mass_of n ∷ []) []) ↔ (T t → inflow net plan n ≡ outflow net plan n)
  mass_one n false j = (λ h x. absurd x, λ h. tt)
  mass_one n true j = go (eqb (length (mass_row g n)) 1) refl
    where
      go : (u : Bool) → eqb (length (mass_row g n)) 1 ≡ u → Every (Met w g plan) (cond (not u) (mass_of n ∷ []) []) ↔ (T true → inflow net plan n ≡ outflow net plan n)
      go true e =
          let k = j tt in
          (λ h x. dropped_balanced net noself plan long carries n k.a k.b k.mi k.mo k.ins k.outs (eqb→eq (length (mass_row g n)) 1 (subst T (sym e) tt)), λ h. tt)
      go false e = (λ h x. (kept_met n).0 h.0, λ h. ((kept_met n).1 (h tt), tt))

  pub mass_met : (xs : List Node) (n : ℕ) → ((i : ℕ) (x : Node) → get_elem? xs i ≡ some x → T (eqb x.kind link) → Joined net (n + i))
      → Every (Met w g plan) (mass_rows_from g n xs) ↔ ((i : ℕ) (x : Node) → get_elem? xs i ≡ some x → T (eqb x.kind link) → inflow net plan (n + i) ≡ outflow net plan (n + i))
  unfolding mass_rows_from
  mass_met [] n js = (λ h i x e. let z : ◌≡◌ {A = ℕ} 0 1 = cc in absurd (omega arith), λ h. tt)
  mass_met (y ∷ ys) n js =
      both
      (mass_one n (eqb y.kind link) (λ t. subst (Joined net) (add-zero n) (js 0 y refl t)))
      (mass_met ys (suc n) (λ i x e t. subst (Joined net) (add-suc n i ∙ sym (suc-add n i)) (js (suc i) x e t)))
      (every_append (Met w g plan) (cond (eqb y.kind link && not (eqb (length (mass_row g n)) 1)) (mass_of n ∷ []) []) (mass_rows_from g (suc n) ys))
    where
      Bal : ℕ → Type 0
      Bal k = inflow net plan k ≡ outflow net plan k

      both : {P Q R : Type 0} → P ↔ (T (eqb y.kind link) → Bal n) → Q ↔ ((i : ℕ) (x : Node) → get_elem? ys i ≡ some x → T (eqb x.kind link) → Bal (suc n + i)) → R ↔ (P × Q)
          → R ↔ ((i : ℕ) (x : Node) → get_elem? (y ∷ ys) i ≡ some x → T (eqb x.kind link) → Bal (n + i))
      both one ih cut = (
        λ h. let r = cut.0 h in at (one.0 r.0) (ih.0 r.1),
        λ k.
            cut.1
            (one.1 (λ t. subst Bal (add-zero n) (k 0 y refl t)), ih.1 (λ i x e t. subst Bal (add-suc n i ∙ sym (suc-add n i)) (k (suc i) x e t))),
      )
        where
          at : (T (eqb y.kind link) → Bal n) → ((i : ℕ) (x : Node) → get_elem? ys i ≡ some x → T (eqb x.kind link) → Bal (suc n + i))
              → (i : ℕ) (x : Node) → get_elem? (y ∷ ys) i ≡ some x → T (eqb x.kind link) → Bal (n + i)
          at a b zero x e t = let s : y ≡ x = cc in subst Bal (sym (add-zero n)) (a (subst (λ (z : Node). T (eqb z.kind link)) (sym s) t))
          at a b (suc i) x e t = subst Bal (suc-add n i ∙ sym (add-suc n i)) (b i x e t)
