-- Where every link balances, edges of a column carry equal amounts; and where they do, each edge's column carries the edge's amount. Assumes nothing.
use mathlib.Core.Path.{◌≡◌, refl, sym, ap, ◌∙◌, subst}
use Prim.Native.Nat.{ℕ, zero, suc, ◌+◌, ◌<◌, zero-le, suc-le-suc}
use native.Mathlib.Nat.{add-zero, add-suc, suc-add, zero-add}
use native.Mathlib.Omega.{arith}
use mathlib.Core.Bool.{Bool, true, false, cond}
use mathlib.Core.List.{List, [], ◌∷◌}
use mathlib.Core.Option
use mathlib.Core.Option.{Option, none, some}
use lib.ListN.{length, get_or, get_elem?}
use lib.Dec.{T, eqb, ltb, eqb→eq, eqb_refl, lt→ltb}
use Rattle.laws.proofs.Tests.{cond_yes}
use Rattle.pywr.specs.Network.{link, Edge, Network, kind_of, keep_if, source, target, edges_with, incoming, outgoing}
use Rattle.pywr.specs.ColEdgeMap.{columns, column_at, MappedEdge, with_columns, mapped_edges}
use Rattle.pywr.specs.Rows.{column_map}
use Rattle.pywr.specs.Plans.{Plan}
use Rattle.pywr.specs.Allows.{flow_with, inflow, outflow}
use Rattle.pywr.specs.Admits.{carried, on_column}
use Rattle.pywr.proofs.ColumnLaws.{Even}
use Rattle.pywr.proofs.LinkLaws.{exit_is, prev_of, NoSelf, Shares, shares, columns_even}
use Rattle.pywr.proofs.TurnLaws.{columns_placed}
use Rattle.pywr.proofs.AmountLaws.{Carries}

some_inj : (x y : MappedEdge) → some x ≡ some y → x ≡ y
some_inj x y h = cc

-- ---- a flow is the sum over the edges' numbers

unfoldable pub amounts : Plan → List ℕ → ℕ
amounts plan [] = 0
amounts plan (e ∷ es) = plan.amount e + amounts plan es

amounts_keep : (b : Bool) (plan : Plan) (e : ℕ) (es : List ℕ) → amounts plan (keep_if b e es) ≡ cond b (plan.amount e) 0 + amounts plan es
unfolding keep_if amounts
amounts_keep true plan e es = refl
amounts_keep false plan e es = sym (zero-add (amounts plan es))

pub flow_amounts : (end : Edge → ℕ) (plan : Plan) (n e : ℕ) (es : List Edge) → flow_with end plan n e es ≡ amounts plan (edges_with end n e es)
unfolding flow_with edges_with amounts
flow_amounts end plan n e [] = refl
flow_amounts end plan n e (x ∷ xs) =
    ap (λ (k : ℕ). cond (eqb (end x) n) (plan.amount e) 0 + k) (flow_amounts end plan n (suc e) xs) ∙ sym (amounts_keep (eqb (end x) n) plan e (edges_with end n (suc e) xs))

-- ---- across a single link the two edges carry the same

abbrev pub Balanced : Network → Plan → Type 0
Balanced net plan = (n : ℕ) → T (eqb (kind_of net.nodes n) link) → inflow net plan n ≡ outflow net plan n

pub passes : (net : Network) (plan : Plan) → Balanced net plan → (e p : ℕ) → prev_of net e ≡ some p → plan.amount e ≡ plan.amount p
unfolding inflow outflow amounts incoming outgoing
passes net plan bal e p h =
    let s : Shares net e p = shares net e p h in
    let n : ℕ = s.edge.from in
    let i : inflow net plan n ≡ plan.amount p + 0 = flow_amounts target plan n 0 net.edges ∙ ap (amounts plan) s.alone.into_is in
    let o : outflow net plan n ≡ plan.amount s.alone.exit + 0 = flow_amounts source plan n 0 net.edges ∙ ap (amounts plan) s.alone.out_is in
    let same : plan.amount e ≡ plan.amount s.alone.exit = ap plan.amount (exit_is net e p s) in
    let b : inflow net plan n ≡ outflow net plan n = bal n s.is_link in
    omega arith

-- ---- an edge's pipe

pub record PipeOf (net : Network) (e : ℕ) (p : MappedEdge) : Type 0 where
  pub column : column_at (columns net) e ≡ some p.column
  pub below : p.column < (columns net).count

pipe_at : (es : List Edge) (cs : List (Option ℕ)) (e : ℕ) (p : MappedEdge) → get_elem? (with_columns es cs) e ≡ some p → (e < length es) × (p.column ≡ Option.get_or (get_or cs e none) 0)
unfolding with_columns
pipe_at [] cs e p h = let z : ◌≡◌ {A = ℕ} 0 1 = cc in absurd (omega arith)
pipe_at (x ∷ xs) [] e p h = let z : ◌≡◌ {A = ℕ} 0 1 = cc in absurd (omega arith)
pipe_at (x ∷ xs) (c ∷ cs) zero p h = (suc-le-suc zero-le, let q : record { from = x.from; to = x.to; column = Option.get_or c 0 } ≡ p = some_inj _ p h in ap (λ (r : MappedEdge). r.column) (sym q))
pipe_at (x ∷ xs) (c ∷ cs) (suc e) p h = let r = pipe_at xs cs e p h in (suc-le-suc r.0, r.1)

pub mapped_edge_of : (net : Network) → NoSelf net → (e : ℕ) (p : MappedEdge) → get_elem? (mapped_edges net) e ≡ some p → PipeOf net e p
unfolding mapped_edges column_at
mapped_edge_of net noself e p h =
    let r = pipe_at net.edges (columns net).of e p h in
    let w = columns_placed net noself e r.0 in
    let k : ℕ = w.0 in
    let same : p.column ≡ k = r.1 ∙ ap (λ (o : Option ℕ). Option.get_or o 0) w.1 in
    let ev = columns_even net noself (λ x. 0) (λ x y z. refl) in
    record { column = w.1 ∙ ap {B = Option ℕ} some (sym same); below = let b = ev.below e k w.1 in omega arith }

-- ---- what a column carries

-- the first edge of the column carries a, if every edge of it does
carried_is : (plan : Plan) (c a : ℕ) (ps : List MappedEdge) (k : ℕ) → ((i : ℕ) (p : MappedEdge) → get_elem? ps i ≡ some p → p.column ≡ c → plan.amount (k + i) ≡ a)
    → (i : ℕ) (p : MappedEdge) → get_elem? ps i ≡ some p → p.column ≡ c → carried plan c k ps ≡ a
unfolding carried
carried_is plan c a [] k all i p h q = let z : ◌≡◌ {A = ℕ} 0 1 = cc in absurd (omega arith)
carried_is plan c a (x ∷ xs) k all i p h q = go (eqb x.column c) refl (λ all' j r s. carried_is plan c a xs (suc k) all' j p r s) i h
  where
    go : (b : Bool) → eqb x.column c ≡ b
        → (((i : ℕ) (y : MappedEdge) → get_elem? xs i ≡ some y → y.column ≡ c → plan.amount (suc k + i) ≡ a) → (j : ℕ) → get_elem? xs j ≡ some p → p.column ≡ c → carried plan c (suc k) xs ≡ a)
        → (i : ℕ) → get_elem? (x ∷ xs) i ≡ some p → cond b (plan.amount k) (carried plan c (suc k) xs) ≡ a
    go true e ih i h' = ap plan.amount (sym (add-zero k)) ∙ all 0 x refl (eqb→eq x.column c (subst T (sym e) tt))
    go false e ih zero h' =
        let same : x ≡ p = some_inj x p h' in
        let t : T (eqb x.column c) = subst (λ (n : ℕ). T (eqb x.column n)) (ap (λ (r : MappedEdge). r.column) same ∙ q) (eqb_refl x.column) in
        absurd (subst T e t)
    go false e ih (suc j) h' = ih (λ i y r s. ap plan.amount (suc-add k i ∙ sym (add-suc k i)) ∙ all (suc i) y r s) j h' q

-- balanced links: every edge carries what its column's first edge does
pub balanced_even : (net : Network) (plan : Plan) → NoSelf net → Balanced net plan → (e : ℕ) (p : MappedEdge) → get_elem? (mapped_edges net) e ≡ some p
    → plan.amount e ≡ carried plan p.column 0 (mapped_edges net)
balanced_even net plan noself bal e p h =
    let ev : Even plan.amount (columns net) = columns_even net noself plan.amount (passes net plan bal) in
    let pe = mapped_edge_of net noself e p h in
    sym (carried_is plan p.column (plan.amount e) (mapped_edges net) 0
    (λ i y r s. let py = mapped_edge_of net noself i y r in ap plan.amount (zero-add i) ∙ ev.same i e p.column (py.column ∙ ap {B = Option ℕ} some s) pe.column)
    e p h refl)

-- and then its column carries its amount
pub carries : (net : Network) (plan : Plan) → NoSelf net
    → ((e : ℕ) (p : MappedEdge) → get_elem? (mapped_edges net) e ≡ some p → plan.amount e ≡ carried plan p.column 0 (mapped_edges net)) → Carries net plan
unfolding on_column column_map
carries net plan noself even e p h =
    let pe = mapped_edge_of net noself e p h in
    cond_yes (ltb p.column (columns net).count) _ _ (lt→ltb p.column (columns net).count pe.below) ∙ sym (even e p h)
