-- Lists of steps: a refused step keeps the store, and an accepted one leaves what it makes of the build's store, whatever came before it. So after any
-- list the store is the build's, or what the last accepted file makes of that. Assumes nothing.
use mathlib.Core.Path.{◌≡◌, refl, sym, ap, ap₂, ◌∙◌, subst}
use Prim.Native.Nat.{ℕ, suc, ◌+◌}
use native.Mathlib.Omega.{arith}
use mathlib.Core.Bool.{Bool, true, false, cond}
use mathlib.Core.List.{List, [], ◌∷◌, map}
use mathlib.Core.Option.{Option, none as no-file, some}
use lib.ListN.{length, length-set, length-replicate, length-map}
use lib.Ieee.{Float}
use Rattle.pywr.specs.declared.Sentinel.{Sentinel}
use Rattle.pywr.specs.Result.{value, Result, refused, ◌>>=◌, need}
use Rattle.pywr.specs.ColEdgeMap.{MappedEdge}
use Rattle.pywr.specs.Programme.{Column, Row, Programme, NodeShape, Shape, Built}
use Rattle.pywr.specs.StepFile.{NodeStep, StepFile, read_step}
use Rattle.pywr.specs.StepIntervals.{intervals, Intervals, has_binary_row, ordered}
use Rattle.pywr.specs.Costs.{step_costs, add_costs, edges_numbered}
use Rattle.pywr.specs.Step.{periods, with_costs, stepped}
use Rattle.pywr.specs.Store.{Store, shape_of, programme_in}
use Rattle.pywr.specs.Written.{stepped_store}
use Rattle.pywr.specs.Calls.{step_read, step_intervals, step_ordered, step_answer, store_of_step, step_store, is_accepted}
use Rattle.pywr.specs.Correspondence.{Call, store_after, reports, last_accepted}
use Rattle.pywr.proofs.RowsBack.{Typed}
use Rattle.pywr.proofs.Represents.{Represents, programme_back, SameColumns, next, step_represents, store_again}
use Rattle.pywr.proofs.AgainLaws.{step_again, step_columns}

-- ---- columns: a step changes costs alone

pub costs_length : (shapes : List NodeShape) (steps : List NodeStep) (ps : List MappedEdge) (costs : List Float) → length (add_costs shapes steps ps costs) ≡ length costs
unfolding add_costs
costs_length shapes steps [] costs = refl
costs_length shapes steps (p ∷ ps) costs = costs_length shapes steps ps _ ∙ length-set costs p.column _

pub step_costs_length : (shape : Shape) (n : ℕ) (steps : List NodeStep) → length (step_costs shape n steps) ≡ n
unfolding step_costs
step_costs_length shape n steps = costs_length shape.nodes steps (edges_numbered shape.flow_order shape.mapped_edges) _ ∙ length-replicate n _

module _ {A : Type 0} (get : Column → A) (keeps : (c : Column) (x : Float) → get (record { integer = c.integer; lower = c.lower; upper = c.upper; cost = x }) ≡ get c) where
  with_costs_keep : (cs : List Column) (xs : List Float) → length xs ≡ length cs → map get (with_costs cs xs) ≡ map get cs
  unfolding with_costs
  with_costs_keep [] xs e = refl
  with_costs_keep (c ∷ cs) [] e = let z : 0 ≡ suc (length cs) = e in absurd (omega arith)
  with_costs_keep (c ∷ cs) (x ∷ xs) e = ap₂ (λ a b. a ∷ b) (keeps c x) (with_costs_keep cs xs (let z : suc (length xs) ≡ suc (length cs) = e in omega arith))

with_costs_length : (cs : List Column) (xs : List Float) → length xs ≡ length cs → length (with_costs cs xs) ≡ length cs
with_costs_length cs xs e = sym (length-map (with_costs cs xs) (λ (c : Column). c.lower)) ∙ ap length (with_costs_keep (λ c. c.lower) (λ c x. refl) cs xs e) ∙ length-map cs (λ (c : Column). c.lower)

with_costs_typed : (edges n : ℕ) (cs : List Column) (xs : List Float) → length xs ≡ length cs → Typed edges n cs → Typed edges n (with_costs cs xs)
unfolding with_costs
with_costs_typed edges n [] xs e t = Typed.none
with_costs_typed edges n (c ∷ cs) [] e t = let z : 0 ≡ suc (length cs) = e in absurd (omega arith)
with_costs_typed edges n (c ∷ cs) (x ∷ xs) e (Typed.more t ts) = Typed.more t (with_costs_typed edges (n + 1) cs xs (let z : suc (length xs) ≡ suc (length cs) = e in omega arith) ts)

with_costs_again : (cs : List Column) (xs ys : List Float) → length xs ≡ length cs → with_costs (with_costs cs xs) ys ≡ with_costs cs ys
unfolding with_costs
with_costs_again [] xs ys e = refl
with_costs_again (c ∷ cs) [] ys e = let z : 0 ≡ suc (length cs) = e in absurd (omega arith)
with_costs_again (c ∷ cs) (x ∷ xs) [] e = refl
with_costs_again (c ∷ cs) (x ∷ xs) (y ∷ ys) e =
    ap (λ (l : List Column). record { integer = c.integer; lower = c.lower; upper = c.upper; cost = y }
    ∷ l) (with_costs_again cs xs ys (let z : suc (length xs) ≡ suc (length cs) = e in omega arith))

-- the costs are those that were given
pub with_costs_are : (cs : List Column) (xs : List Float) → length xs ≡ length cs → map (λ (c : Column). c.cost) (with_costs cs xs) ≡ xs
unfolding with_costs
with_costs_are [] [] e = refl
with_costs_are [] (x ∷ xs) e = let z : suc (length xs) ≡ 0 = e in absurd (omega arith)
with_costs_are (c ∷ cs) [] e = let z : 0 ≡ suc (length cs) = e in absurd (omega arith)
with_costs_are (c ∷ cs) (x ∷ xs) e = ap (λ (l : List Float). x ∷ l) (with_costs_are cs xs (let z : suc (length xs) ≡ suc (length cs) = e in omega arith))

-- ---- one step

module _ (shape : Shape) (f : StepFile) (p : Programme) where
  costs_long : length (step_costs shape (length p.columns) f.nodes) ≡ length p.columns
  costs_long = step_costs_length shape (length p.columns) f.nodes

  pub stepped_length : length (stepped shape f p).columns ≡ length p.columns
  unfolding stepped
  stepped_length = with_costs_length p.columns _ costs_long

  pub stepped_costs : map (λ (c : Column). c.cost) (stepped shape f p).columns ≡ step_costs shape (length p.columns) f.nodes
  unfolding stepped
  stepped_costs = with_costs_are p.columns _ costs_long

  pub stepped_lowers : map (λ (c : Column). c.lower) (stepped shape f p).columns ≡ map (λ (c : Column). c.lower) p.columns
  unfolding stepped
  stepped_lowers = with_costs_keep (λ c. c.lower) (λ c x. refl) p.columns _ costs_long

  pub stepped_uppers : map (λ (c : Column). c.upper) (stepped shape f p).columns ≡ map (λ (c : Column). c.upper) p.columns
  unfolding stepped
  stepped_uppers = with_costs_keep (λ c. c.upper) (λ c x. refl) p.columns _ costs_long

  stepped_columns : SameColumns (stepped shape f p).varying p.varying
  unfolding stepped
  stepped_columns = step_columns p.sentinel shape (intervals p.sentinel (periods shape) f) p.varying

  -- the programme that another step makes of it
  stepped_again : (g : StepFile) → stepped shape g (stepped shape f p) ≡ stepped shape g p
  unfolding stepped
  stepped_again g =
      ap₂ (λ (cs : List Column) (rows : List Row). record { sentinel = p.sentinel; columns = cs; varying = rows; fixed = p.fixed })
      (ap (λ (n : ℕ). with_costs (stepped shape f p).columns (step_costs shape n g.nodes)) stepped_length ∙ with_costs_again p.columns _ _ costs_long)
      (step_again p.sentinel shape (intervals p.sentinel (periods shape) g) (intervals p.sentinel (periods shape) f) p.varying)

module _ (s : Store) (b : Built) (held : Represents s b) where
  -- what the store holds after an accepted step
  abbrev pub after : StepFile → Built
  after f = record { programme = stepped b.shape f b.programme; shape = b.shape; makers = b.makers }

  written : (f : StepFile) → store_of_step s (value f) ≡ stepped_store s (after f).programme
  unfolding store_of_step
  written f = ap (stepped_store s) (ap₂ (λ (sh : Shape) (p : Programme). stepped sh f p) held.shape (programme_back s b held))

  stepped_held : (f : StepFile) → Represents (stepped_store s (after f).programme) (after f)
  unfolding stepped next
  stepped_held f =
      step_represents s b held (after f).programme.varying (after f).programme.columns (stepped_columns b.shape f b.programme) (stepped_length b.shape f b.programme)
      (stepped_lowers b.shape f b.programme) (stepped_uppers b.shape f b.programme)
      (with_costs_typed b.shape.edge_columns 0 b.programme.columns _ (costs_long b.shape f b.programme) held.typed)

  pub after_held : (f : StepFile) → Represents (store_of_step s (value f)) (after f)
  after_held f = subst (λ (t : Store). Represents t (after f)) (sym (written f)) (stepped_held f)

-- a step after another leaves the store that it leaves alone
twice : (s : Store) (b : Built) → Represents s b → (f g : StepFile) → store_of_step (store_of_step s (value f)) (value g) ≡ store_of_step s (value g)
twice s b held f g =
    let p : Programme = stepped b.shape f b.programme in
    let q : Programme = stepped b.shape g b.programme in
    ap (λ (t : Store). store_of_step t (value g)) (written s b held f)
    ∙ written (stepped_store s p) (after s b held f) (stepped_held s b held f) g
    ∙ ap (stepped_store (stepped_store s p)) (stepped_again b.shape f b.programme g)
    ∙ store_again s b held p q (stepped_columns b.shape f b.programme) (stepped_columns b.shape g b.programme)
    (stepped_length b.shape f b.programme) (stepped_length b.shape g b.programme)
    ∙ sym (written s b held g)

-- ---- reading a step's answer

-- what was bound, handed on under names: a `let` of it would be written out in all that follows
pub bind_then : {A B X : Type 0} (r : Result A) (k : A → Result B) (y : B) → (r >>= k) ≡ value y → ((x : A) → r ≡ value x → k x ≡ value y → X) → X
unfolding ◌>>=◌
bind_then (value x) k y e f = f x refl e
bind_then (refused n p) k y e f = let z : ◌≡◌ {A = ℕ} 0 1 = cc in absurd (omega arith)

pub bind_value : {A B : Type 0} (r : Result A) (k : A → Result B) (y : B) → (r >>= k) ≡ value y → (x : A) × (r ≡ value x) × (k x ≡ value y)
bind_value r k y e = bind_then r k y e (λ x h l. (x, h, l))

pub need_value : {A : Type 0} (ok : Bool) (n p : ℕ) (x y : A) → need ok n p x ≡ value y → x ≡ y
unfolding need
need_value true n p x y e = cc
need_value false n p x y e = let z : ◌≡◌ {A = ℕ} 0 1 = cc in absurd (omega arith)

-- a file that was read was read over the store's shape
pub read_over_shape : (s : Store) (file : List ℕ) (work : List Float) (f : StepFile) → step_read s file work ≡ value f
    → read_step (shape_of s).nodes (length (shape_of s).aggregates) (length (shape_of s).virtual_storages) file ≡ value f
unfolding step_read
read_over_shape s file work f e =
    let c = bind_value _ _ f e in
    let d = bind_value _ _ f c.2 in
    let room : s ≡ c.0 = need_value _ 16 0 s c.0 c.1 in
    let shaped : shape_of c.0 ≡ d.0 = need_value _ 17 0 (shape_of c.0) d.0 d.1 in
    let sh : shape_of s ≡ d.0 = ap shape_of room ∙ shaped in
    ap (λ (p : Shape). read_step p.nodes (length p.aggregates) (length p.virtual_storages) file) sh ∙ d.2

-- an accepted file was read, as the one that it is answered with
pub accepted_read : (s : Store) (file : List ℕ) (work : List Float) (f : StepFile) → step_answer s file work ≡ value f → step_read s file work ≡ value f
unfolding step_answer
accepted_read s file work f e =
    let a = bind_value _ _ f e in
    let b = bind_value _ _ f a.2 in
    let same : a.0 ≡ f = (let q = b.2 in cc) in
    a.1 ∙ ap value same

-- and 14 and 21 passed its intervals
accepted_ordered : (s : Store) (file : List ℕ) (work : List Float) (f : StepFile) → step_answer s file work ≡ value f → (j : Intervals) × (step_ordered s f ≡ value j)
unfolding step_answer
accepted_ordered s file work f e =
    let a = bind_value _ _ f e in
    let b = bind_value _ _ f a.2 in
    let same : a.0 ≡ f = (let q = b.2 in cc) in
    (b.0, ap (step_ordered s) (sym same) ∙ b.1)

pub answer_read : (s : Store) (file : List ℕ) (work : List Float) (f : StepFile) → step_answer s file work ≡ value f
    → read_step (shape_of s).nodes (length (shape_of s).aggregates) (length (shape_of s).virtual_storages) file ≡ value f
answer_read s file work f e = read_over_shape s file work f (accepted_read s file work f e)

-- ---- the whole list

module _ (s : Store) (b : Built) (held : Represents s b) where
  -- 14 and 21 of a file's intervals
  abbrev pub judged : StepFile → Result Intervals
  judged f = ordered b.programme.sentinel (has_binary_row b.shape.node_rows) (intervals b.programme.sentinel (periods b.shape) f)

  -- a store that steps on s have left: s itself, or what the last accepted file, which passed 14 and 21, makes of it
  unfoldable pub Reached : Option (List ℕ) → Store → Type 0
  Reached no-file t = t ≡ s
  Reached (some file) t =
      (f : StepFile) × (read_step b.shape.nodes (length b.shape.aggregates) (length b.shape.virtual_storages) file ≡ value f) × (t ≡ store_of_step s (value f))
      × (j : Intervals) × (judged f ≡ value j)

  reached_shape : (o : Option (List ℕ)) (t : Store) → Reached o t → shape_of t ≡ b.shape
  unfolding Reached
  reached_shape no-file t h = ap shape_of h ∙ held.shape
  reached_shape (some file) t h = ap shape_of h.2 ∙ (after_held s b held h.0).shape

  reached_sentinel : (o : Option (List ℕ)) (t : Store) → Reached o t → (programme_in t).sentinel ≡ b.programme.sentinel
  unfolding Reached stepped
  reached_sentinel no-file t h = ap (λ (q : Store). (programme_in q).sentinel) h ∙ ap (λ (p : Programme). p.sentinel) (programme_back s b held)
  reached_sentinel (some file) t h =
      ap (λ (q : Store). (programme_in q).sentinel) h.2
      ∙ ap (λ (p : Programme). p.sentinel) (programme_back (store_of_step s (value h.0)) (after s b held h.0) (after_held s b held h.0))

  -- an accepted step leaves the store that it leaves alone, whatever came before it
  pub reached_step : (o : Option (List ℕ)) (t : Store) → Reached o t → (f : StepFile) → store_of_step t (value f) ≡ store_of_step s (value f)
  unfolding Reached
  reached_step no-file t h f = ap (λ (u : Store). store_of_step u (value f)) h
  reached_step (some file) t h f = ap (λ (u : Store). store_of_step u (value f)) h.2 ∙ twice s b held h.0 f

  pub one_step : (t : Store) (c : Call) (o : Option (List ℕ)) → Reached o t → (r : Result StepFile) → step_answer t c.file c.work ≡ r
      → Reached (cond (is_accepted r) (some c.file) o) (store_of_step t r)
  unfolding is_accepted store_of_step Reached step_ordered step_intervals
  one_step t c o h (refused n p) e = h
  one_step t c o h (value f) e =
      let passed = accepted_ordered t c.file c.work f e in (
        f,
        sym (ap (λ (p : Shape). read_step p.nodes (length p.aggregates) (length p.virtual_storages) c.file) (reached_shape o t h)) ∙ answer_read t c.file c.work f e,
        reached_step o t h f,
        passed.0,
        sym (ap₂ (λ (w : Sentinel) (p : Shape). ordered w (has_binary_row p.node_rows) (intervals w (periods p) f)) (reached_sentinel o t h) (reached_shape o t h)) ∙ passed.1,
      )

  -- "For every list of steps, refused ones included .. each handed the store as the call before it left it"
  pub run : (calls : List Call) (t : Store) (o : Option (List ℕ)) → Reached o t → Reached (last_accepted o (reports t calls)) (store_after t calls)
  unfolding last_accepted reports store_after step_store
  run [] t o h = h
  run (c ∷ cs) t o h =
      run cs (step_store t c.file c.work) (cond (is_accepted (step_answer t c.file c.work)) (some c.file) o) (one_step t c o h (step_answer t c.file c.work) refl)
