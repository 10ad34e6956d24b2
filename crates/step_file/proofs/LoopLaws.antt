-- The loops over a step file's records: a turn and each way out, and the answer over a store's counts. Assumes nothing.
use mathlib.Core.Path.{◌≡◌, sym, ap, ◌∙◌}
use Prim.Native.Nat.{ℕ, ◌+◌, ◌*◌, ◌-◌, ◌<◌, ◌≤◌}
use native.Mathlib.Nat.{add-zero, mul-zero, sub-zero}
use native.Mathlib.Omega.{arith}
use mathlib.Core.List.{List}
use lib.ListN.{length, get_or}
use Rattle.layout.specs.Layout.{aggregates_at, virtual_storages_at}
use Rattle.std.specs.Prelude.{Ok, Err}
use Rattle.pywr.specs.declared.Refusal.{Refusal}
use Rattle.pywr.specs.Answer.{Answer}
use Rattle.pywr.specs.Answers.{answer_of}
use Rattle.pywr.specs.Programme.{NodeShape}
use Rattle.pywr.specs.StepFile.{read_step}
use Rattle.pywr.specs.Store.{Store, entries, node_entry, shape_of}
use Rattle.fields.proofs.Left.{left_more, left_none}
use Rattle.store_shape.proofs.EntryLaws.{entries_length}
use Rattle.store_shape.proofs.Entries.{of_shape}
use Rattle.step_record.specs.Check.{answer_then, check_node}
use Rattle.step_file.specs.CheckStep.{check_nodes, check_records, check_file}
use Rattle.step_file.proofs.ReaderLaws.{answer_back, step_law}

-- the first i of the nodes passed: the check of all is that of those that are left
module _ (file : List ℕ) (entry : ℕ → NodeShape) (count : ℕ) where
  abbrev pub NodesLeft : ℕ → Type 0
  NodesLeft i = check_nodes file (entries entry 2 11 count) 12 ≡ check_nodes file (entries entry 2 (11 + 2 * i) (count - i)) (12 + 34 * i)

  pub nodes_refused : (i : ℕ) (refusal : Refusal) → NodesLeft i → i < count → check_node file (entry (11 + 2 * i)) (12 + 34 * i) ≡ Err refusal → Err refusal ≡ check_nodes file (entries entry 2 11 count) 12
  unfolding check_nodes entries answer_then
  nodes_refused i refusal h lt e = sym (h ∙ rw (left_more count i lt, e))

  pub nodes_more : (i : ℕ) → NodesLeft i → i < count → check_node file (entry (11 + 2 * i)) (12 + 34 * i) ≡ Ok tt → NodesLeft (i + 1)
  unfolding check_nodes entries answer_then
  nodes_more i h lt e =
      let word : 11 + 2 * i + 2 ≡ 11 + 2 * (i + 1) = omega arith in
      let at : 12 + 34 * i + 34 ≡ 12 + 34 * (i + 1) = omega arith in
      h ∙ rw (left_more count i lt, e, word, at)

  pub nodes_done_lem : (i : ℕ) → NodesLeft i → count ≤ i → Ok tt ≡ check_nodes file (entries entry 2 11 count) 12
  unfolding check_nodes entries
  nodes_done_lem i h le = sym (h ∙ rw (left_none count i le))

-- and of records of one size
module _ (check : ℕ → Answer) (size count from : ℕ) where
  abbrev pub RecordsLeft : ℕ → Type 0
  RecordsLeft i = check_records check size count from ≡ check_records check size (count - i) (from + size * i)

  pub records_first : RecordsLeft 0
  records_first = rw (sub-zero, mul-zero, add-zero)

  pub records_refused : (i : ℕ) (refusal : Refusal) → RecordsLeft i → i < count → check (from + size * i) ≡ Err refusal → Err refusal ≡ check_records check size count from
  unfolding check_records answer_then
  records_refused i refusal h lt e = sym (h ∙ rw (left_more count i lt, e))

  pub records_more : (i : ℕ) → RecordsLeft i → i < count → check (from + size * i) ≡ Ok tt → RecordsLeft (i + 1)
  unfolding check_records answer_then
  records_more i h lt e = let at : from + size * i + size ≡ from + size * (i + 1) = omega arith in h ∙ rw (left_more count i lt, e, at)

  pub records_done : (i : ℕ) → RecordsLeft i → count ≤ i → Ok tt ≡ check_records check size count from
  unfolding check_records
  records_done i h le = sym (h ∙ rw (left_none count i le))

-- ---- over a store

-- only the shape run is read
pub nodes_of : (s : Store) (shape : List ℕ) → s.shape ≡ shape → (shape_of s).nodes ≡ entries (node_entry (of_shape shape)) 2 11 (get_or shape 1 0)
unfolding shape_of node_entry
nodes_of s shape e = rw e

pub step_answer_lem : (s : Store) (file shape : List ℕ) (n aggregates virtual_storages : ℕ) → s.shape ≡ shape → n ≡ get_or shape 1 0 → aggregates ≡ get_or shape 9 0 → virtual_storages ≡ get_or shape 10 0
    → answer_of (read_step (shape_of s).nodes (length (shape_of s).aggregates) (length (shape_of s).virtual_storages) file) ≡ check_file file (shape_of s).nodes n aggregates virtual_storages
unfolding shape_of
step_answer_lem s file shape n aggregates virtual_storages e qn qa qv =
    let ln : length (shape_of s).nodes ≡ n = entries_length _ 2 11 _ ∙ ap (λ (l : List ℕ). get_or l 1 0) e ∙ sym qn in
    let la : length (shape_of s).aggregates ≡ aggregates = entries_length _ 1 aggregates_at _ ∙ ap (λ (l : List ℕ). get_or l 9 0) e ∙ sym qa in
    let lv : length (shape_of s).virtual_storages ≡ virtual_storages = entries_length _ 6 virtual_storages_at _ ∙ ap (λ (l : List ℕ). get_or l 10 0) e ∙ sym qv in
    ap answer_of (step_law (shape_of s).nodes _ _ file) ∙ answer_back _ _ ∙ counts ln la lv
  where
    counts : {n' a' v' : ℕ} → n' ≡ n → a' ≡ aggregates → v' ≡ virtual_storages → check_file file (shape_of s).nodes n' a' v' ≡ check_file file (shape_of s).nodes n aggregates virtual_storages
    counts p q r = rw (p, q, r)
