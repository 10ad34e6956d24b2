-- The loops that ask a test of each node in turn: a turn, and each way out. Assumes nothing.
use Prim.Native.Nat.{ℕ, ◌+◌, ◌*◌, ◌-◌, ◌<◌, ◌≤◌}
use mathlib.Core.Path.{◌≡◌, ◌∙◌, ap}
use mathlib.Core.List.{List, ◌∷◌}
use mathlib.Core.Option.{Option, none, some}
use native.Mathlib.Omega.{arith}
use native.Mathlib.Numerals.{add-one}
use Rattle.pywr.specs.Network.{Node}
use Rattle.pywr.specs.Result.{first_refused}
use Rattle.fields.specs.Records.{records_at}
use Rattle.fields.proofs.RecordLaws.{records_left, records_over}
use Rattle.network_node.specs.Node.{node_at}

module _ (test : ℕ → Node → Option ℕ) (file : List ℕ) (n i : ℕ) where
  -- the nodes from i on
  abbrev rest : ℕ → List Node
  rest i = records_at (node_at file) (λ at. at + 20) (n - i) (20 * i)

  rest_more : i < n → rest i ≡ node_at file (20 * i) ∷ rest (i + 1)
  rest_more lt =
      let next : 20 * i + 20 ≡ 20 * (i + 1) = omega arith in
      records_left (λ at. at + 20) n i (20 * i) lt (node_at file)
      ∙ ap (λ (at : ℕ). node_at file (20 * i) ∷ records_at (node_at file) (λ at. at + 20) (n - (i + 1)) at) next

  pub refused_here : (number : ℕ) → i < n → test i (node_at file (20 * i)) ≡ some number → first_refused test i (rest i) ≡ some (number, i)
  unfolding first_refused
  refused_here number lt e = rw (rest_more lt, e, first_refused)

  pub refused_later : i < n → test i (node_at file (20 * i)) ≡ none → first_refused test i (rest i) ≡ first_refused test (i + 1) (rest (i + 1))
  unfolding first_refused
  refused_later lt e = rw (rest_more lt, e, first_refused, add-one i)

  pub refused_none : n ≤ i → first_refused test i (rest i) ≡ none
  unfolding first_refused
  refused_none le = rw (records_over (λ at. at + 20) n i (20 * i) le (node_at file))
