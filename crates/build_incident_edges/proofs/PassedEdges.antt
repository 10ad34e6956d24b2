-- The edges of a file that all passed their check: their ends are nodes. Assumes nothing.
use Prim.Native.Nat.{ℕ, ◌+◌, ◌*◌, ◌<◌}
use mathlib.Core.Path.{◌≡◌, sym, ap, ◌∙◌}
use mathlib.Core.List.{List}
use Rattle.pywr.specs.Bytes.{le16}
use Rattle.fields.specs.Records.{records_end, AllPass}
use Rattle.std.specs.Prelude.{Ok}
use Rattle.fields.proofs.RecordLaws.{end_fixed}
use Rattle.network_edge.specs.Edge.{check_edge}
use Rattle.network_laws.proofs.Passed.{edge_passed}

module _ (file : List ℕ) (n e : ℕ) (all : AllPass (check_edge file n) (λ at. at + 6) e (20 * n)) (j : ℕ) (under : j < e) where
  passed : check_edge file n j (20 * n + 6 * j) ≡ Ok (records_end (λ at. at + 6) (j + 1) (20 * n))
  passed = ap (check_edge file n j) (sym (end_fixed 6 j (20 * n))) ∙ all j under

  pub from_under : le16 file (20 * n + 6 * j + 2) < n
  from_under = (edge_passed file n j (20 * n + 6 * j) _ passed).from

  pub to_under : le16 file (20 * n + 6 * j + 4) < n
  to_under = (edge_passed file n j (20 * n + 6 * j) _ passed).to
