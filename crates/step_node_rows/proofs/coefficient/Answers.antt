-- `coefficient` meets its contract.
use mathlib.Core.Path.{◌≡◌}
use native.Mathlib.Omega.{arith}
use borrow.Author.Tests.{ne_eqb}
use Rattle.step_node_rows.specs.NodeConstraintBounds.{coefficient_by_word}
use Rattle.step_node_rows.proofs.coefficient.Goals as goal

pub returns-in-BinaryUpper : goal.returns-in-BinaryUpper
unfolding coefficient_by_word
returns-in-BinaryUpper c = λ word is. let one : word ≡ 1 = rw c.in-BinaryUpper.is at is in (λ e. omega arith, rw one)

pub returns-in-BinaryLower : goal.returns-in-BinaryLower
unfolding coefficient_by_word
returns-in-BinaryLower c =
    λ word is. let other = rw c.in-BinaryLower.is at is in (other.0, rw (ne_eqb word 1 other.1))
