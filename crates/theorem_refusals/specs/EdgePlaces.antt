-- "The place of all these is the `from` field's byte offset": whoever is answered 5, 19 or 20 may read the edge's two nodes there. Assumes nothing.
use Rattle.std.specs.Prelude.{◌≡◌, ℕ, ◌+◌, ◌≤◌, List, length, T, Float}
use Rattle.pywr.specs.declared.Sentinel.{Sentinel}
use Rattle.pywr.specs.Result.{refused}
use Rattle.pywr.specs.Store.{Store}
use Rattle.pywr.specs.Calls.{build_answer}
use Rattle.theorem_refusals.specs.RefusalNumbers.{of_edge}

-- `from` and `to`, two bytes each, lie within the file
abbrev pub EdgeInFile : Type 0
EdgeInFile =
    (s : Sentinel) (file : List ℕ) (old : Store) (words : List ℕ) (numbers : List Float) (number place : ℕ)
    → build_answer s file old words numbers ≡ refused number place → T (of_edge number) → place + 4 ≤ length file
