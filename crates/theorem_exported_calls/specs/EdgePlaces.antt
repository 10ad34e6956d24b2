-- Where `pywr_build` answers 5, 19 or 20, its caller may read the edge's two nodes in the file, from the place on. Assumes nothing.
use Rattle.std.specs.Prelude.{ℕ, ◌+◌, ◌≤◌, List, length, T, Float}
use Rattle.pywr.specs.declared.Sentinel.{Sentinel}
use Rattle.pywr.specs.Store.{Store}
use Rattle.theorem_refusals.specs.RefusalNumbers.{of_edge}
use Rattle.pywr_c_answers.specs.Crossing.{BuildCrossed}

abbrev pub ExportedEdgeInFile : Type 0
ExportedEdgeInFile =
    (s : Sentinel) (file : List ℕ) (old new : Store) (words words' : List ℕ) (numbers numbers' : List Float) (number place : ℕ)
    → BuildCrossed s file old words numbers number place new words' numbers' → T (of_edge number) → place + 4 ≤ length file
