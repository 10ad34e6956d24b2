-- The place of an edge that `pywr_build` refuses has four bytes of the file behind it. Assumes nothing.
use mathlib.Core.Path.{◌≡◌, refl, sym, ap, ◌∙◌, subst}
use Prim.Native.Nat.{ℕ, ◌+◌, ◌≤◌}
use lib.ListN.{length}
use lib.Dec.{T}
use Rattle.pywr.specs.Result.{Result, value, refused}
use Rattle.pywr.specs.Answers.{answer_of, number_of, place_of}
use Rattle.pywr.specs.Programme.{Built}
use Rattle.pywr.specs.Calls.{build_answer}
use Rattle.theorem_refusals.specs.RefusalNumbers.{of_edge}
use Rattle.theorem_refusals.proofs.EdgePlaces.{edge_in_file}
use Rattle.theorem_exported_calls.specs.EdgePlaces.{ExportedEdgeInFile}

pub exported_edge_in_file : ExportedEdgeInFile
unfolding number_of place_of answer_of
exported_edge_in_file s file old new words words' numbers numbers' number place c t =
    go (build_answer s file old words numbers) refl (c.number ∙ ap number_of c.after.answer) (c.place ∙ ap place_of c.after.answer)
  where
    go : (r : Result Built) → build_answer s file old words numbers ≡ r → number ≡ number_of (answer_of r) → place ≡ place_of (answer_of r) → place + 4 ≤ length file
    go (value b) e n p = absurd (subst (λ (k : ℕ). T (of_edge k)) n t)
    go (refused m q) e n p = subst (λ (k : ℕ). k + 4 ≤ length file) (sym p) (edge_in_file s file old words numbers m q e (subst (λ (k : ℕ). T (of_edge k)) n t))
