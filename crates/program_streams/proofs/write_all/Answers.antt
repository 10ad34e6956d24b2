-- `program_streams::write_all` meets its contract.
use Rattle.std.proofs.Common.{◌++◌, rules, take, ap, sym, ◌∙◌, subst}
use Rattle.std.proofs.lemmas.List.{take_rest}
use Rattle.std.specs.Io.KnownBytes.{Appends}
use Rattle.std.proofs.KnownBytes.{Appends-trans}
use lib.Seq.{take-add}
use Rattle.program_streams.proofs.write_all.Goals as goal

pub loop-done-preserved-in-Ok : goal.loop-done-preserved-in-Ok
loop-done-preserved-in-Ok g c =
    let done = c.loop-done.done in
    let bytes = c.args.bytes.now in
    let joined = ap (λ l. take done bytes ++ take c.in-Ok.taken l) (take_rest bytes done) ∙ sym (take-add done c.in-Ok.taken bytes) in
    (search rules, subst (Appends _ _) joined (Appends-trans _ _ _ _ _ c.loop-done.invariant.1 c.in-Ok.ensures.bytes))
