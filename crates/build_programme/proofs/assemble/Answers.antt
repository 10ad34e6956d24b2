-- `build_programme::assemble` meets its contract.
use Rattle.std.proofs.lemmas.Result.{err_from_is_err_and}
use Rattle.build_rows.proofs.Ceilings.{not_read}
use Rattle.build_rows.proofs.Finish.{refused_so}
use Rattle.build_programme.proofs.Columns.{read_as, placed_as, refused_as}
use Rattle.build_programme.proofs.assemble.Goals as goal

pub assemble_columns-requires : goal.assemble_columns-requires
assemble_columns-requires c =
    (read_as _ _ _ c.in_ok-c.was c.load.ensures.0, placed_as _ _ _ c.in_ok-c.was c.load.ensures.1, c.requires)

pub returns-in_err-c : goal.returns-in_err-c
returns-in_err-c c =
    let p = err_from_is_err_and c.from_residual.result c.from_residual.ensures.1 in
    rw (p.1, p.2) (refused_so c.args.sentinel _ _ _ _ (not_read _ _ _ _ (refused_as _ _ _ c.in_err-c.was c.load.ensures.0)))
