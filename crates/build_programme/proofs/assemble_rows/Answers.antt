-- `build_programme::assemble_rows` meets its contract.
use Rattle.std.proofs.lemmas.Result.{err_from_is_err_and}
use Rattle.build_rows.proofs.Finish.{sets_refused}
use Rattle.build_programme.proofs.assemble_rows.Goals as goal

pub list_members-requires : goal.list_members-requires
list_members-requires c = (c.collect_sets.ensures.held _ c.in_ok-sets.was).1

pub add_rows-requires : goal.add_rows-requires
add_rows-requires c =
    let k = c.collect_sets.ensures.held _ c.in_ok-sets.was in
    (c.requires.0, record { held = k.0; fit = k.1; listed = c.list_members.ensures }, c.requires.1, c.requires.2)

pub returns-in_err-sets : goal.returns-in_err-sets
returns-in_err-sets c =
    let p = err_from_is_err_and c.from_residual.result c.from_residual.ensures.1 in
    rw (p.1, p.2) (sets_refused c.args.sentinel _ c.args.tables.now.counts _ c.requires.0 _ _ (c.collect_sets.ensures.over _ c.in_err-sets.was))
