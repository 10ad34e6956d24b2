-- `network_checks::check_network` meets its contract: a link that 8 refuses.
use mathlib.Core.Path.{sym, ◌∙◌}
use Rattle.std.proofs.lemmas.Result.{err_from_is_err_and}
use Rattle.network_laws.specs.NetworkAt.{network_at}
use Rattle.network_record.specs.Counts.{network_of}
use Rattle.network_checks.proofs.Checks.{edges_of_lem, link_refused}
use Rattle.network_checks.proofs.check_network.Goals as goal

pub returns-in_err-check_links : goal.returns-in_err-check_links
unfolding network_at
returns-in_err-check_links c =
    let e = err_from_is_err_and c.from_residual.result c.from_residual.ensures.1 in
    rw (e.1, e.2)
    (link_refused (network_of c.args.s.now c.args.c) (λ q. c.if-c-eq0.false (sym (edges_of_lem c.args.s.now c.args.c) ∙ q)) _ _ (sym c.in_err-check_links.ensures))
