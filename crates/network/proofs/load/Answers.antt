-- `network::load` meets its contract: what the records and the checks answered.
use Rattle.std.proofs.lemmas.Result.{err_from_is_err_and}
use Rattle.pywr.specs.Result.{◌>>=◌}
use Rattle.pywr.specs.NetworkFile.{parse_network}
use Rattle.network.proofs.load.Goals as goal

pub returns-in_err-c : goal.returns-in_err-c
unfolding parse_network ◌>>=◌
returns-in_err-c c =
    let e = err_from_is_err_and c.from_residual.result c.from_residual.ensures.1 in
    (rw (c.scan.ensures.0, c.in_err-c.was, e.1, e.2), rw (e.1) tt)

pub returns-in_err-check_network : goal.returns-in_err-check_network
unfolding parse_network ◌>>=◌
returns-in_err-check_network c =
    let e = err_from_is_err_and c.from_residual-in_err-check_network.result c.from_residual-in_err-check_network.ensures.1 in
    (rw (c.scan.ensures.0, c.in_ok-c.was, c.check_network.ensures, c.in_err-check_network.was, e.1, e.2), rw (e.1) tt)

pub returns : goal.returns
unfolding parse_network ◌>>=◌
returns c =
    (rw (c.scan.ensures.0, c.in_ok-c.was, c.check_network.ensures, c.in_ok-check_network.was), (rw c.in_ok-c.was at c.scan.ensures.1))
