use Rattle.std.proofs.lemmas.Result.{err_from_is_err_and}
use Rattle.host_recovery.proofs.recovering.read_on.Goals as goal

pub returns-in_err-is_ended-clause-says : goal.returns-in_err-is_ended-clause-says
returns-in_err-is_ended-clause-says g c =
    let p = err_from_is_err_and c.from_residual.result c.from_residual.ensures.1 in
    rw (p.1, p.2) (λ config from stands. c.in_err-is_ended.ensures.says config from stands)

pub returns-clause-says : goal.returns-clause-says
returns-clause-says g c = λ config from stands. c.finish.ensures.says config from (c.in_ok-is_ended.ensures.says config from stands)
