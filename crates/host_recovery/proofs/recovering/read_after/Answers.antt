use Rattle.std.proofs.Common.{Ok, subst}
use Rattle.std.proofs.lemmas.Result.{err_from_is_err_and}
use Rattle.host_recovery.specs.Reads.{GoingSays}
use Rattle.host_recovery.specs.declared.recovering.Going.{Going}
use Rattle.host_recovery.proofs.recovering.read_after.Goals as goal

pub returns-in_err-take_line-clause-says : goal.returns-in_err-take_line-clause-says
returns-in_err-take_line-clause-says g c =
    let p = err_from_is_err_and c.from_residual.result c.from_residual.ensures.1 in
    rw (p.1, p.2) (λ config from stands. c.in_err-take_line.ensures.says config from stands)

pub returns-in-On-clause-says : goal.returns-in-On-clause-says
returns-in-On-clause-says g c = λ config from stands.
    c.read_on.ensures.says config from
    (subst (λ (r : Going). GoingSays config from (Ok r) c.take_line.new.reading c.take_line.new.lines.ahead (g.S.Source.remaining c.take_line.new.source)) c.in-On.is (c.in_ok-take_line.ensures.says config from stands))

pub returns-in-Done-clause-says : goal.returns-in-Done-clause-says
returns-in-Done-clause-says g c = λ config from stands.
    c.finish.ensures.says config from
    (subst (λ (r : Going). GoingSays config from (Ok r) c.take_line.new.reading c.take_line.new.lines.ahead (g.S.Source.remaining c.take_line.new.source)) c.in-Done.is (c.in_ok-take_line.ensures.says config from stands))

pub returns-in-Ended-clause-says : goal.returns-in-Ended-clause-says
returns-in-Ended-clause-says g c = λ config from stands.
    c.finish-in-Ended.ensures.says config from
    (subst (λ (r : Going). GoingSays config from (Ok r) c.take_line.new.reading c.take_line.new.lines.ahead (g.S.Source.remaining c.take_line.new.source)) c.in-Ended.is (c.in_ok-take_line.ensures.says config from stands))
