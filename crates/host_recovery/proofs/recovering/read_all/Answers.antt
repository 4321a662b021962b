use Rattle.std.proofs.Common.{◌≡◌, ◌≤◌, ℕ, None, Ok, ap, subst}
use Rattle.std.proofs.lemmas.Result.{err_from_is_err_and}
use Rattle.host_recovery.specs.Reads.{GoingSays, ReadingState}
use Rattle.host_recovery.specs.declared.recovering.Going.{Going}
use Rattle.host_recovery.specs.declared.recovering.TheConstants.{MOST_WHOLE}
use Rattle.host_recovery.proofs.Standing.{too_much}
use Rattle.host_recovery.proofs.recovering.read_all.Goals as goal

pub returns-in_err-read_next-clause-says : goal.returns-in_err-read_next-clause-says
returns-in_err-read_next-clause-says g c =
    let p = err_from_is_err_and c.from_residual.result c.from_residual.ensures.1 in
    rw (p.1, p.2) (λ config from stands. c.in_err-read_next.ensures.says config from (c.loop-reading.invariant.stands config from stands))

pub returns-in-Done-clause-says : goal.returns-in-Done-clause-says
returns-in-Done-clause-says g c = λ config from stands.
    subst (λ (r : Going). GoingSays config from (Ok r) c.read_next.new.reading c.read_next.new.lines.ahead (g.S.Source.remaining c.read_next.new.source)) c.in-Done.is
    (c.in_ok-read_next.ensures.says config from (c.loop-reading.invariant.stands config from stands))

pub returns-in-Ended-clause-says : goal.returns-in-Ended-clause-says
returns-in-Ended-clause-says g c = λ config from stands.
    subst (λ (r : Going). GoingSays config from (Ok r) c.read_next.new.reading c.read_next.new.lines.ahead (g.S.Source.remaining c.read_next.new.source)) c.in-Ended.is
    (c.in_ok-read_next.ensures.says config from (c.loop-reading.invariant.stands config from stands))

pub returns-clause-says : goal.returns-clause-says
returns-clause-says g c = λ config from stands.
    let whole : c.reading.inside.whole ≡ c.loop-reading.reading.whole = cc (ap (λ (r : ReadingState). r.whole) c.reading.view_is) in
    too_much config from (g.S.Source.remaining c.loop-reading.source) None c.loop-reading.lines.ahead c.loop-reading.reading (c.loop-reading.invariant.stands config from stands) MOST_WHOLE
    (subst (λ (n : ℕ). MOST_WHOLE ≤ n) whole c.loop-reading-test.false)
