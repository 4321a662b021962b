use Rattle.std.proofs.Common.{◌++◌, subst}
use Rattle.std.specs.Io.KnownBytes.{Consumes}
use Rattle.std.proofs.lemmas.Result.{err_from_is_err_and}
use Rattle.host_recovery.specs.Carries.{first_text}
use Rattle.host_recovery.specs.declared.first_line.First.{First}
use Rattle.host_recovery.proofs.recovering.recover.Goals as goal

pub returns-in_err-version-clause-recovers : goal.returns-in_err-version-clause-recovers
returns-in_err-version-clause-recovers g c =
    let p = err_from_is_err_and c.from_residual.result c.from_residual.ensures.1 in
    rw (p.1, p.2) (c.in_err-version.ensures.says c.args.config.now)

pub returns-in-Plain-clause-recovers : goal.returns-in-Plain-clause-recovers
returns-in-Plain-clause-recovers g c =
    c.recover_plain.ensures.recovers (g.S.Source.remaining c.args.source.now)
    (subst (λ (f : First). Consumes (g.S.Source.remaining c.args.source.now) (g.S.Source.remaining c.read_first.new.source) (first_text f ++ c.read_first.new.lines.ahead)) c.in-Plain.is c.in_ok-version.ensures.says)

pub returns-in-Continued-clause-recovers : goal.returns-in-Continued-clause-recovers
returns-in-Continued-clause-recovers g c =
    c.recover_continued.ensures.recovers (g.S.Source.remaining c.args.source.now)
    (subst (λ (f : First). Consumes (g.S.Source.remaining c.args.source.now) (g.S.Source.remaining c.read_first.new.source) (first_text f ++ c.read_first.new.lines.ahead)) c.in-Continued.is c.in_ok-version.ensures.says)
