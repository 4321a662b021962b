use Rattle.std.proofs.Common.{◌++◌, ◌∷◌}
use Rattle.std.proofs.lemmas.Result.{err_from_is_err_and}
use Rattle.host_recovery.proofs.CarriedReached.{carries_first, stands_after}
use Rattle.host_recovery.proofs.Continuing.{another_came, none_came}
use Rattle.host_recovery.proofs.Reached.{some_text}
use Rattle.host_recovery.proofs.Standing.{done_torn}
use Rattle.host_recovery.proofs.recovering.recover_continued.Goals as goal

pub returns-in_err-carrying-clause-recovers : goal.returns-in_err-carrying-clause-recovers
returns-in_err-carrying-clause-recovers g c =
    let p = err_from_is_err_and c.from_residual.result c.from_residual.ensures.1 in
    rw (p.1, p.2) (λ from consumed. some_text from)

pub returns-in_err-goes_on-clause-recovers : goal.returns-in_err-goes_on-clause-recovers
returns-in_err-goes_on-clause-recovers g c =
    let p = err_from_is_err_and c.from_residual-in_err-goes_on.result c.from_residual-in_err-goes_on.ensures.1 in
    let first = c.in_ok-carrying.ensures in
    rw (p.1, p.2) (λ from consumed.
    c.in_err-goes_on.ensures.says c.args.config.now from
    (carries_first c.args.config.now from (g.S.Source.remaining c.args.source.now) c.args.version c.args.lines.now.ahead c.in_ok-carrying.carrying
    c.new.ensures.lawful consumed first.parts.0 first.parts.1 first.parts.2 first.ordered first.leads))

pub returns-in_err-reading-clause-recovers : goal.returns-in_err-reading-clause-recovers
returns-in_err-reading-clause-recovers g c =
    let p = err_from_is_err_and c.from_residual-in_err-reading.result c.from_residual-in_err-reading.ensures.1 in
    rw (p.1, p.2) (λ from consumed. some_text from)

pub returns-then-goes_on-clause-recovers : goal.returns-then-goes_on-clause-recovers
returns-then-goes_on-clause-recovers g c = λ from consumed.
    let config = c.args.config.now in
    let first = c.in_ok-carrying.ensures in
    let carries = carries_first config from (g.S.Source.remaining c.args.source.now) c.args.version c.args.lines.now.ahead c.in_ok-carrying.carrying c.new.ensures.lawful consumed first.parts.0 first.parts.1 first.parts.2 first.ordered first.leads in
    let now = g.S.Source.remaining c.read_carried_lines.new.source in
    let carrying = c.read_carried_lines.new.carrying in
    let lines = c.read_carried_lines.new.lines in
    let all = another_came config from now c.in_ok-goes_on.goes_on carrying lines c.if-goes_on.true (c.in_ok-goes_on.ensures.says config from carries) in
    let begun = c.in_ok-reading.ensures in
    c.read_after.ensures.says config from
    (stands_after config from now (lines.line ++ 10 ∷ lines.ahead) carrying c.in_ok-reading.reading all begun.leads begun.parts.0 begun.parts.1 begun.parts.2 begun.parts.3)

pub returns-else-goes_on-clause-recovers : goal.returns-else-goes_on-clause-recovers
returns-else-goes_on-clause-recovers g c = λ from consumed.
    let config = c.args.config.now in
    let first = c.in_ok-carrying.ensures in
    let carries = carries_first config from (g.S.Source.remaining c.args.source.now) c.args.version c.args.lines.now.ahead c.in_ok-carrying.carrying c.new.ensures.lawful consumed first.parts.0 first.parts.1 first.parts.2 first.ordered first.leads in
    let now = g.S.Source.remaining c.read_carried_lines.new.source in
    let carrying = c.read_carried_lines.new.carrying in
    let lines = c.read_carried_lines.new.lines in
    let ended = none_came config from now c.in_ok-goes_on.goes_on carrying lines c.if-goes_on.false (c.in_ok-goes_on.ensures.says config from carries) in
    let begun = c.in_ok-reading.ensures in
    let stands = stands_after config from now lines.line carrying c.in_ok-reading.reading ended.all begun.leads begun.parts.0 begun.parts.1 begun.parts.2 begun.parts.3 in
    c.finish-else-goes_on.ensures.says config from (done_torn config from now c.in_ok-reading.reading lines.line stands ended.at_end ended.short)
