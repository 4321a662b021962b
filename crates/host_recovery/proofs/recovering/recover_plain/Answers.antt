use Rattle.std.proofs.Common.{length, ap, ◌∙◌}
use Rattle.std.proofs.lemmas.Result.{err_from_is_err_and}
use Rattle.world_calls.specs.Versions.{version_in}
use Rattle.host_recovery.proofs.Reached.{some_text}
use Rattle.host_recovery.proofs.Standing.{stands_opened}
use Rattle.host_recovery.proofs.recovering.recover_plain.Goals as goal

pub returns-in_err-engine-clause-recovers : goal.returns-in_err-engine-clause-recovers
returns-in_err-engine-clause-recovers g c =
    let p = err_from_is_err_and c.from_residual.result c.from_residual.ensures.1 in
    rw (p.1, p.2) (λ from consumed. some_text from)

pub returns-clause-recovers : goal.returns-clause-recovers
returns-clause-recovers g c = λ from consumed.
    let stands = stands_opened c.args.config.now from (g.S.Source.remaining c.args.source.now) c.args.version c.of.result c.args.lines.now.ahead c.of-reading.result
    c.open.ensures.lawful c.open.ensures.begins consumed (c.of-reading.ensures.engine.0 ∙ c.in_ok-engine.ensures.opened) c.of-reading.ensures.parts.0 c.of-reading.ensures.parts.1 c.of-reading.ensures.parts.2
    (c.of-reading.ensures.parts.3 ∙ ap length c.header.ensures) c.first_fault-fault.result c.first_fault-fault.ensures c.of-reading.ensures.engine.1 (c.of.ensures ∙ ap version_in c.helpers.ensures) in
    c.read_on.ensures.says c.args.config.now from stands
