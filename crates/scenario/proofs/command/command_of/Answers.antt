use Rattle.std.proofs.Common.{sym, ◌∙◌}
use Rattle.scenario.proofs.Made.{if_made, not_read, drain_reads}
use Rattle.scenario.proofs.command.command_of.Goals as goal

pub returns-then-is_drain : goal.returns-then-is_drain
returns-then-is_drain c = drain_reads c.args.version c.args.line.now (sym c.is_drain.ensures ∙ c.if-is_drain.true)

pub returns-in-Some : goal.returns-in-Some
returns-in-Some c =
    if_made c.args.version c.args.line.now c.in-Some.word c.in-Some.held c.command_made.result (sym c.is_drain.ensures ∙ c.if-is_drain.false) c.in-Some.ensures (c.command_made.ensures c.args.line.now c.in-Some.ensures.said)

pub returns-in-None : goal.returns-in-None
returns-in-None c = not_read c.args.version c.args.line.now (sym c.is_drain.ensures ∙ c.if-is_drain.false) c.in-None.ensures
