use Rattle.std.proofs.Common.{sym, ◌∙◌}
use Rattle.carried_lines.proofs.CcbLine.{untold}
use Rattle.carried_lines.proofs.printing.print_ccb.Goals as goal

pub returns-then-is_classed-clause-text : goal.returns-then-is_classed-clause-text
returns-then-is_classed-clause-text c = untold c.args.version c.args.ccb.now (sym c.is_classed.ensures ∙ c.if-is_classed.true)
