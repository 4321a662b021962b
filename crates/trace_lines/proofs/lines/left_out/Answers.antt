use Rattle.std.proofs.Common.{sym, ◌∙◌}
use Rattle.trace_lines.proofs.Fields.{lack_none, lack_put}
use Rattle.trace_lines.proofs.lines.left_out.Goals as goal

pub returns-then-may_lack-clause-text : goal.returns-then-may_lack-clause-text
returns-then-may_lack-clause-text c = lack_put c.args.kind c.args.text.now (sym c.may_lack.ensures ∙ c.if-may_lack.true)

pub returns-else-may_lack-clause-text : goal.returns-else-may_lack-clause-text
returns-else-may_lack-clause-text c = lack_none c.args.kind (sym c.may_lack.ensures ∙ c.if-may_lack.false)
