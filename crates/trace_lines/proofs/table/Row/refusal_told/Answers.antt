use Rattle.std.proofs.Common.{sym, ◌∙◌}
use Rattle.trace_lines.proofs.Replies.{own_refusal, another_refusal}
use Rattle.trace_lines.proofs.table.Row.refusal_told.Goals as goal

pub returns-then-may_be : goal.returns-then-may_be
returns-then-may_be c = own_refusal c.args.self.now c.args.text.now c.in_ok-refusal.refusal (sym c.may_be.ensures ∙ c.if-may_be.true) c.in_ok-refusal.ensures

pub returns-else-may_be : goal.returns-else-may_be
returns-else-may_be c = another_refusal c.args.self.now c.args.text.now c.in_ok-refusal.refusal (sym c.may_be.ensures ∙ c.if-may_be.false) c.in_ok-refusal.ensures
