use Rattle.carried_lines.proofs.Taken.{accepts, one_taken}
use Rattle.carried_lines.proofs.order.Order.take.Goals as goal

pub returns-then-follows-clause-accepts : goal.returns-then-follows-clause-accepts
returns-then-follows-clause-accepts c = λ taken has. accepts taken c.args.self.now has c.args.line.now c.may_follow-follows.result c.may_follow-follows.ensures

pub returns-then-follows-clause-taken : goal.returns-then-follows-clause-taken
returns-then-follows-clause-taken c = λ is_so taken has. one_taken taken c.args.self.now has c.args.line.now c.may_follow-follows.result c.may_follow-follows.ensures is_so

pub returns-else-follows-clause-accepts : goal.returns-else-follows-clause-accepts
returns-else-follows-clause-accepts c = λ taken has. accepts taken c.args.self.now has c.args.line.now c.may_follow-follows.result c.may_follow-follows.ensures
