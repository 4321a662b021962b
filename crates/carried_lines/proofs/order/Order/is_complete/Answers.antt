use Rattle.carried_lines.proofs.Taken.{completes}
use Rattle.carried_lines.proofs.order.Order.is_complete.Goals as goal

pub returns : goal.returns
returns c = λ taken has. completes taken c.args.self.now has c.is_complete.result c.is_complete.ensures
