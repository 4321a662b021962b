use Rattle.carried_lines.proofs.Taken.{none_taken}
use Rattle.carried_lines.proofs.order.Order.new.Goals as goal

pub returns : goal.returns
returns c = none_taken
