use Rattle.dev_queue.proofs.Order.{is_by_number}
use Rattle.dev_queue.proofs.laws.by_number.Goals as goal

pub returns : goal.returns
returns c = is_by_number
