use Rattle.dev_queue.proofs.Least.{least_is_one}
use Rattle.dev_queue.proofs.laws.one_least.Goals as goal

pub returns : goal.returns
returns c = least_is_one
