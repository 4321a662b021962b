use Rattle.timer_events.proofs.First.{next_is_one}
use Rattle.timer_events.proofs.laws.one_next.Goals as goal

pub returns : goal.returns
returns c = next_is_one
