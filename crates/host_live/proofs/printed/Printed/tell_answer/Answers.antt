use Rattle.std.proofs.Common.{refl}
use Rattle.host_live.proofs.Growing.{all_same, all_stopped}
use Rattle.host_live.proofs.printed.Printed.tell_answer.Goals as goal

pub returns-in-Ok-clause-printed : goal.returns-in-Ok-clause-printed
returns-in-Ok-clause-printed g c = all_same c.args.self.now _ _ _ _ c.answered.ensures.same c.in-Ok.ensures.failures

pub returns-in-Err-clause-printed : goal.returns-in-Err-clause-printed
returns-in-Err-clause-printed g c = all_stopped c.args.self.now _ _ _ _ _ c.requires.still refl refl refl c.answered.ensures.same c.in-Err.ensures.failures
