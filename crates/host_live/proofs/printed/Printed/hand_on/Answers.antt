use Rattle.std.proofs.Common.{refl}
use Rattle.host_live.proofs.Growing.{all_none, handed_stopped, handed_went}
use Rattle.host_live.proofs.printed.Printed.hand_on.Goals as goal

pub returns-then-self-clause-printed : goal.returns-then-self-clause-printed
returns-then-self-clause-printed g c = all_none c.args.self.now _ _

pub returns-in-Ok-clause-printed : goal.returns-in-Ok-clause-printed
returns-in-Ok-clause-printed g c = handed_went c.args.self.now _ _ _ _ _ c.if-self.false c.if-self.false c.hand_on.ensures.version refl c.in-Ok.ensures.text c.in-Ok.ensures.failures

pub returns-in-Err-clause-printed : goal.returns-in-Err-clause-printed
returns-in-Err-clause-printed g c = handed_stopped c.args.self.now _ _ _ _ _ c.if-self.false refl c.hand_on.ensures.version refl c.in-Err.ensures.text c.in-Err.ensures.failures
