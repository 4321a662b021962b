use Rattle.std.proofs.Common.{refl}
use Rattle.host_live.proofs.Growing.{one_stayed, one_stopped, one_went}
use Rattle.host_live.proofs.printed.Printed.print.Goals as goal

pub returns-then-self-clause-printed : goal.returns-then-self-clause-printed
returns-then-self-clause-printed g c = one_stayed c.args.self.now _ _ _ c.args.entry.now c.if-self.true c.if-self.true refl refl

pub returns-in-Ok-clause-printed : goal.returns-in-Ok-clause-printed
returns-in-Ok-clause-printed g c = one_went c.args.self.now _ _ _ _ _ c.args.entry.now c.if-self.false c.if-self.false c.print_next.ensures.version refl c.in-Ok.ensures.text c.in-Ok.ensures.failures

pub returns-in-Err-clause-printed : goal.returns-in-Err-clause-printed
returns-in-Err-clause-printed g c = one_stopped c.args.self.now _ _ _ _ _ c.args.entry.now c.if-self.false refl c.print_next.ensures.version refl c.in-Err.ensures.stops c.in-Err.ensures.failures
