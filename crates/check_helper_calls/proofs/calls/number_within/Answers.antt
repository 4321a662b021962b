use Rattle.std.proofs.Common.{refl}
use Rattle.check_helper_calls.proofs.calls.number_within.Goals as goal

pub returns-else-least-most-clause-holds : goal.returns-else-least-most-clause-holds
returns-else-least-most-clause-holds c = λ numbers r0 from to. (r0, refl, c.within.ensures.has r0 from to)
