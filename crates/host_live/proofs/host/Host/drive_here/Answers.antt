use Rattle.std.proofs.Common.{refl}
use Rattle.host_live.proofs.Growing.{as_these}
use Rattle.host_live.proofs.host.Host.drive_here.Goals as goal

pub returns-in-Ok-clause-grown : goal.returns-in-Ok-clause-grown
returns-in-Ok-clause-grown g c = as_these _ _ _ _ _ _ (λ more it. (refl, it)) c.in-Ok.ensures.grown
