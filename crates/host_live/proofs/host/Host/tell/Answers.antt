use Rattle.std.proofs.Common.{refl}
use Rattle.host_live.proofs.Growing.{as_these}
use Rattle.host_live.proofs.Turning.{read_only}
use Rattle.host_live.proofs.host.Host.tell.Goals as goal

pub returns-in-Ok-clause-grown : goal.returns-in-Ok-clause-grown
returns-in-Ok-clause-grown g c = as_these _ _ _ _ _ _ (λ more read. read_only c.args.now more (refl, refl) read) c.in-Ok.ensures.grown

pub returns-in-Err-clause-grown : goal.returns-in-Err-clause-grown
returns-in-Err-clause-grown g c = as_these _ _ _ _ _ _ (λ more read. read_only c.args.now more refl read) c.in-Err.ensures.grown
