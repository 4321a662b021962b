use Rattle.std.proofs.Common.{subst, sym}
use Rattle.host_live.proofs.Growing.{as_these}
use Rattle.host_live.specs.Turns.{DoesInPart, part_none}
use Rattle.host_live.specs.declared.request.Request.TheVariants as asks
use Rattle.host_live.specs.declared.served.HostFault.{HostFault}
use Rattle.host_live.proofs.Turning.{steps_so}
use Rattle.host_live.proofs.host.Host.step_here.Goals as goal

pub returns-in-Ok-clause-grown : goal.returns-in-Ok-clause-grown
returns-in-Ok-clause-grown g c = as_these _ _ _ _ _ _ (λ more one. steps_so HostFault c.args.run c.in-Ok.advanced c.advance.new.self.engine.engine more one c.stepped.result c.stepped.ensures) c.in-Ok.ensures.grown

pub returns-in-Err-clause-grown : goal.returns-in-Err-clause-grown
returns-in-Err-clause-grown g c = as_these _ _ _ _ _ _ (λ more none manner. subst (DoesInPart manner (asks.Step c.args.run)) (sym none) (part_none (asks.Step c.args.run))) c.in-Err.ensures.grown
