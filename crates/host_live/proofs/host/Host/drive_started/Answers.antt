use Rattle.std.proofs.Common.{refl, inl, rules}
use Rattle.host_live.proofs.Growing.{as_none, as_these}
use Rattle.host_live.proofs.Turning.{started_so}
use Rattle.host_live.proofs.host.Host.drive_started.Goals as goal

pub returns-in-Some-clause-grown : goal.returns-in-Some-clause-grown
returns-in-Some-clause-grown g c = as_these _ _ _ _ _ _ (λ more it. started_so c.args.manner c.args.answer c.in-Some.run' c.drive_here.result c.drive_here.new.self.engine.engine more (search rules) it) c.drive_here.ensures.grown

pub returns-in-None-clause-grown : goal.returns-in-None-clause-grown
returns-in-None-clause-grown g c = as_none _ _ _ (refl, inl (search rules, refl))
