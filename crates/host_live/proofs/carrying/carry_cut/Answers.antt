use Rattle.host_live.specs.declared.served.HostFault.{HostFault}
use Rattle.host_live.specs.declared.serving.LiveFault.{LiveFault}
use Rattle.host_live.proofs.Growing.{as_these}
use Rattle.host_live.proofs.Outcomes.{cut_done, cut_failed}
use Rattle.host_live.proofs.carrying.carry_cut.Goals as goal

pub returns-in-Ok-clause-carried : goal.returns-in-Ok-clause-carried
returns-in-Ok-clause-carried g c = as_these _ _ _ _ _ _ (λ more it. cut_done HostFault c.args.manner c.in-Ok.served c.serve_asked.new.self.engine.engine c.now.result c.now.ensures more it) c.in-Ok.ensures.grown

pub returns-in-Err-clause-carried : goal.returns-in-Err-clause-carried
returns-in-Err-clause-carried g c = as_these _ _ _ _ _ _ (λ more it. cut_failed HostFault LiveFault c.args.manner c.in-Err.fault c.from.result c.serve_asked.new.self.engine.engine c.now.result c.now.ensures more it) c.in-Err.ensures.grown
