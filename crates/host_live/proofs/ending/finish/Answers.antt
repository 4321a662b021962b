use Rattle.host_live.specs.declared.serving.LiveFault.{LiveFault}
use Rattle.host_live.proofs.Growing.{as_then, as_these}
use Rattle.host_live.proofs.Finishing.{left_last, settled_last}
use Rattle.host_live.proofs.ending.finish.Goals as goal

pub returns-in-Ok-clause-grown : goal.returns-in-Ok-clause-grown
returns-in-Ok-clause-grown g c = as_then _ _ _ _ _ _ _ _ _ (as_these _ _ _ _ _ _ (λ records driven. settled_last LiveFault tt c.args.manner c.args.is_followed c.settle.result c.drive_last.new.host.engine.engine c.settle.new.host.engine.engine records c.settle.ensures.engine driven) c.in-Ok.ensures.grown) c.settle.ensures.grown

pub returns-in-Err-clause-grown : goal.returns-in-Err-clause-grown
returns-in-Err-clause-grown g c = as_these _ _ _ _ _ _ (λ records driven. left_last _ _ c.in-Err.fault c.in-Err.fault c.args.manner c.args.is_followed c.drive_last.new.host.engine.engine records driven) c.in-Err.ensures.grown
