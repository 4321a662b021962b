use Rattle.host_live.proofs.Growing.{as_these}
use Rattle.host_live.proofs.carrying.carry_line.Goals as goal

pub returns-in-Ok-clause-carried : goal.returns-in-Ok-clause-carried
returns-in-Ok-clause-carried g c = λ line kept over. as_these _ _ _ _ _ _ (λ more it. it) (c.in-Ok.ensures.grown line (c.line.ensures.line over line kept))

pub returns-in-Err-clause-carried : goal.returns-in-Err-clause-carried
returns-in-Err-clause-carried g c = λ line kept over. as_these _ _ _ _ _ _ (λ more it. it) (c.in-Err.ensures.grown line (c.line.ensures.line over line kept))
