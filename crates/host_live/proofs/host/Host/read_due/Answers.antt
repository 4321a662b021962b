use Rattle.std.proofs.Common.{refl, inl, inr}
use Rattle.host_live.proofs.Growing.{as_none, as_these}
use Rattle.host_live.proofs.host.Host.read_due.Goals as goal

pub returns-else-is_due-clause-grown : goal.returns-else-is_due-clause-grown
returns-else-is_due-clause-grown g c = as_none _ _ _ (inr (refl, refl))

pub returns-in-Ok-clause-grown : goal.returns-in-Ok-clause-grown
returns-in-Ok-clause-grown g c = as_these _ _ _ _ _ _ (λ more read. inl (read, refl)) c.in-Ok.ensures.grown
