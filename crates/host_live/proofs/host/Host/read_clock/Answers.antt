use Rattle.std.proofs.Common.{refl, inl}
use Rattle.host_live.proofs.Growing.{as_none}
use Rattle.host_live.proofs.host.Host.read_clock.Goals as goal

pub returns-then-self-clause-grown : goal.returns-then-self-clause-grown
returns-then-self-clause-grown g c = as_none _ _ _ (inl refl)
