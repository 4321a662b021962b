use Rattle.host_live.proofs.Growing.{as_none}
use Rattle.host_live.proofs.Turning.{no_reading}
use Rattle.host_live.proofs.host.Host.read.Goals as goal

pub returns-in-None-clause-grown : goal.returns-in-None-clause-grown
returns-in-None-clause-grown g c = as_none _ _ _ (no_reading c.args.now)
