use Rattle.std.proofs.Common.{rules}
use Rattle.engine_core.proofs.run.Run.to_stop.Goals as goal

pub returns-clause-stopped : goal.returns-clause-stopped
returns-clause-stopped c = rw c.new.ensures (search rules)
