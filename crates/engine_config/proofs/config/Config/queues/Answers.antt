use Rattle.std.proofs.Common.{subst}
use Rattle.world.specs.Beginning.{Begins}
use Rattle.engine_config.proofs.config.Config.queues.Goals as goal

pub returns-clause-begins : goal.returns-clause-begins
returns-clause-begins c = subst Begins c.self.view_is tt
