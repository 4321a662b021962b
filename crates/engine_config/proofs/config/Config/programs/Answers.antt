use Rattle.engine_config.specs.Configured.{controllers_of, firsts_of, queues_of}
use Rattle.engine_config.proofs.Programs.{all_of_setup}
use Rattle.engine_config.proofs.config.Config.programs.Goals as goal

pub returns : goal.returns
returns c =
    rw (← c.self.view_is) (all_of_setup c.self.inside.limits (controllers_of c.self.inside.queues) (firsts_of c.self.inside.tables.items) (queues_of c.self.inside.queues) c.shared_programs.result c.shared_programs.ensures)
