use Rattle.std.proofs.Common.{◌<◌, arith}
use Rattle.world.specs.Capacities.{most_controllers}
use Rattle.engine_config.specs.Configured.{controllers_of, firsts_of, queue_seen, queues_of}
use Rattle.engine_config.proofs.Setups.{below}
use Rattle.engine_config.proofs.config.Config.controller.Goals as goal

pub returns-then-number-count-clause-bound : goal.returns-then-number-count-clause-bound
returns-then-number-count-clause-bound c =
    let few : c.queue.result.controller < most_controllers = below c.self.inside.limits (controllers_of c.self.inside.queues) (firsts_of c.self.inside.tables.items) (queues_of c.self.inside.queues) c.args.queue.0 (queue_seen c.queue.result) (omega arith) c.queue.ensures c.self.invariant in
    omega arith
