use Rattle.std.proofs.Common.{subst, sym}
use Rattle.helpers.specs.declared.limits.HelperSet.{HelperSet}
use Rattle.world.specs.Lawful.{AreUnder}
use Rattle.std.proofs.Common.{map}
use Rattle.engine_config.specs.Configured.{alone_of, queue_of}
use Rattle.engine_config.proofs.Setups.{alone}
use Rattle.engine_config.proofs.config.Config.new.Goals as goal

pub made-requires-clause-under : goal.made-requires-clause-under
made-requires-clause-under c =
    subst (λ (helpers : HelperSet). AreUnder helpers 0 (map queue_of (map alone_of c.args.queues.items))) (sym c.in-Queues.is) (alone c.args.queues.items)
