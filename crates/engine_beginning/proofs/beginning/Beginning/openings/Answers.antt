use Rattle.std.proofs.Common.{◌+◌, subst, sym, arith}
use Rattle.world.specs.World.{Transport}
use Rattle.engine_beginning.specs.Begun.{KeepsBegun, begun_as}
use Rattle.engine_beginning.proofs.Keeping.{openings_kept}
use Rattle.engine_beginning.proofs.beginning.Beginning.openings.Goals as goal

pub invariant_of-self : goal.invariant_of-self
invariant_of-self c =
    subst (λ (t : Transport). KeepsBegun (begun_as c.self.inside.config.now 3 c.self.inside.ccb c.self.inside.freeze c.self.inside.run (c.args.queue + 1) c.self.inside.table c.self.inside.index t c.self.inside.runs)) (sym c.set_openings.ensures.openings)
    (openings_kept (begun_as c.self.inside.config.now c.self.inside.after c.self.inside.ccb c.self.inside.freeze c.self.inside.run c.self.inside.opened c.self.inside.table c.self.inside.index c.self.inside.transport c.self.inside.runs) c.args.queue c.args.openings c.self.invariant (
      (omega (arith, c.if-self-lt-CLOCK.false), omega (arith, c.if-self-gt-OPENINGS.false)),
      (c.if-queue-self.false, omega (arith, c.if-queue-queues.false, c.queues.ensures.value)),
      (omega (arith, c.if-openings-eq0.false), omega (arith, c.if-openings-gt-MAX_OPENINGS.false)),
    ))
