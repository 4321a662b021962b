use Rattle.std.proofs.Common.{subst, sym, ◌∙◌, arith}
use Rattle.world.specs.World.{Transport}
use Rattle.engine_beginning.specs.Begun.{KeepsBegun, begun_as}
use Rattle.engine_beginning.proofs.Keeping.{ccb_kept}
use Rattle.engine_beginning.proofs.beginning.Beginning.ccb.Goals as goal

pub invariant_of-self-in-Ok : goal.invariant_of-self-in-Ok
invariant_of-self-in-Ok c =
    subst (λ (t : Transport). KeepsBegun (begun_as c.self.inside.config.now 5 c.self.inside.ccb c.self.inside.freeze c.self.inside.run c.self.inside.opened c.self.inside.table c.self.inside.index t c.self.inside.runs)) (sym c.in-Ok.ensures.carried)
    (ccb_kept (begun_as c.self.inside.config.now c.self.inside.after c.self.inside.ccb c.self.inside.freeze c.self.inside.run c.self.inside.opened c.self.inside.table c.self.inside.index c.self.inside.transport c.self.inside.runs) c.args.ccb.now c.self.invariant (
      (omega (arith, c.if-self-queues.false, c.queues.ensures.value), omega (arith, c.if-self-gt-CCB.false)),
      (omega (arith, c.if-ccb-greatest_ccb.false, c.greatest_ccb.ensures), c.if-ccb-self.false),
      sym c.in-Ok.ensures.fault,
      sym c.has_fit_words.ensures ∙ c.if-not-has_fit_words.false,
    ))
