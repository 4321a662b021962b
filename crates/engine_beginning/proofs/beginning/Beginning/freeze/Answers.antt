use Rattle.std.proofs.Common.{subst, sym, rules}
use Rattle.world.specs.World.{Transport}
use Rattle.engine_beginning.specs.Begun.{KeepsBegun, begun_as}
use Rattle.engine_beginning.proofs.Keeping.{freeze_kept}
use Rattle.engine_beginning.proofs.beginning.Beginning.freeze.Goals as goal

pub invariant_of-self : goal.invariant_of-self
invariant_of-self c =
    subst (λ (t : Transport). KeepsBegun (begun_as c.self.inside.config.now 6 c.self.inside.ccb c.self.inside.freeze c.self.inside.run c.self.inside.opened c.self.inside.table c.self.inside.index t c.self.inside.runs)) (sym c.in-Some.ensures.carried)
    (freeze_kept (begun_as c.self.inside.config.now c.self.inside.after c.self.inside.ccb c.self.inside.freeze c.self.inside.run c.self.inside.opened c.self.inside.table c.self.inside.index c.self.inside.transport c.self.inside.runs) c.args.freeze c.self.invariant (search rules))
