use Rattle.std.proofs.Common.{sym, subst, arith}
use Rattle.engine_core.specs.EngineState.{EngineState}
use Rattle.engine_core.specs.Stepping.{IsOutAt}
use Rattle.engine_core.specs.Settings.{setup_over}
use Rattle.engine_core.proofs.Parking.{known_run}
use Rattle.engine_core.proofs.engine.Engine.budget_at.Goals as goal

pub program-requires : goal.program-requires
program-requires c =
    let out : IsOutAt c.self.inside.parts.runs.runs.list c.args.place = subst (λ (s : EngineState). IsOutAt s.world.runs.list c.args.place) (sym c.self.view_is) c.requires in
    let known = known_run (setup_over c.self.inside.config c.self.inside.over.world) c.self.inside.history.records c.self.inside.parts.transport c.self.inside.parts.runs out.it.number out.it c.self.invariant.0 out.found in
    omega (arith, known.queue, c.queue.ensures out.it out.there)
