use Rattle.std.proofs.Common.{sym, ◌∙◌}
use Rattle.engine_core.proofs.Going.{recorded_reached}
use Rattle.engine_core.specs.Settings.{setup_over}
use Rattle.engine_core.proofs.engine.Engine.has_recorded.Goals as goal

pub returns-clause-reached : goal.returns-clause-reached
returns-clause-reached c so =
    recorded_reached (setup_over c.self.inside.config c.self.inside.over.world) c.self.inside.history.records c.self.inside.parts.transport c.self.inside.parts.runs c.args.run.now c.args.segment.now.from c.self.invariant.0
    (rw (← c.number.ensures, ← c.program.ensures, ← c.deref.ensures, ← c.from.ensures.value) (c.admit_run.ensures.admitted.0 (sym c.is_some.ensures ∙ so)))
