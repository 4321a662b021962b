use Rattle.std.proofs.Common.{sym}
use Rattle.engine_core.proofs.Recording.{opening_count}
use Rattle.engine_core.specs.Settings.{setup_over}
use Rattle.engine_core.proofs.numbered_engine.NumberedEngine.holders.Goals as goal

pub returns-clause-there : goal.returns-clause-there
returns-clause-there c =
    let kept = c.self.invariant.0 in
    rw (← c.self.view_is) (c.holders.ensures.there (setup_over c.self.inside.config.now c.self.inside.over.world) (opening_count (setup_over c.self.inside.config.now c.self.inside.over.world) kept.0 c.self.inside.parts.transport c.self.inside.parts.runs kept.1) (sym c.controllers.ensures.value))
