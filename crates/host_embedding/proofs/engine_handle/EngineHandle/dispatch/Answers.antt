use Rattle.host_embedding.proofs.Beginning.{faulted, recorded}
use Rattle.host_embedding.proofs.Courses.{called as keeps_called, faulted as keeps_faulted}
use Rattle.host_embedding.proofs.Guests.{stay, stay_faulted}
use Rattle.host_embedding.proofs.engine_handle.EngineHandle.dispatch.Goals as goal
use Rattle.host_embedding.proofs.engine_handle.EngineHandle.dispatch.Goals.{in-Ok, in-Err}

pub invariant_of-self : goal.invariant_of-self
invariant_of-self c = elim c.match-dispatch.branch [
  | in-Ok w ↦ (
    stay c.self.inside.engine c.dispatch.new.self _ _ c.self.inside.tokens.items c.self.invariant.0 tt w.in-Ok.ensures.answered c.dispatch.ensures.run,
    recorded c.self.inside.engine c.dispatch.new.self _ c.self.inside.is_continued c.self.inside.lines.items c.self.invariant.1 w.in-Ok.ensures.answered,
    keeps_called c.self.inside.engine c.dispatch.new.self _ _ c.self.inside.fates.items c.self.invariant.2 w.in-Ok.ensures.answered,
  )
  | in-Err w ↦ (
    stay_faulted c.self.inside.engine c.dispatch.new.self _ _ c.self.inside.tokens.items c.self.invariant.0 tt w.in-Err.ensures.fault c.dispatch.ensures.run,
    faulted c.self.inside.engine c.dispatch.new.self _ _ c.self.inside.is_continued c.self.inside.lines.items c.self.invariant.1 w.in-Err.ensures.fault,
    keeps_faulted c.self.inside.engine c.dispatch.new.self _ _ c.self.inside.fates.items c.self.invariant.2 w.in-Err.ensures.fault,
  )
]
