use Rattle.host_embedding.proofs.Beginning.{recorded, same as knows_same}
use Rattle.host_embedding.proofs.Courses.{called as keeps_called, same as keeps_same}
use Rattle.host_embedding.proofs.Guests.{same, stay}
use Rattle.host_embedding.proofs.engine_handle.EngineHandle.park.Goals as goal
use Rattle.host_embedding.proofs.engine_handle.EngineHandle.park.Goals.{in-Ok, in-Err}

pub invariant_of-self : goal.invariant_of-self
invariant_of-self c = elim c.match-park.branch [
  | in-Ok w ↦ (
    stay c.self.inside.engine c.park.new.self _ _ c.self.inside.tokens.items c.self.invariant.0 tt w.in-Ok.ensures.parked c.park.ensures.run,
    recorded c.self.inside.engine c.park.new.self _ c.self.inside.is_continued c.self.inside.lines.items c.self.invariant.1 w.in-Ok.ensures.parked,
    keeps_called c.self.inside.engine c.park.new.self _ _ c.self.inside.fates.items c.self.invariant.2 w.in-Ok.ensures.parked,
  )
  | in-Err w ↦ (
    same c.self.inside.engine c.park.new.self c.self.inside.tokens.items c.self.invariant.0 w.in-Err.ensures.back.1,
    knows_same c.self.inside.engine c.park.new.self c.self.inside.is_continued c.self.inside.lines.items c.self.invariant.1 w.in-Err.ensures.back.1,
    keeps_same c.self.inside.engine c.park.new.self c.self.inside.fates.items c.self.invariant.2 w.in-Err.ensures.back.1,
  )
]
