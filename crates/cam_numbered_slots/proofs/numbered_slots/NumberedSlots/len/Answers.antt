use Rattle.std.proofs.Common.{arith}
use Rattle.cam_numbered_slots.proofs.Kept.{values_count}
use Rattle.cam_numbered_slots.proofs.numbered_slots.NumberedSlots.len.Goals as goal

pub returns-clause-values : goal.returns-clause-values
returns-clause-values g c = rw (← c.self.view_is) (omega (arith, c.len.ensures, values_count c.self.inside.index c.self.inside.slots c.self.inside.free c.self.invariant))
