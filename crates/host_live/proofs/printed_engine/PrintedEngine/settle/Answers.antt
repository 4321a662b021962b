use Rattle.host_live.proofs.Growing.{by_printed}
use Rattle.host_live.proofs.Underway.{underway_still}
use Rattle.host_live.proofs.printed_engine.PrintedEngine.settle.Goals as goal

pub invariant_of-self : goal.invariant_of-self
invariant_of-self g c = underway_still c.self.inside.engine c.self.inside.printed _ c.self.invariant c.settle.ensures.printed.version

pub returns-clause-printed : goal.returns-clause-printed
returns-clause-printed g c = rw (← c.self.view_is) (by_printed c.self.inside.engine c.self.inside.metrics c.self.inside.printed c.settle.new.self _ _ _ _ c.settle.ensures.printed)
