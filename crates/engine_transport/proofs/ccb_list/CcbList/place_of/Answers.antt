use Rattle.engine_transport.proofs.Listed.{place_found, not_there_if}
use Rattle.engine_transport.proofs.ccb_list.CcbList.place_of.Goals as goal

pub returns-clause-found : goal.returns-clause-found
returns-clause-found c =
    rw (← c.self.view_is) (place_found c.self.inside.ccbs c.self.inside.greatest c.self.inside.active c.args.number.0 c.place_of.result c.self.invariant c.place_of.ensures.found)

pub returns-clause-none : goal.returns-clause-none
returns-clause-none c =
    rw (← c.self.view_is) (not_there_if c.self.inside.ccbs c.self.inside.greatest c.self.inside.active c.args.number.0 c.place_of.result c.self.invariant c.place_of.ensures.none)
