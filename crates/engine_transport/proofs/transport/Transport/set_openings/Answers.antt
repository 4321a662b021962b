use Rattle.engine_transport.proofs.Kept.{opened_is}
use Rattle.engine_transport.proofs.transport.Transport.set_openings.Goals as goal

pub returns-clause-openings : goal.returns-clause-openings
returns-clause-openings c = opened_is c.self.inside.ledger c.self.inside.clock c.self.inside.ccbs c.self.inside.queues c.set_openings.new.self c.args.self.now c.args.queue.0 c.args.openings c.self.view_is c.set_openings.ensures
