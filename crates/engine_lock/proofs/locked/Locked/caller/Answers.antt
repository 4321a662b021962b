use Rattle.std.proofs.Common.{sym, subst}
use Rattle.engine_lock.specs.Sharing.{IsNewCaller}
use Rattle.engine_lock.proofs.Histories.{legal_since, new_caller_is}
use Rattle.engine_lock.proofs.locked.Locked.caller.Goals as goal

pub returns-clause-caller : goal.returns-clause-caller
returns-clause-caller g c =
    subst (IsNewCaller g.B.Origin.setup g.B.Origin.begun) (sym c.caller-part.ensures.caller)
    (new_caller_is g.B.Origin.setup g.B.Origin.begun c.self.inside.keeper (legal_since g.B.Origin.setup g.B.Origin.begun c.self.inside.book.total c.self.inside.engine c.self.inside.keeper.history c.self.invariant.0 c.self.invariant.4) c.self.invariant.6)
