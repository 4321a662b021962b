use Rattle.std.proofs.Common.{sym, subst}
use Rattle.engine_lock.specs.Sharing.{IsNewWatch}
use Rattle.engine_lock.proofs.Histories.{legal_since, new_watch_is}
use Rattle.engine_lock.proofs.locked.Locked.watch.Goals as goal

pub returns-clause-watch : goal.returns-clause-watch
returns-clause-watch g c =
    subst (IsNewWatch g.B.Origin.setup g.B.Origin.begun) (sym c.watch.ensures.watch)
    (new_watch_is g.B.Origin.setup g.B.Origin.begun c.self.inside.keeper (legal_since g.B.Origin.setup g.B.Origin.begun c.self.inside.book.total c.self.inside.engine c.self.inside.keeper.history c.self.invariant.0 c.self.invariant.4) c.self.invariant.6)
