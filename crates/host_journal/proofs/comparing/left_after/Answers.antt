use Rattle.std.proofs.Common.{arith}
use Rattle.host_journal.proofs.Matching.{other_long, short_after}
use Rattle.host_journal.proofs.comparing.left_after.Goals as goal

pub returns-then-piece-left : goal.returns-then-piece-left
returns-then-piece-left c = short_after c.args.left.now c.args.piece.now c.without_front.result c.if-piece-left.true c.without_front.ensures

pub returns-in-None : goal.returns-in-None
returns-in-None c = other_long c.args.left.now c.args.piece.now (omega (arith, c.if-piece-left.false)) c.in-None.ensures
