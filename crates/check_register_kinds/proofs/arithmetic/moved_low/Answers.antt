use Rattle.check_register_kinds.proofs.Moves.{moves_low}
use Rattle.check_register_kinds.proofs.arithmetic.moved_low.Goals as goal

pub returns-in-Number-clause-means : goal.returns-in-Number-clause-means
returns-in-Number-clause-means c = rw c.in-Number.is (moves_low c.args.op c.requires _ _ _ c.any.ensures c.alu.ensures)
