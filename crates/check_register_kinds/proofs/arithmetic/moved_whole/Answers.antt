use Rattle.std.proofs.Common.{rules}
use Rattle.check_register_kinds.specs.Kinds.{IsWritten}
use Rattle.check_register_kinds.proofs.Moves.{moves_whole}
use Rattle.check_register_kinds.proofs.arithmetic.moved_whole.Goals as goal

pub returns-then-is_written-clause-means : goal.returns-then-is_written-clause-means
returns-then-is_written-clause-means c =
    let written : IsWritten c.args.second = search rules in
    moves_whole c.args.op c.requires c.args.second written
