use Rattle.std.proofs.Common.{vec_len}
use Rattle.test_units.proofs.ledger_calls.forfeit_all.Given as goal

abbrev pub decreases-loop-token : goal.decreases-loop-token
decreases-loop-token l = vec_len l.tokens
