use Rattle.std.proofs.Common.{length}
use Rattle.base.proofs.padded_list.PaddedList.clear.Given as goal

abbrev pub decreases-loop-self : goal.decreases-loop-self
decreases-loop-self g l = length l.self
