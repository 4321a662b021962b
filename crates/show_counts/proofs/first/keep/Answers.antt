use Rattle.std.proofs.Common.{arith}
use Rattle.std.proofs.lemmas.Grind.{common_steps}
use Rattle.show_counts.specs.Columns.{at}
use Rattle.show_counts.proofs.first.keep.Goals as goal

pub returns-in_ok-insert : goal.returns-in_ok-insert
unfolding at
returns-in_ok-insert c = λ other. grind (arith, common_steps)
