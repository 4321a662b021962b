use Rattle.std.proofs.Common.{rules}
use Rattle.host_recovery.proofs.Cutting.{body, no_first_line}
use Rattle.host_recovery.proofs.first_line.first_of_line.Goals as goal

pub returns-else-eq-6 : goal.returns-else-eq-6
unfolding body
returns-else-eq-6 c = no_first_line c.args.line.now c.requires (λ is. search rules) (λ is. search rules) (λ is. search rules) (λ is. search rules) (λ is. search rules) (λ is. search rules)
