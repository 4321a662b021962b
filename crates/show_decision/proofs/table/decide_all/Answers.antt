use Rattle.std.proofs.Common.{subst}
use Rattle.show_decision.specs.Table.{IsUntabled}
use Rattle.show_decision.proofs.Written.{keeps_same}
use Rattle.show_decision.proofs.table.decide_all.Goals as goal

pub returns-in-Err-Fault : goal.returns-in-Err-Fault
returns-in-Err-Fault g c =
    (subst (IsUntabled c.args.config.now c.args.question.now) c.in-Err-Fault.field-0-is c.in-Err-Fault.ensures.refused, keeps_same (g.W.Write.contents c.args.out.now))
