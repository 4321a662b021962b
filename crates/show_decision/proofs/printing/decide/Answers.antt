use Rattle.std.proofs.Common.{subst, sym}
use Rattle.show_decision.specs.Told.{IsUntold, WhyNot}
use Rattle.show_decision.proofs.Written.{keeps_same}
use Rattle.show_decision.proofs.printing.decide.Goals as goal

pub returns-in-Err-Fault : goal.returns-in-Err-Fault
returns-in-Err-Fault g c = (
  subst (WhyNot c.args.config.now c.args.question.now) (sym c.in-Err-Fault.fault-is) (subst (IsUntold c.args.config.now c.args.question.now) c.in-Err-Fault.field-0-is c.in-Err-Fault.ensures.refused),
  keeps_same (g.W.Write.contents c.args.out.now),
)
