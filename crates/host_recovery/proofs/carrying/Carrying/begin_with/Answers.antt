use Rattle.std.proofs.Common.{◌≡◌, Some, is_some, ap, refl, subst}
use Rattle.engine_succession.specs.Stepwise.{StepwiseState, TakesLine}
use Rattle.replay.specs.declared.fault.ReplayFault.TheVariants.{Carried}
use Rattle.host_recovery.specs.Carries.{CarryingState}
use Rattle.host_recovery.proofs.Leading.{none_of}
use Rattle.host_recovery.proofs.LinesLeading.{stops_there}
use Rattle.host_recovery.proofs.carrying.Carrying.begin_with.Goals as goal

pub returns-clause-goes_on : goal.returns-clause-goes_on
returns-clause-goes_on c = λ config lines counted leads.
    let same = ap (λ (s : CarryingState). is_some s.fault) c.self.view_is in
    let count = ap (λ (s : CarryingState). s.count) c.self.view_is in
    let beginning : c.self.inside.beginning ≡ c.args.self.now.beginning = cc (ap (λ (s : CarryingState). s.beginning) c.self.view_is) in
    let takes = subst (λ (b : StepwiseState). TakesLine b c.args.line.now c.in_ok-take.field-0 c.take.new.self) beginning c.in_ok-take.ensures.takes in
    stops_there config c.args.self.now.version lines c.args.line.now c.args.self.now.fault (Some (Carried c.self.inside.count)) c.args.self.now.beginning c.take.new.self c.take.new.self c.in_ok-take.field-0 c.self.inside.count
    (none_of c.args.self.now.fault (cc (same, c.is_some.ensures, c.if-is_some.false))) c.if-branch.false takes refl (cc (count, counted)) leads
