use Rattle.std.proofs.Common.{◌≡◌, None, Some, ap, subst, sym}
use Rattle.engine_succession.specs.FromLines.{BeginsNumbered}
use Rattle.engine_succession.specs.Stepwise.{HasBegun}
use Rattle.host_recovery.specs.Carries.{CarryingState}
use Rattle.host_recovery.proofs.LinesLeading.{begins_with, fault_begins}
use Rattle.host_recovery.proofs.carrying.Carrying.finish.Goals as goal

pub returns-in-Some-clause-leads : goal.returns-in-Some-clause-leads
returns-in-Some-clause-leads c =
    let fault : c.args.self.fault ≡ Some c.in-Some.fault = cc (ap (λ (s : CarryingState). s.fault) c.self.view_is, c.in-Some.is) in
    fault_begins c.args.self c.in-Some.fault c.at_fault.result fault c.at_fault.ensures.fault

pub returns-in-Some-finish-clause-leads : goal.returns-in-Some-finish-clause-leads
returns-in-Some-finish-clause-leads c = λ config lines counted leads.
    let none : c.args.self.fault ≡ None = cc (ap (λ (s : CarryingState). s.fault) c.self.view_is, c.in-None.is) in
    let beginning : c.args.self.beginning ≡ c.self.inside.beginning = cc (ap (λ (s : CarryingState). s.beginning) c.self.view_is) in
    begins_with config c.args.self.version lines c.args.self.fault c.of.result.fault c.args.self.beginning c.of.result.engine none c.of.ensures.engine.1
    (λ has. subst (BeginsNumbered config lines) (sym c.of.ensures.engine.0) (c.in-Some-finish.ensures.begins config lines (subst (HasBegun config lines) beginning has))) leads
