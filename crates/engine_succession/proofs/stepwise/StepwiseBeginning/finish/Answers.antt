use Rattle.std.proofs.Common.{◌≡◌, false, true, refl, subst, sym}
use Rattle.engine_succession.specs.Stepwise.{HasBegun}
use Rattle.engine_succession.proofs.OneByOne.{begins_so, few_lines}
use Rattle.engine_succession.proofs.stepwise.StepwiseBeginning.finish.Goals as goal

pub returns-in-Some-clause-begins : goal.returns-in-Some-clause-begins
returns-in-Some-clause-begins c = λ setup lines has.
    begins_so c.self.inside.config.now setup lines (record { begun = c.self.inside.beginning; guests = c.self.inside.guests.items }) c.in-Some.transport c.in-Some.runs c.begin.result c.self.invariant
    (subst (HasBegun setup lines) (sym c.self.view_is) has) (c.in-Some.ensures.complete.0 refl) c.in-Some.ensures.parts.0 c.in-Some.ensures.parts.1 c.begin.ensures

pub returns-in-None-clause-few : goal.returns-in-None-clause-few
returns-in-None-clause-few c = λ setup lines has.
    few_lines setup lines (record { begun = c.self.inside.beginning; guests = c.self.inside.guests.items }) (subst (HasBegun setup lines) (sym c.self.view_is) has)
    (λ complete. let bad : false ≡ true = c.in-None.ensures.complete.1 complete in cc)
