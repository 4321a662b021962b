use Rattle.std.proofs.Common.{refl, ap, ◌∙◌}
use Rattle.scenario.specs.Steps.{lines_left}
use Rattle.scenario.proofs.SoFar.{cut, uncut}
use Rattle.scenario.proofs.steps.Steps.next_line.Goals as goal

pub returns-in-Some-clause-next : goal.returns-in-Some-clause-next
returns-in-Some-clause-next c = (ap lines_left c.in_ok-text.was ∙ cut c.in_ok-text.text.now c.in-Some.line c.in-Some.behind c.in-Some.ensures.cases, refl, refl)

pub returns-in-None-clause-next : goal.returns-in-None-clause-next
returns-in-None-clause-next c = (ap lines_left c.in_ok-text.was ∙ uncut c.in_ok-text.text.now c.in-None.ensures.cases, refl, refl)
