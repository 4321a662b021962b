use Rattle.std.proofs.Common.{ap, arith, length}
use Rattle.scenario.proofs.Few.{few_said}
use Rattle.scenario.proofs.scenario.Scenario.steps.Goals as goal

pub returns-clause-few : goal.returns-clause-few
returns-clause-few c = omega (arith, few_said c.self.inside.text.now c.self.inside.calls.items, ap length c.self.view_is, c.self.told)
