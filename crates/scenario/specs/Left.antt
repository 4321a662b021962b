-- The steps that are left of a walk over them.
use Rattle.std.specs.Prelude.{List}
use Rattle.scenario.specs.Commands.{Step}
use Rattle.scenario.specs.Steps.{lines_left, steps_of}
use Rattle.scenario.specs.declared.steps.Steps.{Steps}

abbrev pub steps_left : Steps → List Step
steps_left steps = steps_of steps.line (lines_left steps.rest) steps.calls.now
