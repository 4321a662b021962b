use Rattle.std.proofs.Common.{◌≡◌}
use Rattle.std.specs.Prelude.{filter, slice_get}
use Rattle.scenario.specs.Left.{steps_left}
use Rattle.cli_commands.specs.Refusals.{asks}
use Rattle.cli_commands.proofs.refusals.line_of.Given as goal

abbrev pub invariant-loop-step : goal.invariant-loop-step
invariant-loop-step l = slice_get (filter (asks l.call) (steps_left l.step-iterator)) l.left ≡ slice_get (filter (asks l.call) l.scenario) l.turn
