-- The steps of a text of which the calls are known.
use Rattle.std.specs.Prelude.{ℕ, ◌+◌, Option, Some, None, List, [], ◌∷◌, length, if◌then◌else◌}
use Rattle.world_calls.specs.declared.call.Call.{Call}
use Rattle.scenario.specs.Commands.{Step, is_drain}
use Rattle.scenario.specs.Said.{is_skipped, lines_of}
use Rattle.scenario.specs.declared.command.Command.{Command}
use Rattle.scenario.specs.declared.command.Command.TheVariants.{Call as calls_for, Drain}
use Rattle.scenario.specs.declared.steps.Step.{Step as Seen}
use denote.Ref.{Bor}

-- the first of these calls is that of the line, and the others are those of the lines after it
abbrev pub with_first : ℕ → (List Call → List Step) → List Call → List Step
with_first number later [] = []
with_first number later (call ∷ calls) = record { line = number; command = calls_for call } ∷ later calls

-- the step of a line that says something, `drain` or else the first of these calls, and those of the lines after it
abbrev pub steps_said : ℕ → List ℕ → (List Call → List Step) → List Call → List Step
steps_said number line later calls = if is_drain line then record { line = number; command = Drain } ∷ later calls else with_first number later calls

-- the steps of these lines, where the first of them has that number
abbrev pub steps_of : ℕ → List (List ℕ) → List Call → List Step
steps_of number [] calls = []
steps_of number (line ∷ lines) calls = if is_skipped line then steps_of (number + 1) lines calls else steps_said number line (steps_of (number + 1) lines) calls

abbrev pub lines_left : Option (Bor (List ℕ)) → List (List ℕ)
lines_left None = []
lines_left (Some text) = lines_of text.now

-- at least as many numbers as there are lines
abbrev pub room_left : Option (Bor (List ℕ)) → ℕ
room_left None = 0
room_left (Some text) = length text.now + 1

abbrev pub command_seen : Option (Bor Call) → Command
command_seen None = Drain
command_seen (Some call) = calls_for call.now

-- a step as it is handed out
abbrev pub step_seen : Seen → Step
step_seen step = record { line = step.line; command = command_seen step.call }
