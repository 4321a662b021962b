-- What a scenario's text says in a version: for each line that is not skipped the step with its number and its command, in their order.
use Rattle.std.specs.Prelude.{◌≡◌, ◌≢◌, ◌+◌, ◌==◌, ℕ, Bool, true, false, Option, Some, List, [], ◌∷◌, ◌++◌, length, map, if◌then◌else◌}
use Rattle.std.specs.List.{slice_split}
use Rattle.base.specs.declared.or_memory.OrMemory.{OrMemory}
use Rattle.base.specs.declared.or_memory.OrMemory.TheVariants.{OutOfMemory, Fault}
use Rattle.world_calls.specs.declared.trace.Version.{Version}
use Rattle.scenario.specs.Commands.{Step, command_text}
use Rattle.scenario.specs.declared.reading.FaultyLine.{FaultyLine}
use Rattle.scenario.specs.declared.command.Command.{Command}

-- the lines of a text, which line feeds (10) part
abbrev pub lines_of : List ℕ → List (List ℕ)
lines_of text = slice_split (λ byte. byte == 10) text

-- a line that is empty, or begins with `#` (35)
abbrev pub is_skipped : List ℕ → Bool
is_skipped [] = true
is_skipped (byte ∷ bytes) = byte == 35

-- the lines that are not skipped, each with its number, where the first of all has that number
abbrev pub numbered : ℕ → List (List ℕ) → List (ℕ × Option (List ℕ))
numbered number [] = []
numbered number (line ∷ lines) = if is_skipped line then numbered (number + 1) lines else (number, Some line) ∷ numbered (number + 1) lines

-- the number of a step's line, and the line that its command is spelled by
abbrev pub line_of_step : Version → Step → ℕ × Option (List ℕ)
line_of_step version step = (step.line, command_text version step.command)

-- these steps are what the lines say, the first of which is line 1
abbrev pub Say : Version → List (List ℕ) → List Step → Type 0
Say version lines steps = map (line_of_step version) steps ≡ numbered 1 lines

-- a line that is not skipped, and spells no command
abbrev pub IsFaulty : Version → List ℕ → Type 0
IsFaulty version line = (is_skipped line ≡ false) × ((command : Command) → command_text version command ≢ Some line)

-- The line of that number is the first that is not of the form: those before it say some steps.
pub record IsFaultyLine (version : Version) (text : List ℕ) (number : ℕ) : Type 0 where
  pub front : List (List ℕ)
  pub line : List ℕ
  pub behind : List (List ℕ)
  pub lines : lines_of text ≡ front ++ line ∷ behind
  pub place : number ≡ length front + 1
  pub steps : List Step
  pub before : Say version front steps
  pub faulty : IsFaulty version line

-- P of the faulty line's number, unless memory was refused
abbrev pub IfFault : (ℕ → Type 0) → OrMemory FaultyLine → Type 0
IfFault P OutOfMemory = Unit {0}
IfFault P (Fault fault) = P fault.0
