-- What is kept of a line while a text is read.
use Rattle.std.specs.Prelude.{◌≡◌, ◌+◌, ℕ, List, [], ◌∷◌, ◌++◌, map, Result, Ok, Err}
use Rattle.base.specs.declared.or_memory.OrMemory.{OrMemory}
use Rattle.world_calls.specs.declared.call.Call.{Call}
use Rattle.world_calls.specs.declared.trace.Version.{Version}
use Rattle.scenario.specs.Said.{IfFault, IsFaulty, line_of_step, numbered}
use Rattle.scenario.specs.Steps.{steps_of}
use Rattle.scenario.specs.declared.command.Command.{Command}
use Rattle.scenario.specs.declared.command.Command.TheVariants as commands
use Rattle.scenario.specs.declared.reading.FaultyLine.{FaultyLine}

-- these calls are all that the line of that number needs for its step, and the step is what the line says
pub record AreOfLine (version : Version) (number : ℕ) (line : List ℕ) (calls : List Call) : Type 0 where
  pub apart : (lines : List (List ℕ)) (others : List Call) → steps_of number (line ∷ lines) (calls ++ others) ≡ steps_of number (line ∷ []) calls ++ steps_of (number + 1) lines others
  pub said : map (line_of_step version) (steps_of number (line ∷ []) calls) ≡ numbered number (line ∷ [])

abbrev pub calls_in : Command → List Call
calls_in (commands.Call call) = call ∷ []
calls_in commands.Drain = []

-- what the line needs is put after the calls
abbrev pub Keeps : {T : Type 0} → Version → ℕ → List ℕ → List Call → Result T (OrMemory FaultyLine) → List Call → Type 0
Keeps version number line old (Ok done) new = (calls : List Call) × (new ≡ old ++ calls) × AreOfLine version number line calls
Keeps version number line old (Err fault) new = IfFault (λ told. (told ≡ number) × IsFaulty version line) fault
