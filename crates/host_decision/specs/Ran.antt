-- A run of a policy, from what lines say to its end.
use Rattle.std.specs.Prelude.{◌≡◌, ◌⊎◌, ℕ, List, [], ◌∷◌, All, Some}
use Rattle.base.specs.declared.or_memory.OrMemory.{OrMemory}
use Rattle.base.specs.declared.or_memory.OrMemory.TheVariants.{OutOfMemory, Fault}
use Rattle.ccb.specs.Completion.{IsCompletion, Outcome}
use Rattle.world_calls.specs.declared.call.Call.TheVariants.{Complete}
use Rattle.world_calls.specs.declared.call_answer.CallAnswer.TheVariants as answers
use Rattle.world_calls.specs.declared.carried_line.CarriedLine.{CarriedLine}
use Rattle.world_calls.specs.declared.record.Record.{Record}
use Rattle.world_calls.specs.declared.record.Record.TheVariants.{Called, Advance}
use Rattle.world_calls.specs.declared.record.StoppedAt.{StoppedAt}
use Rattle.world.specs.World.{Setup, World}
use Rattle.engine_core.specs.ByNumber.{CannotFollow, IsAdvanceOf, IsBehind, IsHistory, NumberedState}
use Rattle.engine_core.specs.Settings.{setup_over}
use Rattle.engine_succession.specs.FromLines.{IsFirstFault, IsWorldOf}
use Rattle.host_decision.specs.declared.undecided.Undecided.{Undecided}
use Rattle.host_decision.specs.declared.undecided.Undecided.TheVariants.{Lines, Status}

-- The records lead to this engine, from the one world with these lines that an engine of the configuration may take over.
pub record IsLedTo (config : Setup) (lines : List CarriedLine) (records : List Record) (engine : NumberedState) : Type 0 where
  pub world : World
  pub has : IsWorldOf config lines world
  pub setup_is : engine.setup ≡ setup_over config (Some world)
  pub behind : IsBehind records engine

-- the record of a failure for which that run starts, with that freeze, or with none as number 0
abbrev pub failed : Outcome → (run freeze : ℕ) → Record
failed outcome run freeze = Called (answers.Started run freeze) (Complete outcome)

-- no advance of the run can follow
abbrev pub IsAtEnd : NumberedState → ℕ → Type 0
IsAtEnd engine run = (instructions : ℕ) (stop : StoppedAt) (r0 : ℕ) → CannotFollow engine (Advance run instructions stop r0)

-- how many instructions a record is of
abbrev pub instructions_of : Record → ℕ
instructions_of (Called answer call) = 0
instructions_of (Advance run instructions stop r0) = instructions

-- the records of a failure, and of the advances of the run that started
pub record AreOfRun (outcome : Outcome) (run freeze : ℕ) (records : List Record) : Type 0 where
  pub advances : List Record
  pub first : records ≡ failed outcome run freeze ∷ advances
  pub are : All (IsAdvanceOf run) advances

-- From the one world with these lines no run starts for that failure.
pub record NoRunStarts (config : Setup) (lines : List CarriedLine) (outcome : Outcome) : Type 0 where
  pub world : World
  pub has : IsWorldOf config lines world
  pub none : (run freeze : ℕ) → IsHistory (setup_over config (Some world)) (failed outcome run freeze ∷ []) → ⊥

-- why there is no such run: memory was refused, no world has these lines, it is no completion, or no run starts for it
abbrev pub IsUndecided : Setup → List CarriedLine → Outcome → OrMemory Undecided → Type 0
IsUndecided config lines outcome OutOfMemory = Unit {0}
IsUndecided config lines outcome (Fault Lines) = (place : ℕ) × IsFirstFault config lines place
IsUndecided config lines outcome (Fault Status) = (IsCompletion outcome → ⊥) ⊎ NoRunStarts config lines outcome
IsUndecided config lines outcome (Fault fault) = ⊥
