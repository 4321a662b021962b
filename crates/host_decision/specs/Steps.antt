-- The steps of a run: its failure, and its advances.
use Rattle.std.specs.Prelude.{◌≡◌, ◌+◌, ◌<◌, ◌^◌, ◌++◌, ℕ, Bool, true, false, List, [], ◌∷◌, Option, Some, None, All, MatchBool, length, sum_by}
use Rattle.base.specs.declared.or_memory.OrMemory.{OrMemory}
use Rattle.base.specs.declared.or_memory.OrMemory.TheVariants.{OutOfMemory, Fault}
use Rattle.ccb.specs.Completion.{Outcome}
use Rattle.world_calls.specs.declared.call_answer.CallAnswer.{CallAnswer}
use Rattle.world_calls.specs.declared.call_answer.CallAnswer.TheVariants.{Started}
use Rattle.world_calls.specs.declared.carried_line.CarriedLine.{CarriedLine}
use Rattle.world_calls.specs.declared.record.Record.{Record}
use Rattle.world.specs.World.{Setup}
use Rattle.engine_core.specs.ByNumber.{CannotFollow, IsAdvanceOf, IsBehind, NumberedState, RecordFollows}
use Rattle.engine_succession.specs.FromLines.{IsFirstFault}
use Rattle.host_decision.specs.Ran.{IsAtEnd, IsLedTo, failed, instructions_of}
use Rattle.host_decision.specs.declared.ran.Ran.{Ran}
use Rattle.host_decision.specs.declared.ran.TheConstants.{MORE_STOPS}
use Rattle.host_decision.specs.declared.undecided.Undecided.{Undecided}
use Rattle.host_decision.specs.declared.undecided.Undecided.TheVariants.{Lines, Status}

-- memory was refused, or no world has these lines
abbrev pub IsUnbegun : Setup → List CarriedLine → OrMemory Undecided → Type 0
IsUnbegun config lines OutOfMemory = Unit {0}
IsUnbegun config lines (Fault Lines) = (place : ℕ) × IsFirstFault config lines place
IsUnbegun config lines (Fault fault) = ⊥

-- memory was refused, or no run starts for that failure in this engine
abbrev pub CannotFail : NumberedState → Outcome → OrMemory Undecided → Type 0
CannotFail engine outcome OutOfMemory = Unit {0}
CannotFail engine outcome (Fault Status) = (run freeze : ℕ) → CannotFollow engine (failed outcome run freeze)
CannotFail engine outcome (Fault fault) = ⊥

-- the run that an answer says has started, with its freeze
abbrev pub started_by : CallAnswer → Option (ℕ × ℕ)
started_by (Started run freeze) = Some (run, freeze)
started_by answer = None

abbrev pub started_in : Option CallAnswer → Option (ℕ × ℕ)
started_in None = None
started_in (Some answer) = started_by answer

-- nothing was recorded, and the engine begins with the lines
pub record IsFresh (config : Setup) (lines : List CarriedLine) (start : Ran) : Type 0 where
  pub led : IsLedTo config lines [] start.engine
  pub none : start.records.items ≡ []
  pub instructions : start.instructions ≡ 0

-- One record more: what else there is stays.
pub record Keeps (old : Ran) (told : Record) (new : Ran) : Type 0 where
  pub records : new.records.items ≡ old.records.items ++ told ∷ []
  pub engine : new.engine ≡ old.engine
  pub run : new.run ≡ old.run
  pub freeze : new.freeze ≡ old.freeze
  pub instructions : new.instructions ≡ old.instructions

-- a run started, and its record is the last one
pub record HasFailed (old : Ran) (outcome : Outcome) (new : Ran) : Type 0 where
  pub follows : RecordFollows old.engine (failed outcome new.run new.freeze) new.engine
  pub setup_is : new.engine.setup ≡ old.engine.setup
  pub records : new.records.items ≡ old.records.items ++ failed outcome new.run new.freeze ∷ []
  pub instructions : new.instructions ≡ old.instructions

-- the run went on to its next stop, and that record is the last one
pub record OneMore (old new : Ran) : Type 0 where
  pub told : Record
  pub is : IsAdvanceOf old.run told
  pub follows : RecordFollows old.engine told new.engine
  pub setup_is : new.engine.setup ≡ old.engine.setup
  pub run : new.run ≡ old.run
  pub freeze : new.freeze ≡ old.freeze
  pub records : new.records.items ≡ old.records.items ++ told ∷ []
  pub instructions : new.instructions ≡ old.instructions + instructions_of told
  pub bound : instructions_of told < 2 ^ 32

-- the run was at its end, and nothing changed
pub record NoMore (old new : Ran) : Type 0 where
  pub ended : IsAtEnd new.engine old.run
  pub engine : new.engine ≡ old.engine
  pub run : new.run ≡ old.run
  pub freeze : new.freeze ≡ old.freeze
  pub records : new.records.items ≡ old.records.items
  pub instructions : new.instructions ≡ old.instructions

abbrev pub StepsOn : Bool → Ran → Ran → Type 0
StepsOn true old new = NoMore old new
StepsOn false old new = OneMore old new

-- these records lead from one engine to the other
abbrev pub Lead : Ran → List Record → Ran → Type 0
Lead old more new = (records : List Record) → IsBehind records old.engine → IsBehind (records ++ more) new.engine

-- the run went on by these advances
pub record RanBy (advances : List Record) (old new : Ran) : Type 0 where
  pub are : All (IsAdvanceOf old.run) advances
  pub lead : Lead old advances new
  pub setup_is : new.engine.setup ≡ old.engine.setup
  pub run : new.run ≡ old.run
  pub freeze : new.freeze ≡ old.freeze
  pub records : new.records.items ≡ old.records.items ++ advances
  pub instructions : new.instructions ≡ old.instructions + sum_by instructions_of advances

-- to its end, or by more advances than a run has
pub record RanOn (ended : Bool) (old new : Ran) : Type 0 where
  pub advances : List Record
  pub ran_by : RanBy advances old new
  pub end_is : MatchBool ended (IsAtEnd new.engine old.run) (length advances ≡ MORE_STOPS)
