-- What is printed of a failure, and why nothing is.
use Rattle.std.specs.Prelude.{◌≡◌, ◌⊎◌, ◌++◌, ℕ, List, Option, Some, None}
use Rattle.std.specs.Io.KnownBytes.{Appends, Keeps}
use Rattle.base.specs.declared.or_memory.OrMemory.{OrMemory}
use Rattle.base.specs.declared.or_memory.OrMemory.TheVariants.{OutOfMemory, Fault}
use Rattle.world_calls.specs.declared.carried_line.CarriedLine.{CarriedLine}
use Rattle.world.specs.World.{Setup, queue_setup}
use Rattle.show_question.specs.declared.Failure.{Failure}
use Rattle.show_question.specs.declared.Question.{Question}
use Rattle.host_decision.specs.Answered.{IsDecided}
use Rattle.host_decision.specs.Asked.{AreLinesOf, outcome_of}
use Rattle.host_decision.specs.Faults.{IsFault, IsPossible}
use Rattle.host_decision.specs.Ran.{IsUndecided}
use Rattle.host_decision.specs.declared.decided.Decided.{Decided}
use Rattle.host_decision.specs.declared.undecided.Undecided.{Undecided}
use Rattle.show_decision.specs.Words.{IsDecisionText, instructions_text}

-- the text is what is decided of a failure in an engine with these lines
pub record IsTextOf (config : Setup) (lines : List CarriedLine) (failure : Failure) (text : List ℕ) : Type 0 where
  pub decided : Decided
  pub is : IsDecided config lines failure decided
  pub is_text : IsDecisionText decided.decision failure.retries decided.ran.records.items text

-- the last line: what was decided, and how many instructions of the budget of the queue's program were executed
pub record IsLastLine (config : Setup) (failure : Failure) (decided : Decided) (text : List ℕ) : Type 0 where
  pub words : List ℕ
  pub is_text : IsDecisionText decided.decision failure.retries decided.ran.records.items words
  pub text_is : text ≡ words ++ instructions_text decided.ran.instructions (queue_setup config failure.queue.0).budget

-- The output grows by an account, and by the last line of what is decided in an engine in which nothing but that CCB is.
pub record IsTold (config : Setup) (question : Question) (old new : Option (List ℕ)) : Type 0 where
  pub lines : List CarriedLine
  pub are : AreLinesOf config question lines
  pub decided : Decided
  pub is : IsDecided config lines question.failure decided
  pub account : List ℕ
  pub last : List ℕ
  pub is_last : IsLastLine config question.failure decided last
  pub output : Appends old new (account ++ last)

-- why nothing is decided: the question has that fault; or it has none, and an engine with its lines has that one
abbrev pub WhyNot : Setup → Question → Undecided → Type 0
WhyNot config question fault =
    IsFault config question fault
    ⊎ (IsPossible config question × (lines : List CarriedLine) × AreLinesOf config question lines × IsUndecided config lines (outcome_of question.failure) (Fault fault))

-- memory was refused, or that is why
abbrev pub IsUntold : Setup → Question → OrMemory Undecided → Type 0
IsUntold config question OutOfMemory = Unit {0}
IsUntold config question (Fault fault) = WhyNot config question fault

-- it is told; or nothing goes out, and that is why
abbrev pub IsAnswered : Setup → Question → (old new : Option (List ℕ)) → Option Undecided → Type 0
IsAnswered config question old new None = IsTold config question old new
IsAnswered config question old new (Some fault) = WhyNot config question fault × Keeps old new
