-- Why nothing is told.
use Rattle.std.proofs.Common.{List, inl, inr}
use Rattle.base.specs.declared.or_memory.OrMemory.{OrMemory}
use Rattle.base.specs.declared.or_memory.OrMemory.TheVariants.{OutOfMemory, Fault}
use Rattle.world_calls.specs.declared.carried_line.CarriedLine.{CarriedLine}
use Rattle.world.specs.World.{Setup}
use Rattle.show_question.specs.declared.Question.{Question}
use Rattle.host_decision.specs.Asked.{AreLinesOf, outcome_of}
use Rattle.host_decision.specs.Faults.{IsPossible, IsRefused}
use Rattle.host_decision.specs.Ran.{IsUndecided}
use Rattle.host_decision.specs.declared.undecided.Undecided.{Undecided}
use Rattle.show_decision.specs.Told.{IsUntold}

-- the question has the fault
pub refused : (config : Setup) (question : Question) (error : OrMemory Undecided) → IsRefused config question error → IsUntold config question error
refused config question OutOfMemory is = tt
refused config question (Fault fault) is = inl is

-- or it has none, and an engine with its lines has it
pub undecided : (config : Setup) (question : Question) (lines : List CarriedLine) (error : OrMemory Undecided) → IsPossible config question → AreLinesOf config question lines
    → IsUndecided config lines (outcome_of question.failure) error → IsUntold config question error
undecided config question lines OutOfMemory possible are is = tt
undecided config question lines (Fault fault) possible are is = inr (possible, lines, are, is)
