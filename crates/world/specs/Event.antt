-- What may happen in the world, and what is answered. A call is one event, and so is one instruction of one run.
use Rattle.std.specs.Prelude.{ℕ, ◌==◌, Option, Some, None, if◌then◌else◌}
use Rattle.world_calls.specs.declared.call.Call.{Call}
use Rattle.world_calls.specs.declared.call_answer.CallAnswer.{CallAnswer}
use Rattle.world_calls.specs.declared.call_answer.CallAnswer.TheVariants as answers
use Rattle.ccb.specs.declared.call_refusal.CallRefusal.{CallRefusal}
use Rattle.world.specs.Told.{Told}

-- what one instruction of a run is: private to the run, a call of a helper with what is told of it, or the outermost exit
pub data Instruction : Type 0 where
  private : Instruction
  call : Told → Instruction
  exit : Instruction

pub data Event : Type 0 where
  -- the engine is called
  called : Call → Event
  -- the run of that number executes its next instruction
  executes : (run : ℕ) → Instruction → Event

pub data Reply : Type 0 where
  -- what the call is answered
  replies : CallAnswer → Reply
  -- the run went on, and nobody else saw it
  went_on : Reply
  -- what R0 is after a helper call, or at the exit
  result : (r0 : ℕ) → Reply

-- the call is refused
abbrev pub refused : CallRefusal → Reply
refused refusal = replies (answers.Refused refusal)

-- the instruction of this run that an event is, if it is one
abbrev pub instruction_of : ℕ → Event → Option Instruction
instruction_of run (called its) = None
instruction_of run (executes number instruction) = if number == run then Some instruction else None
