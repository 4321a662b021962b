-- What the answers of a completion and of an advance say.
use Rattle.std.specs.Prelude.{◌≡◌, ℕ, ◌≤◌}
use Rattle.helpers.specs.declared.request.Request.{Request}
use Rattle.helpers.specs.declared.request.Arguments.{Arguments}
use Rattle.helpers.specs.declared.columns.Tells.{Tells}
use Rattle.helpers.specs.declared.columns.Tells.TheVariants as tells
use Rattle.helpers.specs.Table.{row_of}
use Rattle.bpf_semantics.specs.declared.stop.Stop.{Stop}
use Rattle.bpf_semantics.specs.declared.stop.Stop.TheVariants.{Helper as at_helper, Exit as at_exit}
use Rattle.interpreter.specs.Segments.{SegmentState}
use Rattle.world_calls.specs.declared.call_answer.CallAnswer.{CallAnswer}
use Rattle.world_calls.specs.declared.call_answer.CallAnswer.TheVariants as answers
use Rattle.world_calls.specs.declared.record.StoppedAt.{StoppedAt}
use Rattle.world_calls.specs.declared.record.StoppedAt.TheVariants.{Helper, Trace, Finish, Exit}
use Rattle.world.specs.Told.{Told, plain, traces, finishes, told_of}
use Rattle.world.specs.World.{Setup, World}
use Rattle.engine_core.specs.declared.answers.CompleteAnswer.{CompleteAnswer}
use Rattle.engine_core.specs.declared.answers.CompleteAnswer.TheVariants.{Done, Started}
use Rattle.engine_core.specs.declared.answers.AdvanceAnswer.{AdvanceAnswer}
use Rattle.engine_core.specs.declared.answers.AdvanceAnswer.TheVariants.{Goes, Ended}
use Rattle.engine_core.specs.RunState.{RunState, IsOut, IsOutUnder}

-- what is recorded of an answered completion
abbrev pub completed_of : CompleteAnswer → CallAnswer
completed_of Done = answers.Done
completed_of (Started run freeze) = answers.Started run.number freeze

-- the run that a completion started is out, with the recorded program
abbrev pub StartsOut : Setup → World → CompleteAnswer → Type 0
StartsOut setup world Done = Unit {0}
StartsOut setup world (Started run freeze) = IsOutUnder setup world run

-- what is recorded of a call of which this is told
abbrev pub recorded : Told → StoppedAt
recorded (plain helper) = Helper helper
recorded (traces helper bytes) = Trace helper bytes
recorded (finishes helper code) = Finish helper code

-- the helper call or exit at which a run stopped
abbrev pub stopped_at : Stop → StoppedAt
stopped_at (at_helper request) = recorded (told_of request)
stopped_at (at_exit r0) = Exit

-- a status code that is recorded is one of the 64 that there are
abbrev pub IsCode : Tells → Arguments → Type 0
IsCode tells.Name arguments = Unit {0}
IsCode tells.Bytes arguments = Unit {0}
IsCode tells.Code arguments = arguments.first ≤ 63

abbrev pub NamesCode : Request → Type 0
NamesCode request = IsCode (row_of request.helper).tells request.arguments

abbrev pub StopsByCode : Stop → Type 0
StopsByCode (at_helper request) = NamesCode request
StopsByCode (at_exit r0) = Unit {0}

-- R0 after the stop
abbrev pub r0_of : AdvanceAnswer → ℕ
r0_of (Goes run r0) = r0
r0_of (Ended r0) = r0

-- The same run goes on and is out, with the recorded program if it came with that; or it ended at its exit.
abbrev pub GoesOrEnds : Setup → World → World → RunState → SegmentState → AdvanceAnswer → Type 0
GoesOrEnds setup before after run segment (Goes again r0) =
    (again.number ≡ run.number) × (again.program ≡ run.program) × IsOut after again
    × (IsOutUnder setup before run → IsOutUnder setup after again)
GoesOrEnds setup before after run segment (Ended r0) = segment.stop ≡ at_exit r0
