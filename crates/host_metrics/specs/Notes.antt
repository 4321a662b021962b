-- A record that an engine makes, with what the engine had before it; and what of it is counted.
use Rattle.std.specs.Prelude.{◌≡◌, ℕ, ◌+◌, ◌*◌, ◌-◌, ◌<◌, ◌==◌, ◌&&◌, nat_lt, Bool, true, false, List, Option, Some, None, length, slice_index_or, if◌then◌else◌}
use Rattle.std.specs.Option.{option_map}
use Rattle.ccb.specs.Status.{code_of}
use Rattle.ccb.specs.Places.{device}
use Rattle.ccb.specs.declared.place.Place.TheVariants.{Controller}
use Rattle.ccb.specs.CallRefusalText.{row_of}
use Rattle.freeze_ledger.specs.Freezes.{frozen}
use Rattle.helpers.specs.declared.table.Helper.{Helper as TheHelper}
use Rattle.helpers.specs.declared.table.Helper.TheVariants.{Requeue}
use Rattle.world.specs.World.{Runs, Transport}
use Rattle.world.specs.Lookups.{ccb_of, run_of}
use Rattle.world_calls.specs.declared.call.Call.{Call}
use Rattle.world_calls.specs.declared.call.Call.TheVariants.{Clock, Complete, Dispatch, Submit}
use Rattle.world_calls.specs.declared.call_answer.CallAnswer.{CallAnswer}
use Rattle.world_calls.specs.declared.call_answer.CallAnswer.TheVariants.{Advised, Ccb, Done, Refused, Removed, Started}
use Rattle.world_calls.specs.declared.record.Record.{Record}
use Rattle.world_calls.specs.declared.record.Record.TheVariants.{Advance, Called}
use Rattle.world_calls.specs.declared.record.StoppedAt.{StoppedAt}
use Rattle.world_calls.specs.declared.record.StoppedAt.TheVariants.{Finish, Helper}
use Rattle.host_metrics.specs.declared.before.Before.{Before}
use Rattle.host_metrics.specs.declared.before.Elapsing.{Elapsing}
use Rattle.host_metrics.specs.declared.told.TheConstants.{CODES}

-- a record, and the CCBs, queues, freezes and runs before it
pub record Note : Type 0 where
  pub transport : Transport
  pub runs : Runs
  pub told : Record

-- ---- of which queue it is

-- that of a call: the one that it names, or that of the CCB that it names
abbrev pub queue_called : Transport → Call → Option ℕ
queue_called transport (Submit queue priority retries class) = Some queue.0
queue_called transport (Dispatch queue) = Some queue.0
queue_called transport (Complete outcome) = option_map (λ live. live.ccb.queue.0) (ccb_of outcome.ccb.0 transport.live)
queue_called transport call = None

-- that of a run
abbrev pub queue_running : Runs → ℕ → Option ℕ
queue_running runs run = option_map (λ it. it.queue) (run_of run runs.list)

abbrev pub queue_told : Transport → Runs → Record → Option ℕ
queue_told transport runs (Called answer call) = queue_called transport call
queue_told transport runs (Advance run instructions stop r0) = queue_running runs run

abbrev pub queue_of : Note → Option ℕ
queue_of note = queue_told note.transport note.runs note.told

-- ---- what it tells

abbrev pub is_ccb : CallAnswer → Bool
is_ccb (Ccb number) = true
is_ccb answer = false

abbrev pub is_begun : CallAnswer → Bool
is_begun (Ccb number) = true
is_begun (Advised number advice) = true
is_begun answer = false

abbrev pub is_started : CallAnswer → Bool
is_started (Started run freeze) = true
is_started answer = false

abbrev pub is_completed : CallAnswer → Bool
is_completed Done = true
is_completed (Started run freeze) = true
is_completed answer = false

abbrev pub is_submitted : CallAnswer → Call → Bool
is_submitted answer (Submit queue priority retries class) = is_ccb answer
is_submitted answer call = false

abbrev pub is_dispatched : CallAnswer → Call → Bool
is_dispatched answer (Dispatch queue) = is_begun answer
is_dispatched answer call = false

abbrev pub is_failed : CallAnswer → Call → Bool
is_failed answer (Complete outcome) = is_started answer
is_failed answer call = false

-- a submission that was answered by a CCB
abbrev pub is_submission : Record → Bool
is_submission (Called answer call) = is_submitted answer call
is_submission (Advance run instructions stop r0) = false

-- a start that was answered by a CCB, with its advice or without one
abbrev pub is_start : Record → Bool
is_start (Called answer call) = is_dispatched answer call
is_start (Advance run instructions stop r0) = false

-- a completion that started a run
abbrev pub is_recovery : Record → Bool
is_recovery (Called answer call) = is_failed answer call
is_recovery (Advance run instructions stop r0) = false

abbrev pub is_helper_requeue : TheHelper → Bool
is_helper_requeue Requeue = true
is_helper_requeue helper = false

abbrev pub is_requeue_at : StoppedAt → Bool
is_requeue_at (Helper helper) = is_helper_requeue helper
is_requeue_at stop = false

-- a call of the helper that makes the run's CCB wait again
abbrev pub is_requeue : Record → Bool
is_requeue (Called answer call) = false
is_requeue (Advance run instructions stop r0) = is_requeue_at stop

abbrev pub if_so : Bool → ℕ → Option ℕ
if_so is_so number = if is_so then Some number else None

abbrev pub completed_in : CallAnswer → Call → Option ℕ
completed_in answer (Complete outcome) = if_so (is_completed answer) (code_of outcome.status)
completed_in answer call = None

-- of a completion that was answered by its end or by a run: the code of the status
abbrev pub code_completed : Record → Option ℕ
code_completed (Called answer call) = completed_in answer call
code_completed (Advance run instructions stop r0) = None

abbrev pub code_at : StoppedAt → Option ℕ
code_at (Finish helper code) = Some code
code_at stop = None

-- of a call of the helper that finishes the run's CCB: the final code
abbrev pub code_finished : Record → Option ℕ
code_finished (Called answer call) = None
code_finished (Advance run instructions stop r0) = code_at stop

abbrev pub refusal_in : CallAnswer → Option ℕ
refusal_in (Refused refusal) = Some (row_of refusal).number
refusal_in answer = None

-- the number of the refusal by which a call was answered
abbrev pub refusal_told : Record → Option ℕ
refusal_told (Called answer call) = refusal_in answer
refusal_told (Advance run instructions stop r0) = None

-- how many instructions a run executed
abbrev pub instructions_told : Record → ℕ
instructions_told (Called answer call) = 0
instructions_told (Advance run instructions stop r0) = instructions

abbrev pub elapsed_by : ℕ → CallAnswer → ℕ → ℕ
elapsed_by clock (Removed count) reading = reading - clock
elapsed_by clock answer reading = 0

abbrev pub elapsed_in : ℕ → CallAnswer → Call → ℕ
elapsed_in clock answer (Clock reading) = elapsed_by clock answer reading
elapsed_in clock answer call = 0

abbrev pub elapsed_told : ℕ → Record → ℕ
elapsed_told clock (Called answer call) = elapsed_in clock answer call
elapsed_told clock (Advance run instructions stop r0) = 0

-- by how many milliseconds a reading that was taken moved the clock on
abbrev pub elapsed : Note → ℕ
elapsed note = elapsed_told note.transport.clock note.told

-- ---- where it is counted

-- the row of a queue, if it is so
abbrev pub row_if : Bool → Option ℕ → Option ℕ
row_if is_so queue = if is_so then queue else None

-- the cell of a code in a row of so many
abbrev pub cell_in : ℕ → ℕ → Option ℕ
cell_in queue code = if nat_lt code CODES then Some (queue * CODES + code) else None

abbrev pub cell_behind : ℕ → Option ℕ → Option ℕ
cell_behind queue None = None
cell_behind queue (Some code) = cell_in queue code

-- the cell of a code in the row of a queue, if there are both
abbrev pub cell_of : Option ℕ → Option ℕ → Option ℕ
cell_of None code = None
cell_of (Some queue) code = cell_behind queue code

abbrev pub is_at : ℕ → Option ℕ → Bool
is_at place None = false
is_at place (Some other) = other == place

abbrev pub submission_at : Note → Option ℕ
submission_at note = row_if (is_submission note.told) (queue_of note)

abbrev pub start_at : Note → Option ℕ
start_at note = row_if (is_start note.told) (queue_of note)

abbrev pub recovery_at : Note → Option ℕ
recovery_at note = row_if (is_recovery note.told) (queue_of note)

abbrev pub requeue_at : Note → Option ℕ
requeue_at note = row_if (is_requeue note.told) (queue_of note)

abbrev pub completion_at : Note → Option ℕ
completion_at note = cell_of (queue_of note) (code_completed note.told)

abbrev pub finish_at : Note → Option ℕ
finish_at note = cell_of (queue_of note) (code_finished note.told)

abbrev pub refusal_at : Note → Option ℕ
refusal_at note = refusal_told note.told

-- how many instructions a run of that queue executed
abbrev pub instructions_of : ℕ → Note → ℕ
instructions_of queue note = if is_at queue (queue_of note) then instructions_told note.told else 0

-- there is a queue of that number, and it is frozen
abbrev pub is_queue_frozen : Transport → ℕ → Bool
is_queue_frozen transport queue = nat_lt queue (length transport.openings) && nat_lt 0 (frozen (device queue) transport.freezes)

abbrev pub is_controller_frozen : Transport → ℕ → Bool
is_controller_frozen transport controller = nat_lt 0 (frozen (Controller controller) transport.freezes)

-- for how many milliseconds the queue was frozen before it
abbrev pub queue_frozen_of : ℕ → Note → ℕ
queue_frozen_of queue note = if is_queue_frozen note.transport queue then elapsed note else 0

abbrev pub controller_frozen_of : ℕ → Note → ℕ
controller_frozen_of controller note = if is_controller_frozen note.transport controller then elapsed note else 0

-- ---- what is noted before it

-- what was frozen before it, and what the clock read; nothing is known, and the clock is not moved on
abbrev pub KnowsElapsing : Option Elapsing → Note → Type 0
KnowsElapsing None note = elapsed note ≡ 0
KnowsElapsing (Some it) note =
    (it.clock ≡ note.transport.clock)
    × ((queue : ℕ) → queue < 64 → slice_index_or it.queues queue false ≡ is_queue_frozen note.transport queue)
    × ((controller : ℕ) → controller < 8 → slice_index_or it.controllers controller false ≡ is_controller_frozen note.transport controller)

-- its queue, and what has to be known of its time
pub record IsBefore (before : Before) (note : Note) : Type 0 where
  pub queue : before.queue ≡ queue_of note
  pub elapsing : KnowsElapsing before.elapsing note
