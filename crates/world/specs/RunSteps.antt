-- What one instruction of a run does: to its own machine, and by a helper call or its exit to the world.
use Rattle.std.specs.Prelude.{ℕ, ◌+◌, ◌%◌, ◌^◌, Bool, false, not, ◌&&◌, ◌==◌, if◌then◌else◌, Option, Some, None, filter, slice_index, slice_set}
use Rattle.std.specs.Option.{option_map, option_and_then}
use Rattle.ccb.specs.Ccb.{advised, requeued}
use Rattle.freeze_ledger.specs.declared.freeze.Holder.{Holder}
use Rattle.freeze_ledger.specs.declared.freeze.Holder.TheVariants.{Run, Timer, Guest}
use Rattle.freeze_ledger.specs.declared.freeze.Freeze.{Freeze}
use Rattle.ccb.specs.declared.place.Place.{Place}
use Rattle.ccb.specs.declared.place.Place.TheVariants.{Controller}
use Rattle.ccb.specs.Places.{device}
use Rattle.freeze_ledger.specs.Freezes.{entry_of, frozen, meets_limit}
use Rattle.helpers.specs.declared.limits.HelperLimits.{HelperLimits}
use Rattle.helpers.specs.declared.table.HelperEffect.{HelperEffect}
use Rattle.helpers.specs.declared.table.HelperEffect.TheVariants as effects
use Rattle.helpers.specs.declared.request.Request.{Request}
use Rattle.helpers.specs.declared.request.Answer.{Answer}
use Rattle.helpers.specs.Table.{row_of, answer_number}
use Rattle.bpf_semantics.specs.MachineState.{MachineState}
use Rattle.bpf_semantics.specs.Calls.{meets_rule}
use Rattle.bpf_semantics.specs.Step.{private_step, request_at, exit_at, answered}
use Rattle.table_store.specs.Tables.{word_at, with_word}
use Rattle.world.specs.declared.ccb_state.CcbState.TheVariants.{Waiting}
use Rattle.world.specs.World.{LiveCcb, LiveRun, World}
use Rattle.world.specs.Lookups.{ccb_of, with_ccb, with_run}
use Rattle.world.specs.Told.{Told, told_of, is_told}
use Rattle.world.specs.QueueInfo.{queue_info, info_bytes}
use Rattle.world.specs.Event.{Instruction, private, call, exit, Reply, went_on, result}
use Rattle.world.specs.FreezeSteps.{frozen_with, froze, thawed, timed}
use Rattle.world.specs.CcbSteps.{ended_with}

-- the holder is the run of this number
abbrev pub is_run : ℕ → Holder → Bool
is_run number (Run run) = run == number
is_run number (Timer due) = false
is_run number (Guest guest) = false

-- the run's machine is now this one
abbrev pub goes_on : World → LiveRun → MachineState → World
goes_on world run machine = record world {
  runs = record world.runs { list = with_run (record run { machine = machine }) world.runs.list };
}

-- the run's call is answered
abbrev pub answers : World → LiveRun → Request → Answer → Reply × World
answers world run request answer = (result answer.r0, goes_on world run (answered request answer run.machine))

-- The deeds of the helpers. The arguments are those of the request, which is answered in the world that the deed leads to.

-- the run freezes a place, and the answer is the new freeze's number, or 0 where a further freeze meets a limit
abbrev pub takes : World → LiveRun → Request → Place → Reply × World
takes world run request place =
    if meets_limit place world.transport.freezes world.transport.greatest_freeze
    then answers world run request (answer_number 0)
    else answers (froze world place (Run run.number)) run request (answer_number (world.transport.greatest_freeze + 1))

-- no event unless the run holds the freeze; it goes, and the answer is how many its place has then
abbrev pub releases : World → LiveRun → Request → Option Freeze → Option (Reply × World)
releases world run request None = None
releases world run request (Some freeze) =
    let after = thawed world request.arguments.first in
    if is_run run.number freeze.holder
    then Some (answers after run request (answer_number (frozen_with freeze after.transport.freezes)))
    else None

-- no event unless the run holds the freeze; its holder is now a timer, which is due so many milliseconds after the clock
abbrev pub hands_over : World → LiveRun → Request → Option Freeze → Option (Reply × World)
hands_over world run request None = None
hands_over world run request (Some freeze) =
    let after = timed world request.arguments.first (world.transport.clock + request.arguments.second) in
    if is_run run.number freeze.holder then Some (answers after run request (answer_number 0)) else None

-- the run's CCB waits again with so many retries fewer
abbrev pub requeues : World → LiveRun → Request → Option LiveCcb → Option (Reply × World)
requeues world run request None = None
requeues world run request (Some live) =
    let again : LiveCcb = record { ccb = requeued live.ccb request.arguments.first; state = Waiting } in
    let after = record world { transport = record world.transport { live = with_ccb again world.transport.live } } in
    Some (answers after run request (answer_number 0))

-- the run's CCB is gone, with this final code
abbrev pub finishes : World → LiveRun → Request → Option LiveCcb → Option (Reply × World)
finishes world run request None = None
finishes world run request (Some live) = Some (answers (ended_with world live.ccb request.arguments.first) run request (answer_number 0))

-- the run's CCB has this advice from now on, and all else is as it was
abbrev pub advises : World → LiveRun → Request → Option LiveCcb → Option (Reply × World)
advises world run request None = None
advises world run request (Some live) =
    let told : LiveCcb = record live { ccb = advised live.ccb request.arguments.first } in
    let after = record world { transport = record world.transport { live = with_ccb told world.transport.live } } in
    Some (answers after run request (answer_number 0))

-- the word that a call names
abbrev pub its_word : World → Request → ℕ
its_word world request = word_at world.runs.tables request.arguments.first request.arguments.second

-- the tables with this in its place
abbrev pub with_its_word : World → Request → ℕ → World
with_its_word world request word = record world {
  runs = record world.runs {
    tables = with_word world.runs.tables request.arguments.first request.arguments.second word;
  };
}

-- a word of a table is read
abbrev pub gets : World → LiveRun → Request → Reply × World
gets world run request = answers world run request (answer_number (its_word world request))

-- a word of a table is written, and the answer is the old one
abbrev pub puts : World → LiveRun → Request → Reply × World
puts world run request =
    let after = with_its_word world request (request.arguments.third % 2 ^ 64) in
    answers after run request (answer_number (its_word world request))

-- a word of a table grows, modulo 2^64, and the answer is the new one
abbrev pub adds : World → LiveRun → Request → Reply × World
adds world run request =
    let sum = (its_word world request + request.arguments.third) % 2 ^ 64 in
    answers (with_its_word world request sum) run request (answer_number sum)

-- the run's queue has so many openings from now on, and the answer is how many it had
abbrev pub opens : World → LiveRun → Request → Reply × World
opens world run request =
    let openings = slice_set world.transport.openings run.queue request.arguments.first in
    let after = record world { transport = record world.transport { openings = openings } } in
    answers after run request (answer_number (slice_index world.transport.openings run.queue))

-- what the run's queue has, as 16 bytes from the address on
abbrev pub info_answer : World → LiveRun → ℕ → Answer
info_answer world run address =
    record { r0 = 0; written = Some (record { address = address; bytes = info_bytes (queue_info world run.queue) }) }

-- what a call does, by its deed
abbrev pub by_effect : HelperEffect → World → LiveRun → Request → Option (Reply × World)
by_effect effects.Nothing world run request = Some (answers world run request (answer_number 0))
by_effect effects.Freeze world run request = Some (takes world run request (device request.arguments.first))
by_effect effects.GiveBack world run request = releases world run request (entry_of request.arguments.first world.transport.freezes)
by_effect effects.HandOver world run request = hands_over world run request (entry_of request.arguments.first world.transport.freezes)
by_effect effects.Requeue world run request = requeues world run request (ccb_of run.ccb world.transport.live)
by_effect effects.Finish world run request = finishes world run request (ccb_of run.ccb world.transport.live)
by_effect effects.GetWord world run request = Some (gets world run request)
by_effect effects.PutWord world run request = Some (puts world run request)
by_effect effects.AddWord world run request = Some (adds world run request)
by_effect effects.TellQueue world run request = Some (answers world run request (info_answer world run request.arguments.first))
by_effect effects.TellClock world run request = Some (answers world run request (answer_number world.transport.clock))
by_effect effects.SetOpenings world run request = Some (opens world run request)
by_effect effects.FreezeController world run request = Some (takes world run request (Controller run.controller))
by_effect effects.TellController world run request = Some (answers world run request (answer_number (frozen (Controller run.controller) world.transport.freezes)))
by_effect effects.Advise world run request = advises world run request (ccb_of run.ccb world.transport.live)

abbrev pub step_request : World → LiveRun → Request → Option (Reply × World)
step_request world run request = by_effect (row_of request.helper).effect world run request

-- it is the very call that is told, by the helper's rule
abbrev pub may_call : HelperLimits → LiveRun → Told → Request → Bool
may_call limits run told request = is_told told (told_of request) && meets_rule limits run.machine request

-- and else no event
abbrev pub step_helper : HelperLimits → World → LiveRun → Told → Request → Option (Reply × World)
step_helper limits world run told request = if may_call limits run told request then step_request world run request else None

-- the run is gone
abbrev pub ends : World → LiveRun → World
ends world run = record world {
  runs = record world.runs { list = filter (λ other. not (other.number == run.number)) world.runs.list };
}

-- no event unless the machine stands at such an instruction
abbrev pub step_run : HelperLimits → World → LiveRun → Instruction → Option (Reply × World)
step_run limits world run private = option_map (λ machine. (went_on, goes_on world run machine)) (private_step run.program run.machine)
step_run limits world run (call told) = option_and_then (step_helper limits world run told) (request_at run.program run.machine)
step_run limits world run exit = option_map (λ r0. (result r0, ends world run)) (exit_at run.program run.machine)

-- no event unless the run is live and out
abbrev pub step_executes : HelperLimits → World → Instruction → Option LiveRun → Option (Reply × World)
step_executes limits world instruction None = None
step_executes limits world instruction (Some run) = if run.out then step_run limits world run instruction else None
