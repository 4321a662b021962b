-- Events and replies as the worked rows spell them.
use Rattle.std.proofs.Common.{ℕ, Some, None}
use Rattle.ccb.specs.Completion.{Outcome}
use Rattle.ccb.specs.Places.{device}
use Rattle.world_calls.specs.declared.call.Call.TheVariants.{Submit, Dispatch, Complete, Withdraw, GuestFreeze, GuestRelease, Clock, Park, Resume}
use Rattle.world_calls.specs.declared.call_answer.CallAnswer.TheVariants as answers
use Rattle.world.specs.Event.{Event, called, Reply, replies}

abbrev pub submit : (queue priority retries : ℕ) → Event
submit queue priority retries = called (Submit (record { 0 = queue }) priority retries None)

-- with a class
abbrev pub submit_as : (queue priority retries class : ℕ) → Event
submit_as queue priority retries class = called (Submit (record { 0 = queue }) priority retries (Some class))

abbrev pub dispatch : ℕ → Event
dispatch queue = called (Dispatch (record { 0 = queue }))

abbrev pub complete : Outcome → Event
complete outcome = called (Complete outcome)

abbrev pub withdraw : ℕ → Event
withdraw ccb = called (Withdraw (record { 0 = ccb }))

abbrev pub guest_freeze : (queue guest : ℕ) → Event
guest_freeze queue guest = called (GuestFreeze (device queue) guest)

abbrev pub guest_release : ℕ → Event
guest_release freeze = called (GuestRelease freeze)

abbrev pub clock_reads : ℕ → Event
clock_reads reading = called (Clock reading)

abbrev pub parks : ℕ → Event
parks run = called (Park run)

abbrev pub resumes : ℕ → Event
resumes run = called (Resume run)

abbrev pub ccb_given : ℕ → Reply
ccb_given ccb = replies (answers.Ccb (record { 0 = ccb }))

-- a start that reports an advice
abbrev pub ccb_advised : (ccb advice : ℕ) → Reply
ccb_advised ccb advice = replies (answers.Advised (record { 0 = ccb }) advice)

abbrev pub done : Reply
done = replies answers.Done

abbrev pub run_started : (run freeze : ℕ) → Reply
run_started run freeze = replies (answers.Started run freeze)

abbrev pub freeze_given : ℕ → Reply
freeze_given freeze = replies (answers.Freeze freeze)

abbrev pub count_left : ℕ → Reply
count_left count = replies (answers.Left count)

abbrev pub expired : ℕ → Reply
expired count = replies (answers.Removed count)

abbrev pub ok : Reply
ok = replies answers.Ok
