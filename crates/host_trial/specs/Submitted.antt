-- How many requests the devices of a trial got.
use Rattle.std.specs.Prelude.{◌≡◌, ℕ, ◌<◌, ◌≤◌, ◌==◌, ◌&&◌, ◌-◌, ◌^◌, cond, map, min, Bool, true, false, List, Option, None, Some, filter, length}
use Rattle.std.specs.List.{list_any, range_with_len, sum}
use Rattle.world_calls.specs.declared.call.Call.{Call}
use Rattle.world_calls.specs.declared.call.Call.TheVariants.{Submit}
use Rattle.world_calls.specs.declared.call_answer.CallAnswer.{CallAnswer}
use Rattle.world_calls.specs.declared.call_answer.CallAnswer.TheVariants.{Ccb}
use Rattle.world_calls.specs.declared.record.Record.{Record}
use Rattle.world_calls.specs.declared.record.Record.TheVariants.{Called}
use Rattle.trial_disks.specs.declared.data.Device.{Device}
use Rattle.trial_disks.specs.declared.data.Disks.{Disks}

-- a CCB was made
abbrev pub makes_ccb : CallAnswer → Bool
makes_ccb (Ccb ccb) = true
makes_ccb answer = false

-- a submission to that queue
abbrev pub submits_to : ℕ → Call → Bool
submits_to queue (Submit to priority retries class) = to.0 == queue
submits_to queue call = false

abbrev pub is_submission : ℕ → Record → Bool
is_submission queue (Called answer call) = makes_ccb answer && submits_to queue call
is_submission queue made = false

-- how many CCBs were made for that queue
abbrev pub submissions : ℕ → List Record → ℕ
submissions queue records = length (filter (is_submission queue) records)

-- The device answers for that queue: it names the queue, or none.
abbrev pub is_named : ℕ → Option ℕ → Bool
is_named queue None = true
is_named queue (Some own) = own == queue

abbrev pub serves : ℕ → Device → Bool
serves queue device = is_named queue device.queue

-- Of the queues below this one, each that has a device got as many requests as the file asks for, no fewer and no more.
abbrev pub AreSubmitted : Disks → ℕ → List Record → Type 0
AreSubmitted disks queues records =
    (queue : ℕ) → queue < queues → list_any (serves queue) disks.devices.items ≡ true → submissions queue records ≡ disks.requests

-- how many requests a queue lacks: none, if it has no device
abbrev pub lacking : Disks → List Record → ℕ → ℕ
lacking disks records queue = cond (list_any (serves queue) disks.devices.items) (disks.requests - submissions queue records) 0

-- how many requests the queues below this one lack, one with another
unfoldable pub unsubmitted : Disks → ℕ → List Record → ℕ
unsubmitted disks queues records = sum (map (lacking disks records) (range_with_len 0 queues))

-- a number, as far as 64 bits go
abbrev pub up_to_64_bits : ℕ → ℕ
up_to_64_bits number = min number (2 ^ 64 - 1)
