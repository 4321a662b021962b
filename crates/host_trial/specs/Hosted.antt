-- What the host of a trial does, and how its devices answer: nothing else stands in the records of a trial that is finished.
use Rattle.std.specs.Prelude.{◌≡◌, ℕ, ◌==◌, ◌&&◌, ◌||◌, Bool, true, false, bytes_eq, List, [], Option, None, Some}
use Rattle.std.specs.List.{list_all, list_any}
use Rattle.ccb.specs.Completion.{Outcome}
use Rattle.ccb.specs.Status.{code_of}
use Rattle.world_calls.specs.declared.call.Call.{Call}
use Rattle.world_calls.specs.declared.call.Call.TheVariants.{Clock, Complete, Dispatch, Submit}
use Rattle.world_calls.specs.declared.record.Record.{Record}
use Rattle.world_calls.specs.declared.record.Record.TheVariants.{Called, Advance}
use Rattle.trial_disks.specs.declared.data.Device.{Device}
use Rattle.trial_disks.specs.declared.data.Disks.{Disks}
use Rattle.trial_disks.specs.declared.data.Failure.{Failure}
use Rattle.host_trial.specs.Submitted.{serves}

-- Both say the same of a CCB.
abbrev pub says_same : Outcome → Outcome → Bool
says_same outcome other = code_of outcome.status == code_of other.status && (outcome.scsi == other.scsi && bytes_eq outcome.sense other.sense)

-- a device carried the request out: the CAM status is 01, the SCSI status is GOOD, and there are no sense data
abbrev pub is_success : Outcome → Bool
is_success outcome = code_of outcome.status == 1 && (outcome.scsi == 0 && bytes_eq outcome.sense [])

-- or it failed as the file says
abbrev pub fails_so : Outcome → Device → Bool
fails_so outcome device = list_any (λ (failure : Failure). says_same outcome failure.completion) device.failures.items

abbrev pub is_answer : Disks → Outcome → Bool
is_answer disks outcome = is_success outcome || list_any (fails_so outcome) disks.devices.items

-- a device of the queue has its requests tried again so often
abbrev pub asks_so : (queue retries : ℕ) → Device → Bool
asks_so queue retries device = serves queue device && device.retries == retries

-- a request has no class, or class 0 where CCBs have one
abbrev pub is_plain : Option ℕ → Bool
is_plain None = true
is_plain (Some class) = class == 0

abbrev pub is_request : Disks → (queue priority retries : ℕ) → Option ℕ → Bool
is_request disks queue priority retries class = priority == 0 && (is_plain class && list_any (asks_so queue retries) disks.devices.items)

-- The host submits requests, starts them, reads the clock, and reports what a device answered. It takes no freeze, parks no run, and withdraws
-- nothing.
abbrev pub is_of_host : Disks → Call → Bool
is_of_host disks (Submit queue priority retries class) = is_request disks queue.0 priority retries class
is_of_host disks (Dispatch queue) = true
is_of_host disks (Clock reading) = true
is_of_host disks (Complete outcome) = is_answer disks outcome
is_of_host disks call = false

abbrev pub is_of_trial : Disks → Record → Bool
is_of_trial disks (Called answer call) = is_of_host disks call
is_of_trial disks (Advance run instructions stop r0) = true

-- each record is of such a call, or of a run
abbrev pub AreHosted : Disks → List Record → Type 0
AreHosted disks records = list_all (is_of_trial disks) records ≡ true
