-- What a trial over the bytes of a manifest and of a file of devices says.
use Rattle.std.specs.Prelude.{◌≡◌, ◌≢◌, ◌⊎◌, ℕ, List, Option, None, Some, false, true}
use Rattle.std.specs.Io.KnownBytes.{Keeps}
use Rattle.world.specs.World.{Setup, queue_count}
use Rattle.world_calls.specs.declared.trace.Trace.{Trace}
use Rattle.cli_line.specs.Files.{is_stream}
use Rattle.cli_commands.specs.Faults.{status_of}
use Rattle.cli_commands.specs.Told.{IsPrinted}
use Rattle.trial_disks.specs.Said.{SaysDisks}
use Rattle.trial_disks.specs.declared.data.Disks.{Disks}
use Rattle.host_trial.specs.Hosted.{AreHosted}
use Rattle.host_trial.specs.Submitted.{AreSubmitted}
use Rattle.host_trial.specs.Tried.{IsTrial}
use Rattle.host_trial.specs.declared.ending.Ending.TheVariants.{Finished}
use Rattle.host_trial.specs.declared.trial.Trial.{Trial}
use Rattle.cli_inspection.specs.Configured.{IsConfigured}
use Rattle.cli_inspection.specs.declared.untried.Untold.{Untold}
use Rattle.cli_inspection.specs.declared.untried.Untold.TheVariants as untold

-- the status of why there is no trial
abbrev pub status_untold : Untold → ℕ
status_untold (untold.Fault fault) = status_of fault
status_untold (untold.Disks fault) = 1

-- The trial is one of the configuration. If it is finished, each of these devices got its requests, and nothing else happened than that they
-- were tried.
pub record IsTrialOn (config : Setup) (disks : Disks) (trial : Trial) : Type 0 where
  pub is : IsTrial config trial.trace trial.ending
  pub submitted : trial.ending ≡ Finished → AreSubmitted disks (queue_count config) trial.trace.records.items
  pub hosted : trial.ending ≡ Finished → AreHosted disks trial.trace.records.items

-- and these are the devices that the bytes of a file say
pub record IsTriedBy (config : Setup) (devices : List ℕ) (trial : Trial) : Type 0 where
  pub disks : Disks
  pub said : SaysDisks devices disks
  pub tried : IsTrialOn config disks trial

-- The one bytes are a manifest, the others a file of devices, and the trial is one of that configuration on these devices.
pub record IsTriedOn (manifest devices : List ℕ) (trial : Trial) : Type 0 where
  pub config : Setup
  pub configured : IsConfigured manifest config
  pub tried : IsTriedBy config devices trial

-- Where a trace goes that is kept at this path: out, if the path stands for a stream, and else to what is kept.
pub record IsKeptAt (path : List ℕ) (trace : Trace) (out-old out-new kept-old kept-new : Option (List ℕ)) : Type 0 where
  pub streamed : is_stream path ≡ true → IsPrinted trace out-old out-new
  pub filed : is_stream path ≡ false → IsPrinted trace kept-old kept-new

-- and without a path nowhere
abbrev pub IsKept : Option (List ℕ) → Trace → (out-old out-new kept-old kept-new : Option (List ℕ)) → Type 0
IsKept None trace out-old out-new kept-old kept-new = Unit {0}
IsKept (Some path) trace out-old out-new kept-old kept-new = IsKeptAt path trace out-old out-new kept-old kept-new

-- The trial of that manifest on those devices is finished, and it is its trace that was kept.
abbrev pub IsTriedOut : Option (List ℕ) → (manifest devices : List ℕ) → (out-old out-new kept-old kept-new : Option (List ℕ)) → Type 0
IsTriedOut path manifest devices out-old out-new kept-old kept-new =
    (trial : Trial) × IsTriedOn manifest devices trial × (trial.ending ≡ Finished) × IsKept path trial.trace out-old out-new kept-old kept-new

-- It is not finished, and its trace was kept all the same; or there is no trial, and nothing was put out or kept.
abbrev pub IsLeft : Option (List ℕ) → (manifest devices : List ℕ) → (out-old out-new kept-old kept-new : Option (List ℕ)) → Type 0
IsLeft path manifest devices out-old out-new kept-old kept-new =
    ((trial : Trial) × IsTriedOn manifest devices trial × (trial.ending ≢ Finished) × IsKept path trial.trace out-old out-new kept-old kept-new)
    ⊎ (Keeps out-old out-new × Keeps kept-old kept-new)
