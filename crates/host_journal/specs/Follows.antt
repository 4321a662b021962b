-- The segment that follows one whose engine was shut.
use Rattle.std.specs.Prelude.{◌≡◌, ◌+◌, ◌-◌, ◌^◌, ◌⊎◌, ℕ, Option, Some, None, MatchOption, Result, Ok, Err, List, [], ⊤}
use Rattle.base.specs.declared.or_memory.OrMemory.{OrMemory}
use Rattle.base.specs.declared.or_memory.OrMemory.TheVariants.{OutOfMemory, Fault}
use Rattle.world.specs.World.{Setup}
use Rattle.engine_beginning.specs.Lines.{lines_of}
use Rattle.engine_carried.specs.TakenOver.{Fits}
use Rattle.engine_carried.specs.declared.numbering.Numbering.{Numbering}
use Rattle.engine_core.specs.ByNumber.{NumberedState}
use Rattle.engine_succession.specs.Numbered.{MayBeFollowedBy, left_behind, taken_from}
use Rattle.host_journal.specs.Disks.{Failed, Step, with_step}
use Rattle.host_journal.specs.Journals.{IsConfigured}
use Rattle.host_journal.specs.Starts.{IsGivenFault, IsOwnFault}
use Rattle.host_journal.specs.declared.beginning.Begun.{Begun}
use Rattle.host_journal.specs.declared.disk.DiskFault.{DiskFault}
use Rattle.host_journal.specs.declared.fault.JournalFault.{JournalFault}
use Rattle.host_journal.specs.declared.fault.JournalFault.TheVariants as faults
use Rattle.host_journal.specs.declared.fault.JournalFile.TheVariants as files
use Rattle.host_journal.specs.declared.following.NextManifest.{NextManifest}
use Rattle.host_journal.specs.declared.following.NextManifest.TheVariants.{Given, Same}

-- its bytes
abbrev pub bytes_of : NextManifest → List ℕ
bytes_of (Given bytes) = bytes.now
bytes_of (Same bytes) = bytes.now

-- the configuration is the manifest's
abbrev pub IsNextConfig : NextManifest → Setup → Type 0
IsNextConfig manifest config = IsConfigured (bytes_of manifest) config

-- why the bytes are no manifest
abbrev pub IsNextFault : ℕ → NextManifest → OrMemory JournalFault → Type 0
IsNextFault number (Given bytes) error = IsGivenFault bytes.now error
IsNextFault number (Same bytes) error = IsOwnFault number bytes.now error

-- The segment has the next number, is to be made with that manifest, and begins with the lines of what an engine of the manifest's
-- configuration takes over from this one.
pub record IsNext (number : ℕ) (engine : NumberedState) (manifest : NextManifest) (numbering : Numbering) (next : Begun) : Type 0 where
  pub number_is : next.number ≡ number + 1
  pub manifest_is : MatchOption next.manifest ⊥ (λ bytes. bytes.now ≡ bytes_of manifest)
  pub configured : IsNextConfig manifest next.config
  pub may : MayBeFollowedBy engine next.config
  pub lines_are : MatchOption next.carried ⊥ (λ lines. lines.items ≡ lines_of (taken_from numbering engine next.config))

-- the manifest is one whose configuration does not have all queues and controllers of what is left
abbrev pub IsMisfit : NumberedState → NextManifest → Type 0
IsMisfit engine manifest = (config : Setup) × IsNextConfig manifest config × (engine.runs.list ≡ []) × (Fits config (left_behind engine) → ⊥)

-- it is one, and segments cannot be counted any more
abbrev pub IsUncountable : ℕ → NumberedState → NextManifest → Type 0
IsUncountable number engine manifest = (config : Setup) × IsNextConfig manifest config × MayBeFollowedBy engine config × (number ≡ 2 ^ 64 - 1)

-- Why there is no such segment: a run is live; or there is none, and the manifest is faulty, or a misfit.
abbrev pub IsNotNext : ℕ → NumberedState → NextManifest → OrMemory JournalFault → Type 0
IsNotNext number engine manifest OutOfMemory = ⊤
IsNotNext number engine manifest (Fault faults.RunLive) = engine.runs.list ≡ [] → ⊥
IsNotNext number engine manifest (Fault faults.DoesNotFit) = IsMisfit engine manifest
IsNotNext number engine manifest (Fault faults.InternalError) = IsUncountable number engine manifest
IsNotNext number engine manifest (Fault fault) = (engine.runs.list ≡ []) × IsNextFault number manifest (Fault fault)

-- why the manifest of that number was not read
abbrev pub IsManifestUnread : ℕ → Option (List Step) → OrMemory JournalFault → Option (List Step) → Type 0
IsManifestUnread number old OutOfMemory new = new ≡ with_step old (Failed (files.Manifest number) DiskFault.OutOfMemory)
IsManifestUnread number old (Fault (faults.File (files.Manifest other))) new = (other ≡ number) × (fault : DiskFault) × (new ≡ with_step old (Failed (files.Manifest number) fault))
IsManifestUnread number old (Fault fault) new = ⊥

-- it was read, and nothing was done; or not
abbrev pub IsManifestRead : {T : Type 0} → ℕ → Option (List Step) → Result T (OrMemory JournalFault) → Option (List Step) → Type 0
IsManifestRead number old (Ok bytes) new = new ≡ old
IsManifestRead number old (Err error) new = IsManifestUnread number old error new
