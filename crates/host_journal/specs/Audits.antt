-- What an audit says of a journal.
use Rattle.std.specs.Prelude.{◌≡◌, ◌⊎◌, ◌<◌, ◌+◌, ◌-◌, ◌^◌, ◌≤◌, ℕ, true, false, not, min, IfSome, Option, Some, None, Result, Ok, Err, List, ⊤, IsUtf8}
use Rattle.base.specs.declared.or_memory.OrMemory.{OrMemory}
use Rattle.base.specs.declared.or_memory.OrMemory.TheVariants.{OutOfMemory, Fault}
use Rattle.engine_carried.specs.declared.numbering.Numbering.{Numbering}
use Rattle.engine_core.specs.ByNumber.{NumberedState}
use Rattle.engine_succession.specs.Numbered.{MayBeFollowedBy}
use Rattle.manifest.specs.Meaning.{HasFault}
use Rattle.manifest.specs.declared.fault.ManifestFault.{ManifestFault}
use Rattle.trace.specs.declared.fault.TraceFault.TheVariants.{Line}
use Rattle.whole_trace.specs.Front.{HasUnspelled}
use Rattle.world.specs.World.{Setup, version_of}
use Rattle.host_recovery.specs.declared.fault.RecoveryFault.{RecoveryFault}
use Rattle.host_recovery.specs.declared.fault.RecoveryFault.TheVariants.{Form}
use Rattle.host_recovery.specs.declared.recovering.Recovered.{Recovered}
use Rattle.host_journal.specs.Disks.{EndsIn, Held, IsFailed, Step}
use Rattle.host_journal.specs.Journals.{IsConfigured}
use Rattle.host_journal.specs.Linked.{IsLeft, IsLinked, IsUnlinked, lines_left}
use Rattle.host_journal.specs.Listings.{IsEmptyJournal, IsForeign, IsJournal}
use Rattle.host_journal.specs.Starts.{IsTextFault, IsUnread, Replays}
use Rattle.host_journal.specs.declared.auditing.Audited.{Audited}
use Rattle.host_journal.specs.declared.auditing.Reached.{Reached}
use Rattle.host_journal.specs.declared.fault.JournalFault.{JournalFault}
use Rattle.host_journal.specs.declared.fault.JournalFault.TheVariants as faults
use Rattle.host_journal.specs.declared.fault.JournalFile.TheVariants as files
use Rattle.host_journal.specs.declared.left.Left.{Left}
use Rattle.host_journal.specs.declared.listing.Listing.{Listing}
use Rattle.host_journal.specs.declared.listing.Listing.TheVariants as listings

-- the configuration is that of the manifest of this number, if that is known
abbrev pub IsConfiguredBy : Held → ℕ → Setup → Type 0
IsConfiguredBy held number config = IfSome (held.manifests number) (λ bytes. IsConfigured bytes config)

-- The segment of that number is one over its manifest, and this is what a replay leads to; of what is not known of them nothing is said.
pub record IsReplayed (held : Held) (number : ℕ) (config : Setup) (recovered : Recovered) : Type 0 where
  pub configured : IsConfiguredBy held number config
  pub replayed : Replays config number (held.segments number) (Ok recovered)

-- it begins with what the engine of the segment before it left, if there is one
abbrev pub IsJoined : Held → ℕ → Option NumberedState → Setup → Recovered → Type 0
IsJoined held number None config recovered = ⊤
IsJoined held number (Some before) config recovered = IsLinked (held.segments number) config before recovered.carried

-- Each segment from the first one to the one before that number is one over its manifest, has its last line, and begins with what the one
-- before it left. So many records stand in them, and that engine in the last of them.
pub data ArePassed (held : Held) (first : ℕ) : (number : ℕ) → Option NumberedState → (records : ℕ) → Type 0 where
  none_passed : ArePassed held first first None 0
  one_more : (number : ℕ) (before : Option NumberedState) (records : ℕ) (config : Setup) (recovered : Recovered) → ArePassed held first number before records
      → IsReplayed held number config recovered → recovered.is_ended ≡ true → IsJoined held number before config recovered
      → ArePassed held first (number + 1) (Some recovered.engine) (records + recovered.records)

-- how much a number counts that stops at 2^64 - 1
abbrev pub counted : ℕ → ℕ
counted number = min number (2 ^ 64 - 1)

-- All segments are such, of which the newest may lack its last line, and what is counted are their records.
pub record AreSound (held : Held) (first last : ℕ) (audited : Audited) : Type 0 where
  pub before : Option NumberedState
  pub records : ℕ
  pub passed : ArePassed held first last before records
  pub config : Setup
  pub newest : Recovered
  pub is_segment : IsReplayed held last config newest
  pub joined : IsJoined held last before config newest
  pub segments : audited.segments ≡ counted ((last - first) + 1)
  pub all : audited.records ≡ counted (records + newest.records)
  pub left_open : audited.is_open ≡ not newest.is_ended

-- nothing was found
abbrev pub nothing_audited : Audited
nothing_audited = record { segments = 0; records = 0; is_open = false }

-- the names are those of a journal without a segment, or of one whose segments are sound, if they are known
abbrev pub IsAudited : Held → Audited → Type 0
IsAudited held audited = IfSome held.names (λ names. (IsEmptyJournal names × (audited ≡ nothing_audited)) ⊎ ((first : ℕ) × (last : ℕ) × IsJournal names first last × AreSound held first last audited))

-- ---- why an audit ends

-- the number of the line in whose place a last line would stand, after so many others but the first one
abbrev pub line_behind : ℕ → ℕ
line_behind lines = counted (lines + 2)

-- the segment has that fault
pub record IsFaulty (held : Held) (number : ℕ) (fault : RecoveryFault) : Type 0 where
  pub config : Setup
  pub configured : IsConfiguredBy held number config
  pub told : Replays config number (held.segments number) (Err (Fault (faults.Segment number fault)))
  pub of_text : IsTextFault fault

-- the segment lacks its last line
pub record IsUnended (held : Held) (number : ℕ) (fault : RecoveryFault) : Type 0 where
  pub config : Setup
  pub recovered : Recovered
  pub is_segment : IsReplayed held number config recovered
  pub left_open : recovered.is_ended ≡ false
  pub is : fault ≡ Form (Line (line_behind (counted (recovered.carried + recovered.records))))

-- the segment's manifest is no text, if it is known; or has that fault
abbrev pub IsNoText : Held → ℕ → Type 0
IsNoText held number = IfSome (held.manifests number) (λ bytes. IsUtf8 bytes → ⊥)

abbrev pub HasOwnFault : Held → ℕ → ManifestFault → Type 0
HasOwnFault held number fault = IfSome (held.manifests number) (λ bytes. HasFault bytes fault)

-- the segment does not begin with what the one before it left
pub record IsNotJoined (held : Held) (number last : ℕ) (before : NumberedState) : Type 0 where
  pub config : Setup
  pub recovered : Recovered
  pub is_segment : IsReplayed held number config recovered
  pub ended : number < last → recovered.is_ended ≡ true
  pub unlinked : IsUnlinked (held.segments number) config before recovered.carried

-- what one leaves, which may be followed, has no text in the next one
pub record IsUntold (held : Held) (number : ℕ) (before : NumberedState) : Type 0 where
  pub config : Setup
  pub configured : IsConfiguredBy held number config
  pub may : MayBeFollowedBy before config
  pub numbering : Numbering
  pub untold : HasUnspelled (version_of config) (lines_left numbering before config)

-- why the segment of that number is not sound, of those up to that one, after the engine of the segment before
abbrev pub FailsInSegment : Held → (number last : ℕ) → Option NumberedState → (old new : Option (List Step)) → OrMemory JournalFault → Type 0
FailsInSegment held number last before old new OutOfMemory = ⊤
FailsInSegment held number last before old new (Fault (faults.File (files.Manifest other))) = (other ≡ number) × (EndsIn (IsFailed (files.Manifest number)) old new ⊎ IsNoText held number)
FailsInSegment held number last before old new (Fault (faults.File (files.Segment other))) = (other ≡ number) × IsUnread number (held.segments number) old new
FailsInSegment held number last before old new (Fault (faults.Manifest other fault)) = (other ≡ number) × HasOwnFault held number fault
FailsInSegment held number last before old new (Fault (faults.Segment other fault)) = (other ≡ number) × (IsFaulty held number fault ⊎ ((number < last) × IsUnended held number fault))
FailsInSegment held number last (Some before) old new (Fault (faults.NotContinued other)) = (other ≡ number) × IsNotJoined held number last before
FailsInSegment held number last (Some before) old new (Fault faults.InternalError) = IsUntold held number before
FailsInSegment held number last before old new (Fault fault) = ⊥

-- which of the segments from that number to that one is the first that is not sound, and why
pub record FailsAt (held : Held) (first last : ℕ) (old new : Option (List Step)) (error : OrMemory JournalFault) : Type 0 where
  pub number : ℕ
  pub before : Option NumberedState
  pub records : ℕ
  pub passed : ArePassed held first number before records
  pub fails : FailsInSegment held number last before old new error

-- why an audit is refused
abbrev pub FailsToAudit : Held → (old new : Option (List Step)) → OrMemory JournalFault → Type 0
FailsToAudit held old new OutOfMemory = ⊤
FailsToAudit held old new (Fault faults.Foreign) = IfSome held.names IsForeign
FailsToAudit held old new (Fault (faults.File files.Folder)) = EndsIn (IsFailed files.Folder) old new
FailsToAudit held old new error = IfSome held.names (λ names. (first : ℕ) × (last : ℕ) × IsJournal names first last × FailsAt held first last old new error)

-- ---- inside

-- the first one of the segments is not above the last
abbrev pub IsOrdered : Listing → Type 0
IsOrdered listings.Foreign = ⊤
IsOrdered listings.Empty = ⊤
IsOrdered (listings.Segments first last) = first ≤ last

-- what the next segment may begin with after that engine, if there is one
abbrev pub IsLeftFor : Option NumberedState → Setup → Option Left → Type 0
IsLeftFor None config None = ⊤
IsLeftFor (Some before) config (Some left) = IsLeft before config left
IsLeftFor before config left = ⊥

-- The audit came to the segment of that number.
pub record IsReached (held : Held) (first number : ℕ) (reached : Reached) : Type 0 where
  pub before : Option NumberedState
  pub records : ℕ
  pub passed : ArePassed held first number before records
  pub configured : IsConfiguredBy held number reached.config
  pub left : IsLeftFor before reached.config reached.left
  pub count : reached.records ≡ counted records
