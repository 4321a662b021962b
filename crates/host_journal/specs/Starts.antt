-- Which segment a start goes on with, what it is opened with, and why it is refused.
use Rattle.std.specs.Prelude.{◌≡◌, ◌≢◌, ◌⊎◌, ◌≤◌, ℕ, zero, suc, Bool, true, false, Option, Some, None, IfSome, MatchBool, MatchOption, Result, Ok, Err, List, [], length, ⊤, IsUtf8}
use Rattle.base.specs.declared.or_memory.OrMemory.{OrMemory}
use Rattle.base.specs.declared.or_memory.OrMemory.TheVariants.{OutOfMemory, Fault}
use Rattle.manifest.specs.Meaning.{HasFault}
use Rattle.world.specs.World.{Setup}
use Rattle.host_recovery.specs.Recovering.{IsRecovered, Recovers}
use Rattle.host_recovery.specs.Sources.{IsAll}
use Rattle.host_recovery.specs.declared.fault.RecoveryFault.{RecoveryFault}
use Rattle.host_recovery.specs.declared.fault.RecoveryFault.TheVariants.{TooLong, Unread}
use Rattle.host_recovery.specs.declared.recovering.TheConstants.{MOST_WHOLE}
use Rattle.host_recovery.specs.declared.recovering.Recovered.{Recovered}
use Rattle.host_journal.specs.Disks.{CutTo, EndsIn, FolderMade, Failed, Held, IsFailed, IsFailedBy, IsFolderMade, IsQuiet, IsRefused, Locked, ManifestMade, Opened, SegmentMade, Step, with_step}
use Rattle.host_journal.specs.Journals.{IsConfigured}
use Rattle.host_journal.specs.Listings.{IsEmptyJournal, IsForeign, IsJournal, Lists}
use Rattle.host_journal.specs.Made.{IsFirst, IsUnbegun, made_of}
use Rattle.host_journal.specs.Texts.{EndsInSums}
use Rattle.host_journal.specs.declared.beginning.Begun.{Begun}
use Rattle.host_journal.specs.declared.disk.DiskFault.TheVariants.{Failed as NotDone, Missing}
use Rattle.host_journal.specs.declared.fault.JournalFault.{JournalFault}
use Rattle.host_journal.specs.declared.fault.JournalFault.TheVariants as faults
use Rattle.host_journal.specs.declared.fault.JournalFile.{JournalFile}
use Rattle.host_journal.specs.declared.fault.JournalFile.TheVariants as files
use Rattle.host_journal.specs.declared.listing.Listing.{Listing}

-- ---- a manifest

-- why these bytes, of the manifest that is given, are none
abbrev pub IsGivenFault : List ℕ → OrMemory JournalFault → Type 0
IsGivenFault bytes OutOfMemory = ⊤
IsGivenFault bytes (Fault faults.Unreadable) = IsUtf8 bytes → ⊥
IsGivenFault bytes (Fault (faults.Given fault)) = HasFault bytes fault
IsGivenFault bytes (Fault fault) = ⊥

-- why these bytes, of the manifest of the segment of that number, are none
abbrev pub IsOwnFault : ℕ → List ℕ → OrMemory JournalFault → Type 0
IsOwnFault number bytes OutOfMemory = ⊤
IsOwnFault number bytes (Fault (faults.File (files.Manifest other))) = (other ≡ number) × (IsUtf8 bytes → ⊥)
IsOwnFault number bytes (Fault (faults.Manifest other fault)) = (other ≡ number) × HasFault bytes fault
IsOwnFault number bytes (Fault fault) = ⊥

-- ---- a segment that is not read

-- these are no bytes of a segment, if they are known: they are no text, or more than are read
abbrev pub AreNoSegment : Option (List ℕ) → Type 0
AreNoSegment known = IfSome known (λ bytes. (IsUtf8 bytes → ⊥) ⊎ (MOST_WHOLE ≤ length bytes))

-- why the segment of that number, of these bytes, if they are known, is not read: a call about it failed, or they are none
abbrev pub IsUnread : (number : ℕ) → Option (List ℕ) → (old new : Option (List Step)) → Type 0
IsUnread number known old new = EndsIn (IsFailed (files.Segment number)) old new ⊎ AreNoSegment known

-- memory; or why the segment of that number is not read
abbrev pub IsUnreadSegment : ℕ → Option (List ℕ) → (old new : Option (List Step)) → OrMemory JournalFault → Type 0
IsUnreadSegment number known old new OutOfMemory = ⊤
IsUnreadSegment number known old new (Fault (faults.File (files.Segment other))) = (other ≡ number) × IsUnread number known old new
IsUnreadSegment number known old new (Fault fault) = ⊥

-- ---- which segment

-- some segment is the newest, and has that number
abbrev pub IsNewest : List (List ℕ) → ℕ → Type 0
IsNewest names number = (first : ℕ) × IsJournal names first number

-- a listing of what the folder holds, if that is known
abbrev pub ListsHeld : Held → Listing → Type 0
ListsHeld held listing = IfSome held.names (λ names. Lists names listing)

-- a manifest that is given is that of the segment of that number, if that one has no last line
abbrev pub IsItsManifest : Held → ℕ → (given : Option (List ℕ)) → Type 0
IsItsManifest held number given = IfSome given (λ bytes. IfSome (held.manifests number) (λ own. bytes ≡ own) ⊎ IfSome (held.segments number) EndsInSums)

-- which segment a start goes on with: the newest one, with its own manifest; or the first one, with the manifest that is given
abbrev pub Finds : Held → (given : Option (List ℕ)) → Begun → Type 0
Finds held given begun =
    MatchOption begun.manifest (IfSome held.names (λ names. IsNewest names begun.number) × IfSome (held.manifests begun.number) (λ bytes. IsConfigured bytes begun.config) × IsItsManifest held begun.number given)
    (λ bytes. IfSome held.names IsEmptyJournal × (begun.number ≡ 1) × (given ≡ Some bytes.now) × IsConfigured bytes.now begun.config)

-- why the lock cannot be taken: a call about its file failed, and not since the folder is missing; or one failed after the folder was made
abbrev pub CannotLock : (old new : Option (List Step)) → Type 0
CannotLock old new = EndsIn (IsFailedBy files.Lock NotDone) old new ⊎ ((made : Option (List Step)) × EndsIn IsFolderMade old made × EndsIn (IsFailed files.Lock) made new)

-- why a file was not read or written: a call about it failed; or it is the newest segment or its manifest, and no text
abbrev pub IsFileFault : Held → JournalFile → (old new : Option (List Step)) → Type 0
IsFileFault held files.Folder old new = EndsIn (IsFailed files.Folder) old new
IsFileFault held files.Lock old new = CannotLock old new
IsFileFault held (files.Manifest number) old new = IfSome held.names (λ names. IsNewest names number) × (EndsIn (IsFailed (files.Manifest number)) old new ⊎ IfSome (held.manifests number) (λ bytes. IsUtf8 bytes → ⊥))
IsFileFault held (files.Segment number) old new = IfSome held.names (λ names. IsNewest names number) × IsUnread number (held.segments number) old new

-- J1 of these names: they are those of no journal; or there is no segment, and no manifest is given
abbrev pub IsUnfit : List (List ℕ) → (given : Option (List ℕ)) → Type 0
IsUnfit names given = IsForeign names ⊎ (IsEmptyJournal names × (given ≡ None))

-- the segment of that number is the newest, its manifest has other bytes, and it has no last line
abbrev pub IsOther : Held → ℕ → List ℕ → Type 0
IsOther held number given = IfSome held.names (λ names. IsNewest names number) × IfSome (held.manifests number) (λ bytes. given ≢ bytes) × IfSome (held.segments number) (λ bytes. EndsInSums bytes → ⊥)

-- Why a start was refused, by what the folder holds, as far as that is known, by the manifest that is given, and by the steps since.
abbrev pub Fails : Held → (given : Option (List ℕ)) → (old new : Option (List Step)) → OrMemory JournalFault → Type 0
Fails held given old new OutOfMemory = ⊤
Fails held given old new (Fault faults.Foreign) = IfSome held.names (λ names. IsUnfit names given)
Fails held given old new (Fault faults.OtherManifest) = (number : ℕ) × (bytes : List ℕ) × (given ≡ Some bytes) × IsOther held number bytes
Fails held given old new (Fault faults.InUse) = EndsIn IsRefused old new
Fails held given old new (Fault (faults.File file)) = IsFileFault held file old new
Fails held given old new (Fault faults.Unreadable) = (bytes : List ℕ) × (given ≡ Some bytes) × IfSome held.names IsEmptyJournal × (IsUtf8 bytes → ⊥)
Fails held given old new (Fault (faults.Given fault)) = (bytes : List ℕ) × (given ≡ Some bytes) × IfSome held.names IsEmptyJournal × HasFault bytes fault
Fails held given old new (Fault (faults.Manifest number fault)) = IfSome held.names (λ names. IsNewest names number) × IfSome (held.manifests number) (λ bytes. HasFault bytes fault)
Fails held given old new (Fault fault) = ⊥

-- the manifest that is given was accepted
abbrev pub IsAccepted : (given : Option (List ℕ)) → Type 0
IsAccepted given = (bytes : List ℕ) × (setup : Setup) × (given ≡ Some bytes) × IsConfigured bytes setup

-- the folder is not there
abbrev pub missing : Option (List Step) → Option (List Step)
missing steps = with_step steps (Failed files.Lock Missing)

-- the folder is made, if there was none, once the manifest that is given was accepted; and the lock is taken
abbrev pub IsEntered : (given : Option (List ℕ)) → (old new : Option (List Step)) → Type 0
IsEntered given old new = (new ≡ with_step old Locked) ⊎ (IsAccepted given × (new ≡ with_step (with_step (missing old) FolderMade) Locked))

-- the lock is not taken, and no more is made than the folder, once the manifest that is given was accepted
abbrev pub IsShutOut : (given : Option (List ℕ)) → (old new : Option (List Step)) → Type 0
IsShutOut given old new = IsQuiet old new ⊎ (IsAccepted given × IsQuiet (with_step (missing old) FolderMade) new)

-- The lock is taken, and from then on nothing is written.
abbrev pub HasEntered : (given : Option (List ℕ)) → (old new : Option (List Step)) → Type 0
HasEntered given old new = (mid : Option (List Step)) × IsEntered given old mid × IsQuiet mid new

-- No more is done than that.
abbrev pub HasNotEntered : (given : Option (List ℕ)) → (old new : Option (List Step)) → Type 0
HasNotEntered given old new = IsShutOut given old new ⊎ HasEntered given old new

-- The folder is not there, and nothing is done; or the lock is taken first.
abbrev pub IsMissingOrEntered : (given : Option (List ℕ)) → (old new : Option (List Step)) → Type 0
IsMissingOrEntered given old new = IsQuiet (missing old) new ⊎ HasEntered given old new

-- What a refused start has done, by its fault: whatever is told of a segment or its manifest is told with the lock taken, and so is what is
-- told of the names of a folder that is there.
abbrev pub HasEnteredFor : (given : Option (List ℕ)) → (old new : Option (List Step)) → OrMemory JournalFault → Type 0
HasEnteredFor given old new OutOfMemory = HasNotEntered given old new
HasEnteredFor given old new (Fault faults.InUse) = HasNotEntered given old new
HasEnteredFor given old new (Fault (faults.File files.Folder)) = HasNotEntered given old new
HasEnteredFor given old new (Fault (faults.File files.Lock)) = HasNotEntered given old new
HasEnteredFor given old new (Fault faults.Foreign) = IsMissingOrEntered given old new
HasEnteredFor given old new (Fault faults.Unreadable) = IsMissingOrEntered given old new
HasEnteredFor given old new (Fault (faults.Given fault)) = IsMissingOrEntered given old new
HasEnteredFor given old new (Fault fault) = HasEntered given old new

-- ---- a segment that is there

-- that is told of a segment of these bytes, if they are known, that has this fault: the fault, of a segment that is text; else why it is not read
abbrev pub IsToldOf : ℕ → Option (List ℕ) → RecoveryFault → (old new : Option (List Step)) → JournalFault → Type 0
IsToldOf number known fault old new (faults.Segment other told) = (other ≡ number) × (told ≡ fault) × IfSome known IsUtf8
IsToldOf number known fault old new (faults.File (files.Segment other)) = (other ≡ number) × IsUnread number known old new
IsToldOf number known fault old new other = ⊥

-- what is told of the segment of that number, whose bytes these are, if they are known
abbrev pub Replays : Setup → (number : ℕ) → Option (List ℕ) → Result Recovered (OrMemory JournalFault) → Type 0
Replays setup number known (Ok recovered) = (text : List ℕ) × IsAll known text × IsRecovered setup text recovered
Replays setup number known (Err OutOfMemory) = ⊤
Replays setup number known (Err (Fault (faults.Segment other fault))) = (other ≡ number) × IfSome known IsUtf8 × (text : List ℕ) × IsAll known text × Recovers setup text (Err (Fault fault))
Replays setup number known (Err (Fault (faults.File (files.Segment other)))) = other ≡ number
Replays setup number known (Err (Fault fault)) = ⊥

-- the steps of a replay
abbrev pub IsReplay : ℕ → Option (List Step) → Result Recovered (OrMemory JournalFault) → Option (List Step) → Type 0
IsReplay number old (Ok recovered) new = new ≡ with_step old (Opened number)
IsReplay number old (Err fault) new = IsQuiet old new

-- the fault is one of the text: a line of it is no line of a trace, or does not follow
abbrev pub IsTextFault : RecoveryFault → Type 0
IsTextFault Unread = ⊥
IsTextFault TooLong = ⊥
IsTextFault fault = ⊤

-- why the segment of that number, of these bytes, if they are known, was not read, if it was not; else the fault is one of its text
abbrev pub HasCause : (number : ℕ) → Option (List ℕ) → (old new : Option (List Step)) → OrMemory JournalFault → Type 0
HasCause number known old new (Fault (faults.File file)) = IsUnread number known old new
HasCause number known old new (Fault (faults.Segment other fault)) = IsTextFault fault
HasCause number known old new error = ⊤

-- ---- what is opened

-- why no segment is made: memory, or a call about that file that failed
abbrev pub IsUnmade : (old new : Option (List Step)) → OrMemory JournalFault → Type 0
IsUnmade old new OutOfMemory = ⊤
IsUnmade old new (Fault (faults.File file)) = EndsIn (IsFailed file) old new
IsUnmade old new (Fault fault) = ⊥

-- what is opened of a segment that was made
abbrev pub OpensFirst : Begun → (old new : Option (List Step)) → Result Recovered (OrMemory JournalFault) → Type 0
OpensFirst begun old new (Ok recovered) = IsFirst begun recovered
OpensFirst begun old new (Err error) = IsUnmade old new error ⊎ IsUnbegun begun error

-- what is opened of the segment of that number, whose bytes these are, if they are known: the engine to which its records lead
abbrev pub OpensNext : Setup → (number : ℕ) → Option (List ℕ) → (old new : Option (List Step)) → Result Recovered (OrMemory JournalFault) → Type 0
OpensNext setup number known old new (Ok recovered) = Replays setup number known (Ok recovered)
OpensNext setup number known old new (Err error) = Replays setup number known (Err error) × HasCause number known old new error

abbrev pub Opens : Begun → Held → (old new : Option (List Step)) → Result Recovered (OrMemory JournalFault) → Type 0
Opens begun held old new result = MatchOption begun.manifest (OpensNext begun.config begun.number (held.segments begun.number) old new result) (λ bytes. OpensFirst begun old new result)

-- The manifest is made, and then the segment of these bytes; or no more than the manifest.
abbrev pub Makes : (number : ℕ) (bytes first : List ℕ) → Option (List Step) → Result Recovered (OrMemory JournalFault) → Option (List Step) → Type 0
Makes number bytes first old (Ok recovered) new = new ≡ with_step (with_step old (ManifestMade number bytes)) (SegmentMade number first)
Makes number bytes first old (Err error) new = IsQuiet old new ⊎ IsQuiet (with_step old (ManifestMade number bytes)) new

-- A segment that has no last line is cut to its whole lines.
abbrev pub IsCutOff : Recovered → (old new : Option (List Step)) → Type 0
IsCutOff recovered old new = MatchBool recovered.is_ended (new ≡ old) (new ≡ with_step old (CutTo recovered.whole))

-- The segment of that number is opened, and cut so; or nothing is written.
abbrev pub Cuts : (number : ℕ) → Option (List Step) → Result Recovered (OrMemory JournalFault) → Option (List Step) → Type 0
Cuts number old (Ok recovered) new = IsCutOff recovered (with_step old (Opened number)) new
Cuts number old (Err error) new = IsQuiet old new

abbrev pub Prepares : Begun → Option (List Step) → Result Recovered (OrMemory JournalFault) → Option (List Step) → Type 0
Prepares begun old result new = MatchOption begun.manifest (Cuts begun.number old result new) (λ bytes. Makes begun.number bytes.now (made_of begun) old result new)

-- ---- inside

-- the segment is cut, if it has no last line; or that fails
abbrev pub CutsOff : ℕ → Recovered → Option (List Step) → Result Recovered (OrMemory JournalFault) → Option (List Step) → Type 0
CutsOff number recovered old (Ok cut) new = (cut ≡ recovered) × IsCutOff recovered old new
CutsOff number recovered old (Err OutOfMemory) new = IsQuiet old new
CutsOff number recovered old (Err (Fault (faults.File (files.Segment other)))) new = (other ≡ number) × IsQuiet old new × EndsIn (IsFailed (files.Segment number)) old new
CutsOff number recovered old (Err (Fault fault)) new = ⊥

-- a first segment, with the manifest that is given
abbrev pub FindsFirst : (given : Option (List ℕ)) → Begun → Type 0
FindsFirst given begun = MatchOption begun.manifest ⊥ (λ bytes. (begun.number ≡ 1) × (given ≡ Some bytes.now) × IsConfigured bytes.now begun.config)

-- why there is none
abbrev pub IsNoFirst : (given : Option (List ℕ)) → OrMemory JournalFault → Type 0
IsNoFirst None error = error ≡ Fault faults.Foreign
IsNoFirst (Some bytes) error = IsGivenFault bytes error

-- why there are no names
abbrev pub IsUnlisted : (old new : Option (List Step)) → OrMemory JournalFault → Type 0
IsUnlisted old new OutOfMemory = ⊤
IsUnlisted old new (Fault (faults.File files.Folder)) = EndsIn (IsFailed files.Folder) old new
IsUnlisted old new (Fault fault) = ⊥

-- whether a manifest of other bytes than these is given for a segment without a last line
abbrev pub IsGivenOther : (segment given : Option (List ℕ)) → List ℕ → Bool → Type 0
IsGivenOther segment None own true = ⊥
IsGivenOther segment None own false = ⊤
IsGivenOther segment (Some bytes) own true = (bytes ≢ own) × IfSome segment (λ its. EndsInSums its → ⊥)
IsGivenOther segment (Some bytes) own false = (bytes ≡ own) ⊎ IfSome segment EndsInSums

-- the segment of that number was read, and nothing was done; or why it was not recovered
abbrev pub ReadsSince : (number : ℕ) → Option (List Step) → Result Recovered (OrMemory RecoveryFault) → Option (List Step) → Type 0
ReadsSince number old (Err (Fault Unread)) new = IsQuiet old new × EndsIn (IsFailed (files.Segment number)) old new
ReadsSince number old result new = new ≡ old

-- the steps, after so many reads of the segment of that number that failed
abbrev pub after_failed : (number count : ℕ) → Option (List Step) → Option (List Step)
after_failed number zero old = old
after_failed number (suc n) old = with_step (after_failed number n old) (Failed (files.Segment number) NotDone)

-- why the lock was not taken, and what was done then
abbrev pub IsShutOutFor : (given : Option (List ℕ)) → (old new : Option (List Step)) → OrMemory JournalFault → Type 0
IsShutOutFor given old new OutOfMemory = IsShutOut given old new
IsShutOutFor given old new (Fault faults.InUse) = IsShutOut given old new
IsShutOutFor given old new (Fault (faults.File files.Folder)) = IsShutOut given old new
IsShutOutFor given old new (Fault (faults.File files.Lock)) = IsShutOut given old new
IsShutOutFor given old new (Fault faults.Foreign) = IsQuiet (missing old) new
IsShutOutFor given old new (Fault faults.Unreadable) = IsQuiet (missing old) new
IsShutOutFor given old new (Fault (faults.Given fault)) = IsQuiet (missing old) new
IsShutOutFor given old new (Fault fault) = ⊥

-- no more is made than the folder, once the manifest that is given was accepted
abbrev pub IsMadeOrNot : (given : Option (List ℕ)) → (old new : Option (List Step)) → Type 0
IsMadeOrNot given old new = IsQuiet old new ⊎ (IsAccepted given × IsQuiet (with_step old FolderMade) new)

-- the same of a folder that was missing, whose making may have failed, or the lock after it
abbrev pub IsNotMadeFor : (given : Option (List ℕ)) → (old new : Option (List Step)) → OrMemory JournalFault → Type 0
IsNotMadeFor given old new OutOfMemory = IsMadeOrNot given old new
IsNotMadeFor given old new (Fault faults.InUse) = IsMadeOrNot given old new
IsNotMadeFor given old new (Fault (faults.File files.Folder)) = IsMadeOrNot given old new
IsNotMadeFor given old new (Fault (faults.File files.Lock)) = IsMadeOrNot given old new
IsNotMadeFor given old new (Fault faults.Foreign) = IsQuiet old new
IsNotMadeFor given old new (Fault faults.Unreadable) = IsQuiet old new
IsNotMadeFor given old new (Fault (faults.Given fault)) = IsQuiet old new
IsNotMadeFor given old new (Fault fault) = ⊥

-- why a folder that is to be made was not, or its lock was not taken
abbrev pub IsUnmadeFor : OrMemory JournalFault → Type 0
IsUnmadeFor OutOfMemory = ⊤
IsUnmadeFor (Fault faults.InUse) = ⊤
IsUnmadeFor (Fault (faults.File files.Folder)) = ⊤
IsUnmadeFor (Fault (faults.File files.Lock)) = ⊤
IsUnmadeFor (Fault fault) = ⊥

-- of a folder that was missing: it is made, and the lock is taken
abbrev pub IsMadeAndLocked : (given : Option (List ℕ)) → (old new : Option (List Step)) → Type 0
IsMadeAndLocked given old new = IsAccepted given × (new ≡ with_step (with_step old FolderMade) Locked)
