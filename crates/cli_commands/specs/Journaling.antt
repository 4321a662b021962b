-- What a start on a journal has done, and what an audit of one reports, with the status of both.
use Rattle.std.specs.Prelude.{◌≡◌, ◌<◌, ◌≤◌, ◌⊎◌, ◌++◌, [], ℕ, zero, suc, Bool, true, false, List, Option, Some, None, MatchOption, Result, Ok, Err, IfErr, ⊤, codes, decimal, if◌then◌else◌}
use Rattle.base.specs.declared.or_memory.OrMemory.{OrMemory}
use Rattle.base.specs.declared.or_memory.OrMemory.TheVariants.{OutOfMemory, Fault}
use Rattle.world_calls.specs.declared.record.Record.{Record}
use Rattle.host_metrics.specs.Counted.{MetricsState}
use Rattle.host_live.specs.Inputs.{CameState, known_of}
use Rattle.host_live.specs.Metering.{CountsTo}
use Rattle.host_live.specs.Turns.{IsAt, Point}
use Rattle.host_live.specs.declared.lines.Lines.{Lines}
use Rattle.host_live.specs.declared.manner.Manner.{Manner}
use Rattle.host_recovery.specs.declared.fault.RecoveryFault.TheVariants.{Unread as NotRead, TooLong}
use Rattle.host_recovery.specs.declared.recovering.Recovered.{Recovered}
use Rattle.engine_carried.specs.declared.numbering.Numbering.TheVariants.{Same as SameNumbers}
use Rattle.engine_core.specs.ByNumber.{NumberedState}
use Rattle.host_journal.specs.Disks.{Held, IsText, Step}
use Rattle.host_journal.specs.Follows.{IsManifestUnread, IsNext, IsNotNext}
use Rattle.host_journal.specs.Made.{first_line}
use Rattle.host_journal.specs.declared.following.NextManifest.{NextManifest}
use Rattle.host_journal.specs.declared.following.NextManifest.TheVariants.{Given, Same}
use Rattle.host_journal.specs.Journals.{MayStop, ServesInOrder}
use Rattle.host_journal.specs.Starts.{Fails, Finds, HasEntered, HasEnteredFor, Opens, Prepares}
use Rattle.host_journal.specs.declared.auditing.Audited.{Audited}
use Rattle.host_journal.specs.declared.beginning.Begun.{Begun}
use Rattle.host_journal.specs.declared.fault.JournalFault.{JournalFault}
use Rattle.cli_commands.specs.Following.{IsFollowing, MayRefuse}
use Rattle.cli_commands.specs.Readings.{Reading}
use Rattle.cli_commands.specs.declared.following.Next.{Next}
use Rattle.cli_commands.specs.declared.serving.Outcome.{Outcome}
use Rattle.cli_commands.specs.declared.serving.Outcome.TheVariants.{Ended, Followed}
use Rattle.host_journal.specs.declared.fault.JournalFault.TheVariants as faults

-- ---- the status

-- 1 for what is refused, 2 for files and for what cannot be
abbrev pub status_of_fault : JournalFault → ℕ
status_of_fault faults.Foreign = 1
status_of_fault faults.OtherManifest = 1
status_of_fault faults.InUse = 1
status_of_fault (faults.File file) = 2
status_of_fault faults.Unreadable = 2
status_of_fault (faults.Given fault) = 1
status_of_fault (faults.Manifest number fault) = 1
status_of_fault (faults.Segment number NotRead) = 2
status_of_fault (faults.Segment number TooLong) = 2
status_of_fault (faults.Segment number fault) = 1
status_of_fault faults.RunLive = 1
status_of_fault faults.DoesNotFit = 1
status_of_fault (faults.NotContinued number) = 1
status_of_fault faults.Unread = 2
status_of_fault faults.Unwritten = 2
status_of_fault faults.InternalError = 2

-- the status of a fault; or 2, if the fault could not be reported
abbrev pub IsStatusOf : JournalFault → ℕ → Type 0
IsStatusOf fault status = (status ≡ status_of_fault fault) ⊎ (status ≡ 2)

-- that of an error, which is 2 for want of memory
abbrev pub IsStatus : OrMemory JournalFault → ℕ → Type 0
IsStatus OutOfMemory status = status ≡ 2
IsStatus (Fault fault) status = IsStatusOf fault status

-- what became of the engine of that number that was served so, which that is to follow, if it was decided so
abbrev pub HasFollowed : (number : ℕ) → Option Next → Outcome → Type 0
HasFollowed number None outcome = outcome ≡ Ended 2
HasFollowed number (Some next) outcome = ((number < next.number) × (outcome ≡ Followed next)) ⊎ ((next.number ≤ number) × (outcome ≡ Ended 2))

abbrev pub IsOutcome : (number : ℕ) → Result Bool (OrMemory JournalFault) → Option Next → Outcome → Type 0
IsOutcome number (Ok false) next outcome = outcome ≡ Ended 0
IsOutcome number (Ok true) next outcome = HasFollowed number next outcome
IsOutcome number (Err error) next outcome = (status : ℕ) × (outcome ≡ Ended status) × IsStatus error status

-- ---- what is counted

-- These records were made by an engine that began so, and counted. Of what was reported nothing is said.
abbrev pub IsCountedFrom : NumberedState → (before after : MetricsState) → List Record → Type 0
IsCountedFrom engine before after more = CountsTo engine before (λ metrics now. ⊤) after more

-- ---- a segment

-- An engine of this segment, whose manifest has these bytes, and which stands after so many records, was served: no byte went out that is not
-- in the segment, what was appended continues the history by what the lines that came asked for, and its records were counted over what was
-- counted before. If another one is to follow, it is that.
pub record IsServedTo (MayRead : Reading → Type 0) (engine : NumberedState) (count : ℕ) (begun : Begun) (own : List ℕ) (manner : Manner) (is_synced : Bool) (owed : Option ℕ) (old : Option (List Step)) (began : Option CameState) (lines : Lines) (before : MetricsState) (new : Option (List Step)) (came : Option CameState) (later : Lines) (after : MetricsState) (outcome : Outcome) : Type 0 where
  pub result : Result Bool (OrMemory JournalFault)
  pub next : Option Next
  pub order : (point : Point) → IsAt point began lines → ServesInOrder engine count manner (MayRefuse MayRead begun.number own) owed point came later (λ how now. IsFollowing MayRead begun.number own how now next) (IsCountedFrom engine before after) is_synced (first_line begun) old new result
  pub stop : IfErr result (MayStop begun.number old new)
  pub is_outcome : IsOutcome begun.number result next outcome

-- the segment that is to be made is that
pub record IsBegunBy (next : Next) (begun : Begun) : Type 0 where
  pub number : begun.number ≡ next.number
  pub config : begun.config ≡ next.config
  pub manifest : MatchOption begun.manifest ⊥ (λ bytes. bytes.now ≡ next.bytes.items)
  pub carried : begun.carried ≡ next.carried

-- What was served of this outcome: nothing more at its end; or the segment that follows was made, its engine was served, and what was served
-- after that; or it was not made. An engine's counters go on from those that the one before it left.
pub data ServesOn (MayRead : Reading → Type 0) (manner : Manner) (is_synced : Bool) : Outcome → (old : Option (List Step)) (began : Option CameState) (lines : Lines) (before : MetricsState) → (new : Option (List Step)) (came : Option CameState) (after : MetricsState) (status : ℕ) → Type 0 where
  at_its_end : (status : ℕ) (steps : Option (List Step)) (came : Option CameState) (lines : Lines) (counts : MetricsState) → ServesOn MayRead manner is_synced (Ended status) steps came lines counts steps came counts status
  not_made : (next : Next) (begun : Begun) (later : Held) (old new : Option (List Step)) (came : Option CameState) (lines : Lines) (counts : MetricsState) (error : OrMemory JournalFault) (status : ℕ) → IsBegunBy next begun → Opens begun later old new (Err error) → Prepares begun old (Err error) new
      → IsStatus error status → ServesOn MayRead manner is_synced (Followed next) old came lines counts new came counts status
  made : (next : Next) (begun : Begun) (later : Held) (after : Recovered) (old opened mid new : Option (List Step)) (began came last : Option CameState) (lines more : Lines) (before counts left : MetricsState) (outcome : Outcome) (status : ℕ) → IsBegunBy next begun → Opens begun later old opened (Ok after) → Prepares begun old (Ok after) opened
      → IsServedTo MayRead after.engine after.records begun next.bytes.items manner is_synced (Some lines.number) opened began lines before mid came more counts outcome → ServesOn MayRead manner is_synced outcome mid came more counts new last left status
      → ServesOn MayRead manner is_synced (Followed next) old began lines before new last left status

-- ---- a start

-- no line came yet
abbrev pub IsFirstLines : Option CameState → Lines → Type 0
IsFirstLines came lines = IsAt (record { base = known_of came; told = []; number = 0 }) came lines

-- the bytes of the manifest in force: those of a segment that is to be made; else those that stand beside it
abbrev pub IsOwn : Held → Begun → List ℕ → Type 0
IsOwn held begun own = MatchOption begun.manifest (IsText (held.manifests begun.number) own) (λ bytes. bytes.now ≡ own)

abbrev pub IsOfMade : Begun → List ℕ → Type 0
IsOfMade begun own = MatchOption begun.manifest ⊥ (λ bytes. bytes.now ≡ own)

-- The segment was found, and opened.
pub record HasOpened (held : Held) (given : Option (List ℕ)) (old : Option (List Step)) (begun : Begun) (recovered : Recovered) (new : Option (List Step)) : Type 0 where
  pub found : Option (List Step)
  pub finds : Finds held given begun
  pub entered : HasEntered given old found
  pub opens : Opens begun held found new (Ok recovered)
  pub prepares : Prepares begun found (Ok recovered) new

-- the manifest of the segment that follows is the one that is given; else that of the segment before
abbrev pub IsNextGiven : (given own : Option (List ℕ)) → NextManifest → Type 0
IsNextGiven None own (Same bytes) = IsText own bytes.now
IsNextGiven None own (Given bytes) = ⊥
IsNextGiven (Some its) own (Given bytes) = bytes.now ≡ its
IsNextGiven (Some its) own (Same bytes) = ⊥

-- The engine of that segment was shut, and this segment is to follow.
pub record HasNext (held : Held) (given : Option (List ℕ)) (old : Option (List Step)) (next : Begun) (new : Option (List Step)) : Type 0 where
  pub begun : Begun
  pub recovered : Recovered
  pub opened : HasOpened held given old begun recovered new
  pub is_ended : recovered.is_ended ≡ true
  pub manifest : NextManifest
  pub which : IsNextGiven given (held.manifests begun.number) manifest
  pub is_next : IsNext begun.number recovered.engine manifest SameNumbers next

-- why no segment follows the one of that number, whose engine this is
pub record IsUnfollowed (held : Held) (given : Option (List ℕ)) (number : ℕ) (engine : NumberedState) (error : OrMemory JournalFault) : Type 0 where
  pub manifest : NextManifest
  pub which : IsNextGiven given (held.manifests number) manifest
  pub not_next : IsNotNext number engine manifest error

-- What a start on a journal did, by the steps of its disk, by what of the input came, and by its status, from what the folder held and the
-- manifest that is given.
pub data Starts (MayRead : Reading → Type 0) (manner : Manner) (is_synced : Bool) (held : Held) (given : Option (List ℕ)) (old : Option (List Step)) (began : Option CameState) (before : MetricsState) : (new : Option (List Step)) (came : Option CameState) (after : MetricsState) (status : ℕ) → Type 0 where
  -- It was refused before a segment was found, and nothing was read.
  refused : (new : Option (List Step)) (error : OrMemory JournalFault) (status : ℕ) → Fails held given old new error → HasEnteredFor given old new error → IsStatus error status → Starts MayRead manner is_synced held given old began before new began before status
  -- The segment was found, and its manifest could not be read once more. Nothing was read.
  unread : (begun : Begun) (found new : Option (List Step)) (error : OrMemory JournalFault) (status : ℕ) → Finds held given begun → HasEntered given old found → IsManifestUnread begun.number found error new → IsStatus error status → Starts MayRead manner is_synced held given old began before new began before status
  -- The segment was found, and could not be opened. Nothing was read.
  unopened : (begun : Begun) (found new : Option (List Step)) (error : OrMemory JournalFault) (status : ℕ) → Finds held given begun → HasEntered given old found → Opens begun held found new (Err error) → Prepares begun found (Err error) new
      → IsStatus error status → Starts MayRead manner is_synced held given old began before new began before status
  -- It was opened, its engine had not been shut, and was served, and then those that follow it.
  served : (begun : Begun) (recovered : Recovered) (own : List ℕ) (opened mid new : Option (List Step)) (came last : Option CameState) (lines more : Lines) (counts left : MetricsState) (outcome : Outcome) (status : ℕ) → HasOpened held given old begun recovered opened → recovered.is_ended ≡ false → IsOwn held begun own → IsFirstLines began lines
      → IsServedTo MayRead recovered.engine recovered.records begun own manner is_synced None opened began lines before mid came more counts outcome → ServesOn MayRead manner is_synced outcome mid came more counts new last left status → Starts MayRead manner is_synced held given old began before new last left status
  -- Its engine had been shut, and no segment follows it. Nothing was read.
  unfollowed : (begun : Begun) (recovered : Recovered) (opened : Option (List Step)) (error : OrMemory JournalFault) (status : ℕ) → HasOpened held given old begun recovered opened → recovered.is_ended ≡ true
      → IsUnfollowed held given begun.number recovered.engine error → IsStatus error status → Starts MayRead manner is_synced held given old began before opened began before status
  -- The next segment was not made. Nothing was read.
  unmade : (next : Begun) (later : Held) (opened new : Option (List Step)) (error : OrMemory JournalFault) (status : ℕ) → HasNext held given old next opened → Opens next later opened new (Err error) → Prepares next opened (Err error) new
      → IsStatus error status → Starts MayRead manner is_synced held given old began before new began before status
  -- It was made, and its engine was served, and then those that follow it.
  continued : (next : Begun) (later : Held) (after : Recovered) (own : List ℕ) (opened made_so mid new : Option (List Step)) (came last : Option CameState) (lines more : Lines) (counts left : MetricsState) (outcome : Outcome) (status : ℕ) → HasNext held given old next opened → Opens next later opened made_so (Ok after) → Prepares next opened (Ok after) made_so
      → IsOfMade next own → IsFirstLines began lines → IsServedTo MayRead after.engine after.records next own manner is_synced None made_so began lines before mid came more counts outcome → ServesOn MayRead manner is_synced outcome mid came more counts new last left status
      → Starts MayRead manner is_synced held given old began before new last left status

-- ---- inside

-- of an outcome that is no failure
abbrev pub IfServed : Outcome → Type 0 → Type 0
IfServed (Ended zero) It = It
IfServed (Ended (suc status)) It = ⊤
IfServed (Followed next) It = It

-- of one that is followed
abbrev pub IfFollowed : Outcome → Type 0 → Type 0
IfFollowed (Ended status) It = ⊤
IfFollowed (Followed next) It = It

-- of one at the end of the input
abbrev pub IfEnded : Outcome → Type 0 → Type 0
IfEnded (Ended zero) It = It
IfEnded (Ended (suc status)) It = ⊤
IfEnded (Followed next) It = ⊤

-- what follows has a greater number
abbrev pub IsOnward : ℕ → Outcome → Type 0
IsOnward number (Ended status) = ⊤
IsOnward number (Followed next) = number < next.number

abbrev pub HasStatus : Outcome → Type 0
HasStatus (Ended status) = status ≤ 2
HasStatus (Followed next) = ⊤

-- ---- an audit

-- what an audit that accepts a journal puts out
abbrev pub audit_text : Audited → List ℕ
audit_text audited = decimal audited.segments ++ codes " segments, " ++ decimal audited.records ++ codes " records, accepted" ++ (if audited.is_open then codes ", open" else []) ++ codes "\n"
