-- Why a start was refused, told of more steps, and of what the folder holds.
use Rattle.std.proofs.Common.{◌≡◌, ◌≢◌, ◌∙◌, ◌⊎◌, inl, inr, ◌≤◌, ℕ, true, false, Option, Some, None, Result, Ok, Err, List, [], length, ap, refl, sym, subst, arith, IsUtf8}
use Rattle.std.specs.Prelude.{IfErr, IfSome, MatchResult, OnErr}
use Rattle.base.specs.declared.or_memory.OrMemory.{OrMemory}
use Rattle.base.specs.declared.or_memory.OrMemory.TheVariants.{OutOfMemory, Fault}
use Rattle.manifest.specs.Meaning.{HasFault}
use Rattle.host_recovery.specs.declared.recovering.Recovered.{Recovered}
use Rattle.host_recovery.specs.Sources.{IsAll}
use Rattle.host_recovery.specs.declared.fault.RecoveryFault.{RecoveryFault}
use Rattle.host_recovery.specs.declared.recovering.TheConstants.{MOST_WHOLE}
use Rattle.world.specs.World.{Setup}
use Rattle.host_journal.specs.Disks.{CutTo, EndsIn, Failed, FolderMade, Held, HoldsNothing, IsFailed, IsFailedBy, IsFolderMade, IsQuiet, IsRefused, IsText, Locked, Opened, Step, with_step}
use Rattle.host_journal.specs.Faults.{file_error}
use Rattle.host_journal.specs.Listings.{IsEmptyJournal}
use Rattle.host_journal.specs.Starts.{AreNoSegment, Cuts, CutsOff, IsCutOff, Fails, HasCause, HasEntered, HasEnteredFor, IsAccepted, IsEntered, IsFileFault, IsGivenOther, IsItsManifest, IsMadeOrNot, IsNewest, IsNoFirst, IsNotMadeFor, IsOther, IsOwnFault, IsShutOut, IsShutOutFor, IsTextFault, IsToldOf, IsUnfit, IsUnmade, IsUnmadeFor, IsUnread, IsUnreadSegment, OpensNext, Replays, missing}
use Rattle.host_journal.specs.declared.disk.DiskFault.{DiskFault}
use Rattle.host_journal.specs.declared.disk.DiskFault.TheVariants as disk
use Rattle.host_journal.specs.declared.fault.JournalFault.{JournalFault}
use Rattle.host_journal.specs.declared.fault.JournalFault.TheVariants as faults
use Rattle.host_journal.specs.declared.fault.JournalFile.{JournalFile}
use Rattle.host_journal.specs.declared.fault.JournalFile.TheVariants as files
use Rattle.host_journal.proofs.Quiet.{WentOn, ends_on, ends_step, quiet_same, quiet_step, quiet_trans, went_step, went_trans}

-- ---- of more steps

pub unread_on : (number : ℕ) (known : Option (List ℕ)) (old mid new : Option (List Step)) → WentOn old mid → IsUnread number known mid new → IsUnread number known old new
unread_on number known old mid new went unread = elim unread [ inl ends ↦ inl (ends_on (IsFailed (files.Segment number)) old mid new went ends) | inr none ↦ inr none ]

file_on : (held : Held) (file : JournalFile) (old mid new : Option (List Step)) → WentOn old mid → IsFileFault held file mid new → IsFileFault held file old new
file_on held files.Folder old mid new went fails = ends_on (IsFailed files.Folder) old mid new went fails
file_on held files.Lock old mid new went fails =
    elim fails [ inl ends ↦ inl (ends_on (IsFailedBy files.Lock disk.Failed) old mid new went ends) | inr its ↦ inr (its.0, ends_on IsFolderMade old mid its.0 went its.1, its.2) ]
file_on held (files.Manifest number) old mid new went fails = (fails.0, elim fails.1 [ inl ends ↦ inl (ends_on (IsFailed (files.Manifest number)) old mid new went ends) | inr bad ↦ inr bad ])
file_on held (files.Segment number) old mid new went fails = (fails.0, unread_on number (held.segments number) old mid new went fails.1)

pub fails_on : (held : Held) (given : Option (List ℕ)) (old mid new : Option (List Step)) (error : OrMemory JournalFault) → WentOn old mid → Fails held given mid new error → Fails held given old new error
fails_on held given old mid new OutOfMemory went fails = tt
fails_on held given old mid new (Fault faults.InUse) went fails = ends_on IsRefused old mid new went fails
fails_on held given old mid new (Fault (faults.File file)) went fails = file_on held file old mid new went fails
fails_on held given old mid new (Fault fault) went fails = fails

pub entered_on : (given : Option (List ℕ)) (old new : Option (List Step)) → IsEntered given old new → WentOn old new
entered_on given old new entered =
    elim entered [
      | inl there ↦ went_step old new Locked there
      | inr made ↦
          went_trans old (with_step (missing old) FolderMade) new
          (went_trans old (missing old) (with_step (missing old) FolderMade) (went_step old (missing old) _ refl) (went_step (missing old) (with_step (missing old) FolderMade) FolderMade refl))
          (went_step (with_step (missing old) FolderMade) new Locked made.1)
    ]

-- ---- of what the folder holds

empty_so : (names : Option (List (List ℕ))) → IfSome names (λ its. its ≡ []) → IfSome names IsEmptyJournal
empty_so None nothing = tt
empty_so (Some names) nothing = subst (λ (its : List (List ℕ)). IsEmptyJournal its) (sym nothing) (refl, record { none = refl; few = omega arith })

pub nothing_empty : (held : Held) → HoldsNothing held → IfSome held.names IsEmptyJournal
nothing_empty held nothing = empty_so held.names nothing

unfit_so : (names : Option (List (List ℕ))) → IfSome names IsEmptyJournal → IfSome names (λ its. IsUnfit its None)
unfit_so None empty = tt
unfit_so (Some names) empty = inr (empty, refl)

pub no_first : (held : Held) (given : Option (List ℕ)) (old new : Option (List Step)) (error : OrMemory JournalFault) → IfSome held.names IsEmptyJournal → IsNoFirst given error → Fails held given old new error
no_first held None old new error empty none = subst (λ (e : OrMemory JournalFault). Fails held None old new e) (sym none) (unfit_so held.names empty)
no_first held (Some bytes) old new OutOfMemory empty none = tt
no_first held (Some bytes) old new (Fault faults.Unreadable) empty none = (bytes, refl, empty, none)
no_first held (Some bytes) old new (Fault (faults.Given fault)) empty none = (bytes, refl, empty, none)
no_first held (Some bytes) old new (Fault fault) empty none = absurd none

pub no_first_all : {T : Type 0} (held : Held) (given : Option (List ℕ)) (old new : Option (List Step)) (result : Result T (OrMemory JournalFault)) → IfSome held.names IsEmptyJournal → IfErr result (IsNoFirst given) → IfErr result (Fails held given old new)
no_first_all held given old new (Ok done) empty none = tt
no_first_all held given old new (Err error) empty none = no_first held given old new error empty none

-- what holds of the bytes holds of those that are known
pub at_known : (P : List ℕ → Type 0) (known : Option (List ℕ)) (bytes : List ℕ) → IsText known bytes → P bytes → IfSome known P
at_known P None bytes is holds = tt
at_known P (Some its) bytes is holds = subst P is holds

other_at : (known : Option (List ℕ)) (bytes own : List ℕ) → IsText known own → bytes ≢ own → IfSome known (λ its. bytes ≢ its)
other_at None bytes own is other = tt
other_at (Some its) bytes own is other = λ same. other (same ∙ sym is)

pub other_manifest : (held : Held) (number : ℕ) (given : Option (List ℕ)) (own : List ℕ) → IfSome held.names (λ names. IsNewest names number) → IsText (held.manifests number) own → IsGivenOther (held.segments number) given own true
    → (n : ℕ) × (bytes : List ℕ) × (given ≡ Some bytes) × IsOther held n bytes
other_manifest held number None own newest is other = absurd other
other_manifest held number (Some bytes) own newest is other = (number, bytes, refl, (newest, other_at (held.manifests number) bytes own is other.0, other.1))

same_at : (known : Option (List ℕ)) (bytes own : List ℕ) → IsText known own → bytes ≡ own → IfSome known (λ its. bytes ≡ its)
same_at None bytes own is same = tt
same_at (Some its) bytes own is same = same ∙ is

-- the manifest that is given is that of the segment, if that one has no last line
pub its_manifest : (held : Held) (number : ℕ) (given : Option (List ℕ)) (own : List ℕ) → IsText (held.manifests number) own → IsGivenOther (held.segments number) given own false → IsItsManifest held number given
its_manifest held number None own is other = tt
its_manifest held number (Some bytes) own is other = elim other [ inl same ↦ inl (same_at (held.manifests number) bytes own is same) | inr last ↦ inr last ]

-- why the newest segment or its manifest was not read
pub own_refused : (held : Held) (number : ℕ) (given : Option (List ℕ)) (bytes : List ℕ) (old new : Option (List Step)) (error : OrMemory JournalFault) → IfSome held.names (λ names. IsNewest names number) → IsText (held.manifests number) bytes
    → IsOwnFault number bytes error → Fails held given old new error
own_refused held number given bytes old new OutOfMemory newest is own = tt
own_refused held number given bytes old new (Fault (faults.File (files.Manifest other))) newest is own =
    subst (λ (n : ℕ). IfSome held.names (λ names. IsNewest names n) × (EndsIn (IsFailed (files.Manifest n)) old new ⊎ IfSome (held.manifests n) (λ its. IsUtf8 its → ⊥))) (sym own.0) (newest, inr (at_known (λ (its : List ℕ). IsUtf8 its → ⊥) (held.manifests number) bytes is own.1))
own_refused held number given bytes old new (Fault (faults.Manifest other fault)) newest is own =
    subst (λ (n : ℕ). IfSome held.names (λ names. IsNewest names n) × IfSome (held.manifests n) (λ its. HasFault its fault)) (sym own.0) (newest, at_known (λ (its : List ℕ). HasFault its fault) (held.manifests number) bytes is own.1)
own_refused held number given bytes old new (Fault fault) newest is own = absurd own

pub unread_refused : (held : Held) (number : ℕ) (given : Option (List ℕ)) (old mid new : Option (List Step)) (error : OrMemory JournalFault) → IfSome held.names (λ names. IsNewest names number) → WentOn old mid
    → IsUnreadSegment number (held.segments number) mid new error → Fails held given old new error
unread_refused held number given old mid new OutOfMemory newest went unread = tt
unread_refused held number given old mid new (Fault (faults.File (files.Segment other))) newest went unread =
    subst (λ (n : ℕ). IfSome held.names (λ names. IsNewest names n) × IsUnread n (held.segments n) old new) (sym unread.0) (newest, unread_on number (held.segments number) old mid new went unread.1)
unread_refused held number given old mid new (Fault fault) newest went unread = absurd unread

-- ---- of what comes after

pub fails_after_all : {T : Type 0} (held : Held) (given : Option (List ℕ)) (old mid new : Option (List Step)) (result : Result T (OrMemory JournalFault)) → WentOn old mid → IfErr result (Fails held given mid new) → IfErr result (Fails held given old new)
fails_after_all held given old mid new (Ok done) went fails = tt
fails_after_all held given old mid new (Err error) went fails = fails_on held given old mid new error went fails

pub fails_after : {T : Type 0} (held : Held) (given : Option (List ℕ)) (old mid new : Option (List Step)) (step : Step) (result : Result T (OrMemory JournalFault)) → mid ≡ with_step old step → IfErr result (Fails held given mid new) → IfErr result (Fails held given old new)
fails_after held given old mid new step result is fails = fails_after_all held given old mid new result (went_step old mid step is) fails

-- ---- a call that failed

pub unmade : (old mid new : Option (List Step)) (fault : DiskFault) (file : JournalFile) → WentOn old mid → new ≡ with_step mid (Failed file fault) → IsUnmade old new (file_error fault file)
unmade old mid new disk.OutOfMemory file went is = tt
unmade old mid new disk.Missing file went is = ends_on (IsFailed file) old mid new went (ends_step (IsFailed file) mid new (Failed file disk.Missing) refl is)
unmade old mid new disk.Failed file went is = ends_on (IsFailed file) old mid new went (ends_step (IsFailed file) mid new (Failed file disk.Failed) refl is)

-- that of the lock, where the folder was made before
pub unlocked_after : (held : Held) (given : Option (List ℕ)) (old mid new : Option (List Step)) (fault : DiskFault) → mid ≡ with_step old FolderMade → new ≡ with_step mid (Failed files.Lock fault) → Fails held given old new (file_error fault files.Lock)
unlocked_after held given old mid new disk.OutOfMemory made is = tt
unlocked_after held given old mid new disk.Missing made is = inr (mid, ends_step IsFolderMade old mid FolderMade tt made, ends_step (IsFailed files.Lock) mid new (Failed files.Lock disk.Missing) refl is)
unlocked_after held given old mid new disk.Failed made is = inr (mid, ends_step IsFolderMade old mid FolderMade tt made, ends_step (IsFailed files.Lock) mid new (Failed files.Lock disk.Failed) refl is)

pub cut_failed : (number : ℕ) (recovered : Recovered) (old new : Option (List Step)) (fault : DiskFault) → new ≡ with_step old (Failed (files.Segment number) fault) → CutsOff number recovered old (Err (file_error fault (files.Segment number))) new
cut_failed number recovered old new disk.OutOfMemory is = quiet_step old new (Failed (files.Segment number) disk.OutOfMemory) refl is
cut_failed number recovered old new disk.Missing is = (refl, quiet_step old new (Failed (files.Segment number) disk.Missing) refl is, ends_step (IsFailed (files.Segment number)) old new (Failed (files.Segment number) disk.Missing) refl is)
cut_failed number recovered old new disk.Failed is = (refl, quiet_step old new (Failed (files.Segment number) disk.Failed) refl is, ends_step (IsFailed (files.Segment number)) old new (Failed (files.Segment number) disk.Failed) refl is)

-- ---- a segment that was not replayed

pub told_cause : (number : ℕ) (known : Option (List ℕ)) (fault : RecoveryFault) (old mid new : Option (List Step)) (told : JournalFault) → IsTextFault fault → WentOn old mid → IsToldOf number known fault mid new told → HasCause number known old new (Fault told)
told_cause number known fault old mid new (faults.File (files.Segment other)) of_text went told = unread_on number known old mid new went told.1
told_cause number known fault old mid new (faults.Segment other own) of_text went told = subst IsTextFault (sym told.1) of_text
told_cause number known fault old mid new other of_text went told = absurd told

pub too_long : (known : Option (List ℕ)) (text : List ℕ) → IsAll known text → MOST_WHOLE ≤ length text → AreNoSegment known
too_long None text is many = tt
too_long (Some bytes) text is many = inr (subst (λ (t : List ℕ). MOST_WHOLE ≤ length t) is many)

-- ---- a segment that was replayed, and is cut

pub opens_next : (setup : Setup) (number : ℕ) (known : Option (List ℕ)) (old mid new : Option (List Step)) (recovered : Recovered) (result : Result Recovered (OrMemory JournalFault)) → mid ≡ with_step old (Opened number)
    → Replays setup number known (Ok recovered) → CutsOff number recovered mid result new → OpensNext setup number known old new result
opens_next setup number known old mid new recovered (Ok cut) opened replays cuts =
    subst (λ (r : Recovered). Replays setup number known (Ok r)) (sym cuts.0) replays
opens_next setup number known old mid new recovered (Err OutOfMemory) opened replays cuts = (tt, tt)
opens_next setup number known old mid new recovered (Err (Fault (faults.File (files.Segment other)))) opened replays cuts = (cuts.0, inl (ends_on (IsFailed (files.Segment number)) old mid new (went_step old mid (Opened number) opened) cuts.2))
opens_next setup number known old mid new recovered (Err (Fault fault)) opened replays cuts = absurd cuts

pub cuts_next : (number : ℕ) (old mid new : Option (List Step)) (recovered : Recovered) (result : Result Recovered (OrMemory JournalFault)) → mid ≡ with_step old (Opened number) → CutsOff number recovered mid result new → Cuts number old result new
cuts_next number old mid new recovered (Ok cut) opened cuts =
    subst (λ (r : Recovered). IsCutOff r (with_step old (Opened number)) new) (sym cuts.0) (subst (λ (s : Option (List Step)). IsCutOff recovered s new) opened cuts.1)
cuts_next number old mid new recovered (Err OutOfMemory) opened cuts = quiet_trans old mid new (quiet_step old mid (Opened number) refl opened) cuts
cuts_next number old mid new recovered (Err (Fault (faults.File (files.Segment other)))) opened cuts = quiet_trans old mid new (quiet_step old mid (Opened number) refl opened) cuts.1
cuts_next number old mid new recovered (Err (Fault fault)) opened cuts = absurd cuts

-- ---- the lock, by the fault

pub entered_for : (given : Option (List ℕ)) (old new : Option (List Step)) (error : OrMemory JournalFault) → HasEntered given old new → HasEnteredFor given old new error
entered_for given old new OutOfMemory entered = inr entered
entered_for given old new (Fault faults.InUse) entered = inr entered
entered_for given old new (Fault (faults.File files.Folder)) entered = inr entered
entered_for given old new (Fault (faults.File files.Lock)) entered = inr entered
entered_for given old new (Fault faults.Foreign) entered = inr entered
entered_for given old new (Fault faults.Unreadable) entered = inr entered
entered_for given old new (Fault (faults.Given fault)) entered = inr entered
entered_for given old new (Fault fault) entered = entered

pub shut_out_for : (given : Option (List ℕ)) (old new : Option (List Step)) (error : OrMemory JournalFault) → IsShutOutFor given old new error → HasEnteredFor given old new error
shut_out_for given old new OutOfMemory out = inl out
shut_out_for given old new (Fault faults.InUse) out = inl out
shut_out_for given old new (Fault (faults.File files.Folder)) out = inl out
shut_out_for given old new (Fault (faults.File files.Lock)) out = inl out
shut_out_for given old new (Fault faults.Foreign) out = inl out
shut_out_for given old new (Fault faults.Unreadable) out = inl out
shut_out_for given old new (Fault (faults.Given fault)) out = inl out
shut_out_for given old new (Fault fault) out = absurd out

-- found with the lock taken
pub found_for : {T : Type 0} (given : Option (List ℕ)) (old mid new : Option (List Step)) (result : Result T (OrMemory JournalFault)) → IsEntered given old mid → IsQuiet mid new → MatchResult result (λ done. HasEntered given old new) (HasEnteredFor given old new)
found_for given old mid new (Ok done) entered quiet = (mid, entered, quiet)
found_for given old mid new (Err error) entered quiet = entered_for given old new error (mid, entered, quiet)

-- of a manifest that was not accepted nothing is made
pub no_first_for : (given : Option (List ℕ)) (steps : Option (List Step)) (error : OrMemory JournalFault) → IsNoFirst given error → IsNotMadeFor given steps steps error
no_first_for None steps error none = subst (λ (e : OrMemory JournalFault). IsNotMadeFor None steps steps e) (sym none) (quiet_same steps steps refl)
no_first_for (Some bytes) steps OutOfMemory none = inl (quiet_same steps steps refl)
no_first_for (Some bytes) steps (Fault faults.Unreadable) none = quiet_same steps steps refl
no_first_for (Some bytes) steps (Fault (faults.Given fault)) none = quiet_same steps steps refl
no_first_for (Some bytes) steps (Fault fault) none = absurd none

made_or_not : (given : Option (List ℕ)) (old new : Option (List Step)) → IsAccepted given → IsQuiet old new ⊎ IsQuiet (with_step old FolderMade) new → IsMadeOrNot given old new
made_or_not given old new accepted steps = elim steps [ inl quiet ↦ inl quiet | inr made ↦ inr (accepted, made) ]

-- of one that was, no more than the folder
pub unmade_for : {T : Type 0} (given : Option (List ℕ)) (old new : Option (List Step)) (result : Result T (OrMemory JournalFault)) → IsAccepted given → IfErr result IsUnmadeFor → OnErr result (IsQuiet old new ⊎ IsQuiet (with_step old FolderMade) new)
    → IfErr result (IsNotMadeFor given old new)
unmade_for given old new (Ok done) accepted which steps = tt
unmade_for given old new (Err OutOfMemory) accepted which steps = made_or_not given old new accepted steps
unmade_for given old new (Err (Fault faults.InUse)) accepted which steps = made_or_not given old new accepted steps
unmade_for given old new (Err (Fault (faults.File files.Folder))) accepted which steps = made_or_not given old new accepted steps
unmade_for given old new (Err (Fault (faults.File files.Lock))) accepted which steps = made_or_not given old new accepted steps
unmade_for given old new (Err (Fault fault)) accepted which steps = absurd which

shut_out : (given : Option (List ℕ)) (old mid new : Option (List Step)) → mid ≡ missing old → IsMadeOrNot given mid new → IsShutOut given old new
shut_out given old mid new is out = elim out [
  | inl quiet ↦ inl (quiet_trans old mid new (quiet_step old mid (Failed files.Lock disk.Missing) refl is) quiet)
  | inr made ↦ inr (made.0, subst (λ (s : Option (List Step)). IsQuiet (with_step s FolderMade) new) is made.1)
]

-- where the lock said that the folder is missing
pub missing_for : {T : Type 0} (given : Option (List ℕ)) (old mid new : Option (List Step)) (result : Result T (OrMemory JournalFault)) → mid ≡ missing old → IfErr result (IsNotMadeFor given mid new) → IfErr result (IsShutOutFor given old new)
missing_for given old mid new (Ok done) is out = tt
missing_for given old mid new (Err OutOfMemory) is out = shut_out given old mid new is out
missing_for given old mid new (Err (Fault faults.InUse)) is out = shut_out given old mid new is out
missing_for given old mid new (Err (Fault (faults.File files.Folder))) is out = shut_out given old mid new is out
missing_for given old mid new (Err (Fault (faults.File files.Lock))) is out = shut_out given old mid new is out
missing_for given old mid new (Err (Fault faults.Foreign)) is out = subst (λ (s : Option (List Step)). IsQuiet s new) is out
missing_for given old mid new (Err (Fault faults.Unreadable)) is out = subst (λ (s : Option (List Step)). IsQuiet s new) is out
missing_for given old mid new (Err (Fault (faults.Given fault))) is out = subst (λ (s : Option (List Step)). IsQuiet s new) is out
missing_for given old mid new (Err (Fault fault)) is out = absurd out
