-- What an audit found, and why it ended.
use Rattle.std.proofs.Common.{◌≡◌, ◌∙◌, inl, inr, ◌≤◌, ◌<◌, ◌+◌, ◌-◌, ◌^◌, ℕ, Bool, true, false, not, arith, Option, Some, None, Result, Ok, Err, List, refl, sym, ap, subst, IsUtf8}
use Rattle.std.specs.Prelude.{IfErr, IfOk, IfSome}
use Rattle.base.specs.declared.or_memory.OrMemory.{OrMemory}
use Rattle.base.specs.declared.or_memory.OrMemory.TheVariants.{OutOfMemory, Fault}
use Rattle.manifest.specs.Meaning.{HasFault}
use Rattle.world.specs.World.{Setup}
use Rattle.engine_core.specs.ByNumber.{NumberedState}
use Rattle.trace.specs.declared.fault.TraceFault.TheVariants.{Line}
use Rattle.host_recovery.specs.declared.fault.RecoveryFault.TheVariants as torn
use Rattle.host_recovery.specs.declared.recovering.Recovered.{Recovered}
use Rattle.host_journal.specs.Audits.{ArePassed, FailsAt, FailsInSegment, FailsToAudit, HasOwnFault, IsConfiguredBy, IsJoined, IsLeftFor, IsNoText, IsOrdered, IsReached, IsReplayed, counted, line_behind, none_passed, one_more}
use Rattle.host_journal.specs.Disks.{EndsIn, Failed, Held, IsFailed, IsText, Step, with_step}
use Rattle.host_journal.specs.Faults.{file_error}
use Rattle.host_journal.specs.declared.disk.DiskFault.{DiskFault}
use Rattle.host_journal.specs.declared.disk.DiskFault.TheVariants as disk
use Rattle.host_journal.specs.Journals.{IsConfigured}
use Rattle.host_journal.specs.Linked.{BeginsSo, HasFront, IsFrontUnder, IsLeft, IsLinked, IsLinkedUnder, IsUnlinked, IsUnprintable, Judges}
use Rattle.host_journal.specs.Starts.{HasCause, IsOwnFault, IsUnread, IsUnreadSegment, Replays}
use Rattle.host_journal.specs.declared.auditing.Reached.{Reached}
use Rattle.host_journal.specs.declared.fault.JournalFault.{JournalFault}
use Rattle.host_journal.specs.declared.fault.JournalFault.TheVariants as faults
use Rattle.host_journal.specs.declared.fault.JournalFile.TheVariants as files
use Rattle.host_journal.specs.declared.left.FrontText.{FrontText}
use Rattle.host_journal.specs.declared.left.Left.{Left}
use Rattle.host_journal.specs.declared.left.Left.TheVariants.{Fronts, Nothing}
use Rattle.host_journal.specs.Listings.{IsJournal, Lists}
use Rattle.host_journal.specs.declared.listing.Listing.{Listing}
use Rattle.host_journal.specs.declared.listing.Listing.TheVariants as listings
use Rattle.engine_carried.specs.declared.numbering.Numbering.{Numbering}
use Rattle.engine_carried.specs.declared.numbering.Numbering.TheVariants.{Fresh as FreshNumbers, Same as SameNumbers}
use Rattle.engine_succession.specs.Numbered.{MayBeFollowedBy}
use Rattle.host_journal.specs.Texts.{Says}
use Rattle.host_journal.proofs.Causes.{at_known, unread_on}
use Rattle.host_journal.proofs.Quiet.{WentOn, ends_on, ends_step}

pub ordered : (names : List (List ℕ)) (listing : Listing) → Lists names listing → IsOrdered listing
ordered names listings.Foreign listed = tt
ordered names listings.Empty listed = tt
ordered names (listings.Segments first last) listed = listed.1.some

-- ---- one segment

pub configured_so : (held : Held) (number : ℕ) (bytes : List ℕ) (config : Setup) → IsText (held.manifests number) bytes → IsConfigured bytes config → IsConfiguredBy held number config
configured_so held number bytes config is configured = at_known (λ (its : List ℕ). IsConfigured its config) (held.manifests number) bytes is configured

pub own_fails : (held : Held) (number last : ℕ) (before : Option NumberedState) (bytes : List ℕ) (old new : Option (List Step)) (error : OrMemory JournalFault) → IsText (held.manifests number) bytes → IsOwnFault number bytes error
    → FailsInSegment held number last before old new error
own_fails held number last before bytes old new OutOfMemory is own = tt
own_fails held number last before bytes old new (Fault (faults.File (files.Manifest other))) is own = (own.0, inr (at_known (λ (its : List ℕ). IsUtf8 its → ⊥) (held.manifests number) bytes is own.1))
own_fails held number last before bytes old new (Fault (faults.Manifest other fault)) is own = (own.0, at_known (λ (its : List ℕ). HasFault its fault) (held.manifests number) bytes is own.1)
own_fails held number last before bytes old new (Fault fault) is own = absurd own

-- why a segment was not replayed
pub replay_fails : (held : Held) (number last : ℕ) (before : Option NumberedState) (config : Setup) (old new : Option (List Step)) (error : OrMemory JournalFault) → IsConfiguredBy held number config
    → Replays config number (held.segments number) (Err error) → HasCause number (held.segments number) old new error → FailsInSegment held number last before old new error
replay_fails held number last before config old new OutOfMemory configured told cause = tt
replay_fails held number last before config old new (Fault (faults.Segment other fault)) configured told cause =
    (told.0, inl (record { config = config; configured = configured; told = (refl, told.1, told.2, told.3, told.4); of_text = cause }))
replay_fails held number last before config old new (Fault (faults.File (files.Segment other))) configured told cause = (told, cause)
replay_fails held number last before config old new (Fault fault) configured told cause = absurd told

-- or not read again
pub reading_fails : (held : Held) (number last : ℕ) (before : Option NumberedState) (old new : Option (List Step)) (error : OrMemory JournalFault) → IsUnreadSegment number (held.segments number) old new error → FailsInSegment held number last before old new error
reading_fails held number last before old new OutOfMemory unread = tt
reading_fails held number last before old new (Fault (faults.File (files.Segment other))) unread = (unread.0, unread.1)
reading_fails held number last before old new (Fault fault) unread = absurd unread

-- or what it is to begin with has no text
pub printing_fails : (held : Held) (number last : ℕ) (before : NumberedState) (config : Setup) (old new : Option (List Step)) (error : OrMemory JournalFault) → IsConfiguredBy held number config → IsUnprintable before config error
    → FailsInSegment held number last (Some before) old new error
printing_fails held number last before config old new OutOfMemory configured untold = tt
printing_fails held number last before config old new (Fault faults.InternalError) configured untold = record { config = config; configured = configured; may = untold.0; numbering = untold.1.0; untold = untold.1.1 }
printing_fails held number last before config old new (Fault fault) configured untold = absurd untold

pub fails_on : (held : Held) (number last : ℕ) (before : Option NumberedState) (old mid new : Option (List Step)) (error : OrMemory JournalFault) → WentOn old mid → FailsInSegment held number last before mid new error → FailsInSegment held number last before old new error
fails_on held number last before old mid new OutOfMemory went fails = tt
fails_on held number last before old mid new (Fault (faults.File (files.Manifest other))) went fails =
    (fails.0, elim fails.1 [ inl ends ↦ inl (ends_on (IsFailed (files.Manifest number)) old mid new went ends) | inr bad ↦ inr bad ])
fails_on held number last before old mid new (Fault (faults.File (files.Segment other))) went fails = (fails.0, unread_on number (held.segments number) old mid new went fails.1)
fails_on held number last before old mid new (Fault (faults.File files.Folder)) went fails = absurd fails
fails_on held number last before old mid new (Fault (faults.File files.Lock)) went fails = absurd fails
fails_on held number last before old mid new (Fault (faults.Manifest other fault)) went fails = fails
fails_on held number last before old mid new (Fault (faults.Segment other fault)) went fails = fails
fails_on held number last (Some before) old mid new (Fault (faults.NotContinued other)) went fails = fails
fails_on held number last (Some before) old mid new (Fault faults.InternalError) went fails = fails
fails_on held number last None old mid new (Fault (faults.NotContinued other)) went fails = absurd fails
fails_on held number last None old mid new (Fault faults.InternalError) went fails = absurd fails
fails_on held number last before old mid new (Fault faults.Foreign) went fails = absurd fails
fails_on held number last before old mid new (Fault faults.OtherManifest) went fails = absurd fails
fails_on held number last before old mid new (Fault faults.InUse) went fails = absurd fails
fails_on held number last before old mid new (Fault faults.Unreadable) went fails = absurd fails
fails_on held number last before old mid new (Fault (faults.Given fault)) went fails = absurd fails
fails_on held number last before old mid new (Fault faults.RunLive) went fails = absurd fails
fails_on held number last before old mid new (Fault faults.DoesNotFit) went fails = absurd fails
fails_on held number last before old mid new (Fault faults.Unread) went fails = absurd fails
fails_on held number last before old mid new (Fault faults.Unwritten) went fails = absurd fails

pub fails_at_on : (held : Held) (first last : ℕ) (old mid new : Option (List Step)) (error : OrMemory JournalFault) → WentOn old mid → FailsAt held first last mid new error → FailsAt held first last old new error
fails_at_on held first last old mid new error went fails =
    record { number = fails.number; before = fails.before; records = fails.records; passed = fails.passed; fails = fails_on held fails.number last fails.before old mid new error went fails.fails }

pub fails_at_after : {T : Type 0} (held held' : Held) (first last : ℕ) (old mid new : Option (List Step)) (result : Result T (OrMemory JournalFault)) → held ≡ held' → WentOn old mid → IfErr result (FailsAt held first last mid new)
    → IfErr result (FailsAt held' first last old new)
fails_at_after held held' first last old mid new (Ok done) same went fails = tt
fails_at_after held held' first last old mid new (Err error) same went fails = subst (λ (h : Held). FailsAt h first last old new error) same (fails_at_on held first last old mid new error went fails)

-- ---- whether one begins with what the one before it left

linked_under : (numbering : Numbering) (known : Option (List ℕ)) (config : Setup) (before : NumberedState) (carried : ℕ) (front : FrontText) → MayBeFollowedBy before config → IsFrontUnder numbering before config front → HasFront known carried front true
    → IsLinkedUnder numbering known config before carried
linked_under numbering known config before carried front may is has = record { may = may; front = front.bytes.items; is = is.is; count = has.0 ∙ is.count; begins = has.1 }

unlinked_under : (numbering : Numbering) (bytes : List ℕ) (config : Setup) (before : NumberedState) (carried : ℕ) (front : FrontText) → IsFrontUnder numbering before config front → IsLinkedUnder numbering (Some bytes) config before carried
    → (carried ≡ front.carried → BeginsSo front.bytes.items bytes → ⊥) → ⊥
unlinked_under numbering bytes config before carried front is linked not_so =
    let fronts : Some linked.front ≡ Some front.bytes.items = sym linked.is ∙ is.is in
    let same : linked.front ≡ front.bytes.items = cc in
    not_so (linked.count ∙ sym is.count) (subst (λ (f : List ℕ). BeginsSo f bytes) same linked.begins)

pub is_linked : (known : Option (List ℕ)) (config : Setup) (before : NumberedState) (carried : ℕ) (left : Left) → IsLeft before config left → Judges known carried left true → IsLinked known config before carried
is_linked known config before carried Nothing is judged = absurd (let bad : true ≡ false = judged in cc)
is_linked known config before carried (Fronts same fresh) is judged = elim judged [
  | inl has ↦ inl (linked_under SameNumbers known config before carried same is.0 is.1 has)
  | inr has ↦ inr (linked_under FreshNumbers known config before carried fresh is.0 is.2 has)
]

pub is_unlinked : (known : Option (List ℕ)) (config : Setup) (before : NumberedState) (carried : ℕ) (left : Left) → IsLeft before config left → Judges known carried left false → IsUnlinked known config before carried
is_unlinked None config before carried left is judged = tt
is_unlinked (Some bytes) config before carried Nothing is judged = λ linked. elim linked [ inl l ↦ is l.may | inr l ↦ is l.may ]
is_unlinked (Some bytes) config before carried (Fronts same fresh) is judged = λ linked. elim linked [
  | inl l ↦ unlinked_under SameNumbers bytes config before carried same is.1 l judged.0
  | inr l ↦ unlinked_under FreshNumbers bytes config before carried fresh is.2 l judged.1
]

-- other counts of lines are another text
pub other_count : (known : Option (List ℕ)) (carried : ℕ) (front : FrontText) → (carried ≡ front.carried → ⊥) → HasFront known carried front false
other_count None carried front other = tt
other_count (Some bytes) carried front other = λ same. absurd (other same)

pub said_front : {E : Type 0} (known : Option (List ℕ)) (carried : ℕ) (front : FrontText) (result : Result Bool E) → carried ≡ front.carried → Says (BeginsSo front.bytes.items) known result → IfOk result (HasFront known carried front)
said_front known carried front (Err fault) same says = tt
said_front None carried front (Ok true) same says = (same, tt)
said_front None carried front (Ok false) same says = tt
said_front (Some bytes) carried front (Ok true) same says = (same, says)
said_front (Some bytes) carried front (Ok false) same says = λ equal. says

-- the second text decides where the first one is not there
pub second_judges : {E : Type 0} (known : Option (List ℕ)) (carried : ℕ) (same fresh : FrontText) (result : Result Bool E) → HasFront known carried same false → IfOk result (HasFront known carried fresh) → IfOk result (Judges known carried (Fronts same fresh))
second_judges known carried same fresh (Err fault) first has = tt
second_judges known carried same fresh (Ok true) first has = inr has
second_judges known carried same fresh (Ok false) first has = (first, has)

-- ---- from segment to segment

pub reached_first : (held : Held) (first : ℕ) (config : Setup) → IsConfiguredBy held first config → IsReached held first first (record { config = config; left = None; records = 0 })
reached_first held first config configured = record { before = None; records = 0; passed = none_passed; configured = configured; left = tt; count = refl }

pub reached_next : (held : Held) (first number : ℕ) (reached next : Reached) (its : Recovered) → (at : IsReached held first number reached) → IsReplayed held number reached.config its → its.is_ended ≡ true → IsJoined held number at.before reached.config its
    → IsConfiguredBy held (number + 1) next.config → IsLeftFor (Some its.engine) next.config next.left → next.records ≡ counted (reached.records + its.records) → IsReached held first (number + 1) next
reached_next held first number reached next its at segment ended joined configured left count = record {
  before = Some its.engine;
  records = at.records + its.records;
  passed = one_more number at.before at.records reached.config its at.passed segment ended joined;
  configured = configured;
  left = left;
  count = omega (arith, count, at.count);
}

pub reached_next_if : (held : Held) (first number : ℕ) (reached : Reached) (its : Recovered) (result : Result Reached (OrMemory JournalFault)) → (at : IsReached held first number reached) → IsReplayed held number reached.config its → its.is_ended ≡ true
    → IsJoined held number at.before reached.config its → IfOk result (λ next. IsConfiguredBy held (number + 1) next.config) → IfOk result (λ next. IsLeftFor (Some its.engine) next.config next.left)
    → IfOk result (λ next. next.records ≡ counted (reached.records + its.records)) → IfOk result (IsReached held first (number + 1))
reached_next_if held first number reached its (Ok next) at segment ended joined configured left count = reached_next held first number reached next its at segment ended joined configured left count
reached_next_if held first number reached its (Err error) at segment ended joined configured left count = tt

pub fails_here : {T : Type 0} (held : Held) (first number last : ℕ) (reached : Reached) (old new : Option (List Step)) (result : Result T (OrMemory JournalFault)) → (at : IsReached held first number reached) → IfErr result (FailsInSegment held number last at.before old new)
    → IfErr result (FailsAt held first last old new)
fails_here held first number last reached old new (Ok done) at fails = tt
fails_here held first number last reached old new (Err error) at fails = record { number = number; before = at.before; records = at.records; passed = at.passed; fails = fails }

pub fails_next : {T : Type 0} (held : Held) (first number last : ℕ) (reached : Reached) (its : Recovered) (old mid new : Option (List Step)) (result : Result T (OrMemory JournalFault)) → (at : IsReached held first number reached) → IsReplayed held number reached.config its → its.is_ended ≡ true
    → IsJoined held number at.before reached.config its → WentOn old mid → IfErr result (FailsInSegment held (number + 1) last (Some its.engine) mid new) → IfErr result (FailsAt held first last old new)
fails_next held first number last reached its old mid new (Ok done) at segment ended joined went fails = tt
fails_next held first number last reached its old mid new (Err error) at segment ended joined went fails = record {
  number = number + 1;
  before = Some its.engine;
  records = at.records + its.records;
  passed = one_more number at.before at.records reached.config its at.passed segment ended joined;
  fails = fails_on held (number + 1) last (Some its.engine) old mid new error went fails;
}

-- ---- all of them

-- told of the whole journal, if its names are known
among : (held : Held) (names : Option (List (List ℕ))) (first last : ℕ) (old new : Option (List Step)) (error : OrMemory JournalFault) → IfSome names (λ its. Lists its (listings.Segments first last)) → FailsAt held first last old new error
    → IfSome names (λ its. (f : ℕ) × (l : ℕ) × IsJournal its f l × FailsAt held f l old new error)
among held None first last old new error listed fails = tt
among held (Some names) first last old new error listed fails = (first, last, listed, fails)

pub fails_to_audit : (held : Held) (first last : ℕ) (old new : Option (List Step)) (error : OrMemory JournalFault) → IfSome held.names (λ names. Lists names (listings.Segments first last)) → FailsAt held first last old new error → FailsToAudit held old new error
fails_to_audit held first last old new OutOfMemory listed fails = tt
fails_to_audit held first last old new (Fault faults.Foreign) listed fails = absurd fails.fails
fails_to_audit held first last old new (Fault (faults.File files.Folder)) listed fails = absurd fails.fails
fails_to_audit held first last old new (Fault fault) listed fails = among held held.names first last old new (Fault fault) listed fails

pub fails_to_audit_all : {T : Type 0} (held : Held) (first last : ℕ) (old new : Option (List Step)) (result : Result T (OrMemory JournalFault)) → IfSome held.names (λ names. Lists names (listings.Segments first last)) → IfErr result (FailsAt held first last old new)
    → IfErr result (FailsToAudit held old new)
fails_to_audit_all held first last old new (Ok done) listed fails = tt
fails_to_audit_all held first last old new (Err error) listed fails = fails_to_audit held first last old new error listed fails

-- ---- the configuration of one segment

pub own_if : (held : Held) (number last : ℕ) (before : Option NumberedState) (bytes : List ℕ) (old new : Option (List Step)) (result : Result Setup (OrMemory JournalFault)) → IsText (held.manifests number) bytes → IfErr result (IsOwnFault number bytes)
    → IfErr result (FailsInSegment held number last before old new)
own_if held number last before bytes old new (Ok config) is own = tt
own_if held number last before bytes old new (Err error) is own = own_fails held number last before bytes old new error is own

pub configured_if : (held : Held) (number : ℕ) (bytes : List ℕ) (result : Result Setup (OrMemory JournalFault)) → IsText (held.manifests number) bytes → IfOk result (IsConfigured bytes) → IfOk result (IsConfiguredBy held number)
configured_if held number bytes (Ok config) is read = configured_so held number bytes config is read
configured_if held number bytes (Err error) is read = tt

pub manifest_unread : (held : Held) (number last : ℕ) (before : Option NumberedState) (old new : Option (List Step)) (fault : DiskFault) → new ≡ with_step old (Failed (files.Manifest number) fault) → FailsInSegment held number last before old new (file_error fault (files.Manifest number))
manifest_unread held number last before old new disk.OutOfMemory is = tt
manifest_unread held number last before old new disk.Missing is = (refl, inl (ends_step (IsFailed (files.Manifest number)) old new (Failed (files.Manifest number) disk.Missing) refl is))
manifest_unread held number last before old new disk.Failed is = (refl, inl (ends_step (IsFailed (files.Manifest number)) old new (Failed (files.Manifest number) disk.Failed) refl is))

-- a segment that is read again, after other steps
pub unread_again : {T : Type 0} (number : ℕ) (known : Option (List ℕ)) (old mid new : Option (List Step)) (result : Result T (OrMemory JournalFault)) → WentOn old mid → IfErr result (IsUnreadSegment number known mid new) → IfErr result (IsUnreadSegment number known old new)
unread_again number known old mid new (Ok done) went unread = tt
unread_again number known old mid new (Err OutOfMemory) went unread = tt
unread_again number known old mid new (Err (Fault (faults.File (files.Segment other)))) went unread = (unread.0, unread_on number known old mid new went unread.1)
unread_again number known old mid new (Err (Fault fault)) went unread = absurd unread

pub fails_on_if : {T : Type 0} (held : Held) (number last : ℕ) (before : Option NumberedState) (old mid new : Option (List Step)) (result : Result T (OrMemory JournalFault)) → WentOn old mid → IfErr result (FailsInSegment held number last before mid new)
    → IfErr result (FailsInSegment held number last before old new)
fails_on_if held number last before old mid new (Ok done) went fails = tt
fails_on_if held number last before old mid new (Err error) went fails = fails_on held number last before old mid new error went fails

-- a segment that does not begin with what the one before it left
pub not_joined : (held : Held) (number last : ℕ) (before : Option NumberedState) (config : Setup) (its : Recovered) (given : Option Left) (left : Left) (old new : Option (List Step)) → given ≡ Some left → IsLeftFor before config given
    → IsReplayed held number config its → (number < last → its.is_ended ≡ true) → Judges (held.segments number) its.carried left false → FailsInSegment held number last before old new (Fault (faults.NotContinued number))
not_joined held number last None config its None left old new is for segment ended judged = absurd (let bad = is in cc)
not_joined held number last None config its (Some it) left old new is for segment ended judged = absurd for
not_joined held number last (Some engine) config its None left old new is for segment ended judged = absurd for
not_joined held number last (Some engine) config its (Some it) left old new is for segment ended judged =
    let same : it ≡ left = cc in (
      refl,
      record {
        config = config;
        recovered = its;
        is_segment = segment;
        ended = ended;
        unlinked = is_unlinked (held.segments number) config engine its.carried left (subst (IsLeft engine config) same for) judged;
      },
    )

-- a segment that lacks its last line
pub unended_fails : (held : Held) (number last : ℕ) (before : Option NumberedState) (config : Setup) (its : Recovered) (old new : Option (List Step)) (lines : ℕ) (error : OrMemory JournalFault) → error ≡ Fault (faults.Segment number (torn.Form (Line (line_behind lines))))
    → lines ≡ counted (its.carried + its.records) → (number < last) × (its.is_ended ≡ false) → IsReplayed held number config its → FailsInSegment held number last before old new error
unended_fails held number last before config its old new lines error is count ends segment =
    subst (FailsInSegment held number last before old new) (sym is)
    (refl, inr (ends.0, record { config = config; recovered = its; is_segment = segment; left_open = ends.1; is = ap (λ (n : ℕ). torn.Form (Line (line_behind n))) count }))
