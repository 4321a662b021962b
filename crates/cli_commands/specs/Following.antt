-- Which engine follows another one.
use Rattle.std.specs.Prelude.{◌≡◌, ◌+◌, ℕ, Bool, true, Option, Some, None, MatchBool, MatchOption, Result, Ok, Err, List, ⊤, if◌then◌else◌}
use Rattle.base.specs.declared.or_memory.OrMemory.{OrMemory}
use Rattle.base.specs.declared.or_memory.OrMemory.TheVariants.{Fault}
use Rattle.engine_beginning.specs.Lines.{lines_of}
use Rattle.engine_carried.specs.declared.numbering.Numbering.{Numbering}
use Rattle.engine_carried.specs.declared.numbering.Numbering.TheVariants.{Fresh, Same}
use Rattle.engine_core.specs.ByNumber.{NumberedState}
use Rattle.engine_succession.specs.Numbered.{MayBeFollowedBy, taken_from}
use Rattle.host_journal.specs.Follows.{IsNotNext, bytes_of}
use Rattle.host_journal.specs.Journals.{IsConfigured}
use Rattle.host_journal.specs.declared.fault.JournalFault.{JournalFault}
use Rattle.host_journal.specs.declared.fault.JournalFault.TheVariants as faults
use Rattle.host_journal.specs.declared.following.NextManifest.{NextManifest}
use Rattle.host_live.specs.declared.reports.Unfollowed.{Unfollowed}
use Rattle.host_live.specs.declared.reports.Unfollowed.TheVariants as unfollowed
use Rattle.host_live.specs.declared.request.Succession.{Succession}
use Rattle.cli_commands.specs.Readings.{Reading, held, not_given, unreadable}
use Rattle.cli_commands.specs.declared.following.Next.{Next}

-- with new numbers or not
abbrev pub numbering_of : Succession → Numbering
numbering_of how = if how.is_fresh then Fresh else Same

-- It has the next number, the configuration is the manifest's, and it begins with the lines of what an engine of that takes over from this one.
pub record IsNextOf (number : ℕ) (how : Succession) (engine : NumberedState) (next : Next) : Type 0 where
  pub number_is : next.number ≡ number + 1
  pub configured : IsConfigured next.bytes.items next.config
  pub may : MayBeFollowedBy engine next.config
  pub lines_are : MatchOption next.carried ⊥ (λ lines. lines.items ≡ lines_of (taken_from (numbering_of how) engine next.config))

-- these are the bytes of the manifest that is given, which may have been read so; or if it is not read again, of the one in force
abbrev pub IsManifestFor : (Reading → Type 0) → (own : List ℕ) → Succession → List ℕ → Type 0
IsManifestFor MayRead own how bytes = MatchBool how.is_reloaded (MayRead (held bytes)) (bytes ≡ own)

-- it follows this engine, by such a manifest
abbrev pub IsFollowing : (Reading → Type 0) → (number : ℕ) (own : List ℕ) → Succession → NumberedState → Option Next → Type 0
IsFollowing MayRead number own how engine next = MatchOption next ⊥ (λ it. IsNextOf number how engine it × IsManifestFor MayRead own how it.bytes.items)

-- the manifest that is given was not read
abbrev pub IsUnread : (Reading → Type 0) → Unfollowed → Type 0
IsUnread MayRead unfollowed.NoManifest = MayRead not_given
IsUnread MayRead unfollowed.Manifest = MayRead unreadable
IsUnread MayRead unfollowed.DoesNotFit = ⊥

-- how it is told why there is no segment that follows
abbrev pub unfollowed_of : JournalFault → Unfollowed
unfollowed_of faults.DoesNotFit = unfollowed.DoesNotFit
unfollowed_of fault = unfollowed.Manifest

-- Why no engine follows this one: the manifest that is given was to be read again, and was not; or no segment follows by such a manifest.
pub data MayRefuse (MayRead : Reading → Type 0) (number : ℕ) (own : List ℕ) (how : Succession) (engine : NumberedState) : Unfollowed → Type 0 where
  not_read : (why : Unfollowed) → how.is_reloaded ≡ true → IsUnread MayRead why → MayRefuse MayRead number own how engine why
  not_next : (manifest : NextManifest) (fault : JournalFault) → IsManifestFor MayRead own how (bytes_of manifest) → IsNotNext number engine manifest (Fault fault) → MayRefuse MayRead number own how engine (unfollowed_of fault)

-- ---- inside

-- if one follows, that holds
abbrev pub IsDecidedBy : Option Unfollowed → Type 0 → Type 0
IsDecidedBy None It = It
IsDecidedBy (Some why) It = ⊤

abbrev pub IsKept : {E : Type 0} → Result Next E → Option Next → Type 0
IsKept result kept = (next : Next) × (result ≡ Ok next) × (kept ≡ Some next)

-- the fault is told so
abbrev pub IsToldWhy : Result Next (OrMemory JournalFault) → Unfollowed → Type 0
IsToldWhy result why = (fault : JournalFault) × (result ≡ Err (Fault fault)) × (why ≡ unfollowed_of fault)

-- there is no segment that follows by these bytes
abbrev pub IsNoneBy : ℕ → NumberedState → List ℕ → OrMemory JournalFault → Type 0
IsNoneBy number engine bytes error = (manifest : NextManifest) × (bytes_of manifest ≡ bytes) × IsNotNext number engine manifest error
