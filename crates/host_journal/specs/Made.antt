-- What a segment that a start makes begins with.
use Rattle.std.specs.Prelude.{◌≡◌, ◌⊎◌, ℕ, Option, Some, None, MatchOption, is_some, List, [], length, ⊤, false, if◌then◌else◌}
use Rattle.base.specs.declared.or_memory.OrMemory.{OrMemory}
use Rattle.base.specs.declared.or_memory.OrMemory.TheVariants.{OutOfMemory, Fault}
use Rattle.world_calls.specs.declared.carried_line.CarriedLine.{CarriedLine}
use Rattle.world_calls.specs.declared.trace.Version.{Version}
use Rattle.trace.specs.TraceText.{header}
use Rattle.world.specs.World.{Setup, version_of}
use Rattle.engine_core.specs.ByNumber.{NumberedState, opened_numbered}
use Rattle.engine_succession.specs.FromLines.{BeginsNumbered, IsRefused}
use Rattle.engine_succession.specs.declared.beginning.BeginFault.TheVariants.{DoesNotFit}
use Rattle.whole_trace.specs.Continued.{items_of}
use Rattle.whole_trace.specs.Front.{HasUnspelled, front_text}
use Rattle.host_recovery.specs.SetupFor.{carried_count}
use Rattle.host_recovery.specs.declared.recovering.Recovered.{Recovered}
use Rattle.host_journal.specs.declared.beginning.Begun.{Begun}
use Rattle.host_journal.specs.declared.fault.JournalFault.{JournalFault}
use Rattle.host_journal.specs.declared.fault.JournalFault.TheVariants as faults

-- its text before the first record: its first line, and the lines of what is carried over, if the segment follows another one
abbrev pub front_of : Setup → Option (List CarriedLine) → Option (List ℕ)
front_of config None = Some (header (version_of config))
front_of config (Some lines) = front_text (version_of config) lines

abbrev pub or_none : Option (List ℕ) → List ℕ
or_none None = []
or_none (Some bytes) = bytes

-- the bytes of a segment that is made
abbrev pub made_of : Begun → List ℕ
made_of begun = or_none (front_of begun.config (items_of begun.carried))

-- what goes out first: the text of a segment that the start made
abbrev pub first_line : Begun → List ℕ
first_line begun = if is_some begun.manifest then made_of begun else []

-- the engine with which it begins: one that was opened, or one that takes over what the lines say
abbrev pub IsFirstEngine : Setup → Option (List CarriedLine) → NumberedState → Type 0
IsFirstEngine config None engine = engine ≡ opened_numbered config
IsFirstEngine config (Some lines) engine = BeginsNumbered config lines engine

-- no record of it was made
pub record IsFirst (begun : Begun) (recovered : Recovered) : Type 0 where
  pub engine : IsFirstEngine begun.config (items_of begun.carried) recovered.engine
  pub carried : recovered.carried ≡ carried_count (items_of begun.carried)
  pub records : recovered.records ≡ 0
  pub whole : recovered.whole ≡ length (made_of begun)
  pub is_ended : recovered.is_ended ≡ false

-- why there is no such engine: memory; or lines with which no engine of the configuration begins
abbrev pub AreRefused : Setup → List CarriedLine → OrMemory JournalFault → Type 0
AreRefused config lines OutOfMemory = ⊤
AreRefused config lines (Fault faults.InternalError) = (place : ℕ) × IsRefused config lines (DoesNotFit place)
AreRefused config lines (Fault fault) = ⊥

-- or no such text: one of the lines has none in the version
abbrev pub AreUnfit : Version → List CarriedLine → OrMemory JournalFault → Type 0
AreUnfit version lines OutOfMemory = ⊤
AreUnfit version lines (Fault faults.InternalError) = HasUnspelled version lines
AreUnfit version lines (Fault fault) = ⊥

-- of a segment that does not follow from what another one left
abbrev pub CannotBegin : Setup → Option (List CarriedLine) → Type 0
CannotBegin config None = ⊥
CannotBegin config (Some lines) = HasUnspelled (version_of config) lines ⊎ ((place : ℕ) × IsRefused config lines (DoesNotFit place))

abbrev pub IsUnbegun : Begun → OrMemory JournalFault → Type 0
IsUnbegun begun OutOfMemory = ⊤
IsUnbegun begun (Fault faults.InternalError) = CannotBegin begun.config (items_of begun.carried)
IsUnbegun begun (Fault fault) = ⊥
