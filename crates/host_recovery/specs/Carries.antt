-- The first line of a segment, and its carried lines as far as they were read.
use Rattle.std.specs.Prelude.{◌≡◌, ◌≢◌, ◌+◌, ◌<◌, ℕ, Bool, true, false, Option, Some, None, Result, Ok, Err, List, [], ◌∷◌, ◌++◌, length}
use Rattle.std.specs.Io.KnownBytes.{Consumes, IsAtEnd}
use Rattle.base.specs.declared.or_memory.OrMemory.{OrMemory}
use Rattle.world_calls.specs.declared.carried_line.CarriedLine.{CarriedLine}
use Rattle.world_calls.specs.declared.trace.Version.{Version}
use Rattle.world.specs.World.{Setup, version_of}
use Rattle.world.specs.Lawful.{IsLawful}
use Rattle.engine_succession.specs.FromLines.{IsRefused}
use Rattle.engine_succession.specs.Stepwise.{HasBegun, StepwiseState}
use Rattle.engine_succession.specs.declared.beginning.BeginFault.TheVariants.{DoesNotFit}
use Rattle.trace_lines.specs.Written.{Reads}
use Rattle.trace.specs.ShortLines.{IsShort}
use Rattle.trace.specs.TraceText.{header}
use Rattle.carried_lines.specs.CarriedText.{carried_text}
use Rattle.carried_lines.specs.FirstLine.{continued_header}
use Rattle.carried_lines.specs.Following.{HasTaken}
use Rattle.carried_lines.specs.InOrder.{AreInOrder, IsFront}
use Rattle.carried_lines.specs.declared.order.Order.{Order}
use Rattle.replay.specs.declared.fault.ReplayFault.{ReplayFault}
use Rattle.replay.specs.declared.fault.ReplayFault.TheVariants.{Header, Carried, Behind}
use Rattle.host_recovery.specs.LinesRead.{IsOneLine, LinesState}
use Rattle.host_recovery.specs.Reads.{Leads, ReadingState}
use Rattle.host_recovery.specs.Recovering.{Answers}
use Rattle.host_recovery.specs.Segments.{head_text}
use Rattle.host_recovery.specs.declared.carried.Came.{Came}
use Rattle.host_recovery.specs.declared.carried.Came.TheVariants as came
use Rattle.host_recovery.specs.declared.carrying.TookCarried.{TookCarried}
use Rattle.host_recovery.specs.declared.carrying.TookCarried.TheVariants as took
use Rattle.host_recovery.specs.declared.fault.RecoveryFault.{RecoveryFault}
use Rattle.host_recovery.specs.declared.first_line.First.{First}
use Rattle.host_recovery.specs.declared.first_line.First.TheVariants as first
use Rattle.host_recovery.specs.declared.recovering.TheConstants.{MOST_WHOLE}

-- ---- the first line

-- with its line feed
abbrev pub first_text : First → List ℕ
first_text (first.Plain version) = header version
first_text (first.Continued version) = continued_header version

-- the text is of this version, or its first line does not follow
abbrev pub IsFirstFault : Version → Version → Option ReplayFault → Type 0
IsFirstFault version its None = version ≡ its
IsFirstFault version its (Some Header) = version ≢ its
IsFirstFault version its (Some (Carried count)) = ⊥
IsFirstFault version its (Some (Behind carried count)) = ⊥

-- a first line was read
abbrev pub FirstSays : Option (List ℕ) → Result First (OrMemory RecoveryFault) → List ℕ → Option (List ℕ) → Type 0
FirstSays old (Ok found) ahead new = Consumes old new (first_text found ++ ahead)
FirstSays old (Err fault) ahead new = (config : Setup) → Answers config old (Err fault)

-- ---- carried lines

-- what they make of an engine, their order, the text's version, the first line that does not follow, how many carried lines there were, and how
-- many bytes
pub record CarryingState : Type 0 where
  pub beginning : StepwiseState
  pub order : Order
  pub version : Version
  pub fault : Option ReplayFault
  pub count : ℕ
  pub whole : ℕ

-- an engine of the configuration begins with these lines; or which line is the first that does not follow
abbrev pub LinesLead : Setup → Version → List CarriedLine → Option ReplayFault → StepwiseState → Type 0
LinesLead config version lines None beginning = (version ≡ version_of config) × HasBegun config lines beginning
LinesLead config version lines (Some Header) beginning = version ≢ version_of config
LinesLead config version lines (Some (Carried place)) beginning = (version ≡ version_of config) × ((more : List CarriedLine) → IsRefused config (lines ++ more) (DoesNotFit place))
LinesLead config version lines (Some (Behind carried count)) beginning = ⊥

-- with one line more
abbrev pub LinesGoOn : CarryingState → CarriedLine → CarryingState → Type 0
LinesGoOn old line new = (config : Setup) (lines : List CarriedLine) → old.count ≡ length lines
    → LinesLead config old.version lines old.fault old.beginning → LinesLead config old.version (lines ++ line ∷ []) new.fault new.beginning

-- the line is a carried one, which was counted
pub record TookLine (old : CarryingState) (line : List ℕ) (new : CarryingState) : Type 0 where
  pub value : CarriedLine
  pub is : carried_text old.version value ≡ Some line
  pub ordered : (lines : List CarriedLine) → HasTaken lines old.order → HasTaken (lines ++ value ∷ []) new.order
  pub version : new.version ≡ old.version
  pub count : new.count ≡ old.count + 1
  pub whole : new.whole ≡ old.whole + (length line + 1)
  pub goes_on : LinesGoOn old value new

-- it is one that is out of order
pub record TookOther (old : CarryingState) (line : List ℕ) (new : CarryingState) : Type 0 where
  pub value : CarriedLine
  pub is : carried_text old.version value ≡ Some line
  pub not_next : (lines : List CarriedLine) → HasTaken lines old.order → IsFront (lines ++ value ∷ []) → ⊥
  pub same : new ≡ old

-- it is none
pub record TookNone (old : CarryingState) (line : List ℕ) (new : CarryingState) : Type 0 where
  pub none : Reads (carried_text old.version) line None
  pub same : new ≡ old

abbrev pub CarriedSays : CarryingState → List ℕ → TookCarried → CarryingState → Type 0
CarriedSays old line took.Line new = TookLine old line new
CarriedSays old line took.OutOfOrder new = TookOther old line new
CarriedSays old line took.Nothing new = TookNone old line new

-- Of what the source gave, these carried lines were read, and the rest is ahead.
pub record CarriesAt (config : Setup) (from now : Option (List ℕ)) (ahead : List ℕ) (carrying : CarryingState) : Type 0 where
  pub lawful : IsLawful config
  pub lines : List CarriedLine
  pub read : List ℕ
  pub is : head_text carrying.version (Some lines) ≡ Some read
  pub ordered : HasTaken lines carrying.order
  pub consumed : Consumes from now (read ++ ahead)
  pub count : carrying.count ≡ length lines
  pub whole : carrying.whole ≡ length read
  pub leads : LinesLead config carrying.version lines carrying.fault carrying.beginning

-- And they are all.
pub record CarriesAll (config : Setup) (from now : Option (List ℕ)) (ahead : List ℕ) (carrying : CarryingState) : Type 0 where
  pub at : CarriesAt config from now ahead carrying
  pub in_order : AreInOrder at.lines

-- they lead to an engine, after which no record was read
abbrev pub BeginsReading : CarryingState → ReadingState → Type 0
BeginsReading carrying reading = (config : Setup) (lines : List CarriedLine) → carrying.count ≡ length lines
    → LinesLead config carrying.version lines carrying.fault carrying.beginning → Leads config carrying.version (Some lines) [] None reading.fault reading.engine

-- ---- what came

-- a line that is no carried one
pub record IsOther (carrying : CarryingState) (line : List ℕ) : Type 0 where
  pub one : IsOneLine line
  pub none : Reads (carried_text carrying.version) line None
  pub few : carrying.whole < MOST_WHOLE

-- the segment ends after all carried lines, and what is ahead is cut off
pub record IsCarriedEnd (config : Setup) (from now : Option (List ℕ)) (lines : LinesState) (carrying : CarryingState) : Type 0 where
  pub all : CarriesAll config from now lines.line carrying
  pub at_end : IsAtEnd now
  pub short : IsShort lines.line

abbrev pub CameSays : Setup → Option (List ℕ) → Result Came (OrMemory RecoveryFault) → CarryingState → LinesState → Option (List ℕ) → Type 0
CameSays config from (Ok came.Carried) carrying lines now = CarriesAt config from now lines.ahead carrying
CameSays config from (Ok came.Other) carrying lines now = CarriesAll config from now (lines.line ++ 10 ∷ lines.ahead) carrying
CameSays config from (Ok came.End) carrying lines now = IsCarriedEnd config from now lines carrying
CameSays config from (Err fault) carrying lines now = Answers config from (Err fault)

-- what all carried lines led to, and whether another line came after them
abbrev pub CarriedAllSays : Setup → Option (List ℕ) → Result Bool (OrMemory RecoveryFault) → CarryingState → LinesState → Option (List ℕ) → Type 0
CarriedAllSays config from (Ok true) carrying lines now = CarriesAll config from now (lines.line ++ 10 ∷ lines.ahead) carrying
CarriedAllSays config from (Ok false) carrying lines now = IsCarriedEnd config from now lines carrying
CarriedAllSays config from (Err fault) carrying lines now = Answers config from (Err fault)
