-- What the lines of an input led to, turn by turn.
use Rattle.std.specs.Prelude.{◌≡◌, ◌≢◌, ◌⊎◌, ◌+◌, ℕ, Bool, true, false, Option, Some, None, IfSome, Result, Ok, Err, List, [], ◌∷◌, ◌++◌, All, if◌then◌else◌}
use Rattle.freeze_ledger.specs.Freezes.{entry_of}
use Rattle.scenario.specs.Said.{is_skipped}
use Rattle.world_calls.specs.declared.call.Call.{Call}
use Rattle.world_calls.specs.declared.call.Call.TheVariants.{Clock, GuestRelease, Park}
use Rattle.world_calls.specs.declared.call_answer.CallAnswer.{CallAnswer}
use Rattle.world_calls.specs.declared.call_answer.CallAnswer.TheVariants.{Started}
use Rattle.world_calls.specs.declared.record.Record.{Record}
use Rattle.world_calls.specs.declared.record.Record.TheVariants.{Called}
use Rattle.world_calls.specs.declared.trace.Version.{Version}
use Rattle.world.specs.World.{version_of}
use Rattle.engine_core.specs.ByNumber.{NumberedState, IsAdvanceOf, IsBehind, guests_of, is_of_parking}
use Rattle.engine_core.specs.Looking.{HasRunOut, first_out}
use Rattle.host_live.specs.Answering.{Answer, AreBehind}
use Rattle.host_live.specs.Growth.{IsExit}
use Rattle.host_live.specs.Inputs.{CameState, all_of}
use Rattle.host_live.specs.LinesCome.{EndsALine, IsAll, IsOneLine, IsText, Stands}
use Rattle.host_live.specs.Requests.{request_text, request_told}
use Rattle.host_live.specs.Successions.{asked_of, fault_of_unfollowed}
use Rattle.host_live.specs.declared.served.Served.{Served}
use Rattle.host_live.specs.declared.served.Served.TheVariants as served
use Rattle.host_live.specs.declared.printed_engine.Advanced.{Advanced}
use Rattle.host_live.specs.declared.printed_engine.Advanced.TheVariants as advanced
use Rattle.host_live.specs.declared.lines.Lines.{Lines}
use Rattle.host_live.specs.declared.manner.Manner.{Manner}
use Rattle.host_live.specs.declared.reports.LineFault.{LineFault}
use Rattle.host_live.specs.declared.reports.LineFault.TheVariants.{Form, NotHeld, RunLive}
use Rattle.host_live.specs.declared.reports.Unfollowed.{Unfollowed}
use Rattle.host_live.specs.declared.request.Request.{Request}
use Rattle.host_live.specs.declared.request.Request.TheVariants as asks
use Rattle.host_live.specs.declared.request.Succession.{Succession}

-- ---- records

-- these records lead from the one engine to the other, of the same configuration and beginning, whatever history was
abbrev pub Follows : NumberedState → List Record → NumberedState → Type 0
Follows start records now = (now.setup ≡ start.setup) × ((before : List Record) → IsBehind before start → IsBehind (before ++ records) now)

-- at most one reading of the clock: that one, if it was read
abbrev pub IsReading : Option ℕ → List Record → Type 0
IsReading None records = records ≡ []
IsReading (Some reading) records = (records ≡ []) ⊎ ((answer : CallAnswer) × (records ≡ Called answer (Clock reading) ∷ []))

-- the input's clock is read only where the engine's goes by it
abbrev pub IsOfClock : Manner → Option ℕ → Type 0
IsOfClock manner reading = manner.is_clocked ≡ false → reading ≡ None

-- a reading, and then these
pub record ReadThen (now : Option ℕ) (These : List Record → Type 0) (records : List Record) : Type 0 where
  pub reading : List Record
  pub acts : List Record
  pub is : records ≡ reading ++ acts
  pub read : IsReading now reading
  pub these : These acts

-- all are advances of this run
abbrev pub AreAdvances : ℕ → List Record → Type 0
AreAdvances run records = All (IsAdvanceOf run) records

-- the last of the advances is the run's exit, or the run is not out after them
pub record IsDriven (run : ℕ) (now : NumberedState) (records : List Record) : Type 0 where
  pub advances : AreAdvances run records
  pub ended : ((front : List Record) × (last : Record) × (records ≡ front ++ last ∷ []) × IsExit last) ⊎ (HasRunOut now.runs.list run → ⊥)

-- advances of runs
abbrev pub AreOfRuns : List Record → Type 0
AreOfRuns records = All (λ told. (run : ℕ) × IsAdvanceOf run told) records

-- after them no run is out
pub record AreDriven (now : NumberedState) (records : List Record) : Type 0 where
  pub of_runs : AreOfRuns records
  pub none_out : first_out now.runs.list ≡ None

-- what an advance of a run made: a record; or none where the run is not out, or the engine stopped
abbrev pub MakesOne : {E : Type 0} → ℕ → Result Advanced E → NumberedState → List Record → Type 0
MakesOne run (Ok advanced.NotOut) now records = (records ≡ []) × (HasRunOut now.runs.list run → ⊥)
MakesOne run (Ok advanced.Goes) now records = (told : Record) × IsAdvanceOf run told × (records ≡ told ∷ [])
MakesOne run (Ok advanced.Ended) now records = (told : Record) × IsAdvanceOf run told × IsExit told × (records ≡ told ∷ [])
MakesOne run (Err fault) now records = records ≡ []

-- a run was driven, or a part of that was done
abbrev pub Drives : {T E : Type 0} → ℕ → Result T E → NumberedState → List Record → Type 0
Drives run (Ok done) now records = IsDriven run now records
Drives run (Err fault) now records = AreAdvances run records

-- all were
abbrev pub DrivesAll : {T E : Type 0} → Result T E → NumberedState → List Record → Type 0
DrivesAll (Ok done) now records = AreDriven now records
DrivesAll (Err fault) now records = AreOfRuns records

-- the clock was read, and nothing is left to be read; or it was not
abbrev pub ReadsDue : {E : Type 0} → Option ℕ → Result (Option ℕ) E → List Record → Type 0
ReadsDue now (Ok rest) records = (IsReading now records × (rest ≡ None)) ⊎ ((records ≡ []) × (rest ≡ now))
ReadsDue now (Err fault) records = IsReading now records

-- the record of a call that was answered
abbrev pub record_of_answer : {E : Type 0} → Call → Result CallAnswer E → List Record
record_of_answer call (Ok answer) = Called answer call ∷ []
record_of_answer call (Err fault) = []

-- ---- what a request does

-- only a host of runs that stay out is asked for it
abbrev pub is_of_steps : Request → Bool
is_of_steps (asks.Call call) = is_of_parking call
is_of_steps (asks.Step run) = true
is_of_steps (asks.Drive run) = true
is_of_steps request = false

-- the run that a call started, if that is to be driven
abbrev pub run_to_drive : Manner → CallAnswer → Option ℕ
run_to_drive manner (Started run freeze) = if manner.is_stepped then None else Some run
run_to_drive manner answer = None

-- the call parks a run that is not out, or gives back a freeze that no guest holds
abbrev pub IsNotHeld : Call → NumberedState → Type 0
IsNotHeld (Park run) now = HasRunOut now.runs.list run → ⊥
IsNotHeld (GuestRelease freeze) now = entry_of freeze (guests_of now.transport.freezes) ≡ None
IsNotHeld call now = ⊥

-- it is told without a record
abbrev pub is_telling : Request → Bool
is_telling asks.Drain = true
is_telling asks.Totals = true
is_telling asks.Ccbs = true
is_telling asks.Help = true
is_telling request = false

-- What a request led to, after the reading: the records, what became of it, and the engine then.
pub data Does (manner : Manner) : Request → List Record → Served → NumberedState → Type 0 where
  elsewhere : (request : Request) (now : NumberedState) → manner.is_stepped ≡ false → is_of_steps request ≡ true → Does manner request [] (served.Refused Form) now
  not_held : (call : Call) (now : NumberedState) → IsNotHeld call now → Does manner (asks.Call call) [] (served.Refused NotHeld) now
  one_call : (call : Call) (answer : CallAnswer) (now : NumberedState) → run_to_drive manner answer ≡ None → Does manner (asks.Call call) (Called answer call ∷ []) served.Done now
  call_driven : (call : Call) (answer : CallAnswer) (run : ℕ) (advances : List Record) (now : NumberedState) → run_to_drive manner answer ≡ Some run → IsDriven run now advances → Does manner (asks.Call call) (Called answer call ∷ advances) served.Done now
  no_step : (run : ℕ) (now : NumberedState) → (HasRunOut now.runs.list run → ⊥) → Does manner (asks.Step run) [] (served.Refused NotHeld) now
  one_step : (run : ℕ) (record_of : Record) (now : NumberedState) → IsAdvanceOf run record_of → Does manner (asks.Step run) (record_of ∷ []) served.Done now
  no_drive : (run : ℕ) (now : NumberedState) → (HasRunOut now.runs.list run → ⊥) → Does manner (asks.Drive run) [] (served.Refused NotHeld) now
  one_drive : (run : ℕ) (advances : List Record) (now : NumberedState) → IsDriven run now advances → Does manner (asks.Drive run) advances served.Done now
  only_told : (request : Request) (now : NumberedState) → is_telling request ≡ true → Does manner request [] served.Done now
  asked_to_quit : (now : NumberedState) → Does manner asks.Quit [] served.Quit now
  run_live : (how : Succession) (now : NumberedState) → (now.runs.list ≡ [] → ⊥) → Does manner (asks.Succeed how) [] (served.Refused RunLive) now
  asked_to_succeed : (how : Succession) (now : NumberedState) → now.runs.list ≡ [] → Does manner (asks.Succeed how) [] (served.Asked how) now

-- a part of it or all, where the engine stopped
pub data DoesInPart (manner : Manner) : Request → List Record → Type 0 where
  part_none : (request : Request) → DoesInPart manner request []
  part_all : (request : Request) (records : List Record) (became : Served) (now : NumberedState) → Does manner request records became now → DoesInPart manner request records
  part_call : (call : Call) (answer : CallAnswer) (run : ℕ) (advances : List Record) → run_to_drive manner answer ≡ Some run → AreAdvances run advances → DoesInPart manner (asks.Call call) (Called answer call ∷ advances)
  part_drive : (run : ℕ) (advances : List Record) → AreAdvances run advances → DoesInPart manner (asks.Drive run) advances

-- what a request led to, or how far it came
abbrev pub Acts : {E : Type 0} → Manner → Request → Result Served E → NumberedState → List Record → Type 0
Acts manner request (Ok became) now records = Does manner request records became now
Acts manner request (Err fault) now records = DoesInPart manner request records

-- where no run stays out, a request of steps is refused as no request is
abbrev pub KeepsSteps : {E : Type 0} → Manner → Request → Result Served E → List Record → Type 0
KeepsSteps manner request (Ok became) records = manner.is_stepped ≡ false → is_of_steps request ≡ true → (records ≡ []) × (became ≡ served.Refused Form)
KeepsSteps manner request (Err fault) records = manner.is_stepped ≡ false → is_of_steps request ≡ true → records ≡ []

-- and what it led to otherwise
abbrev pub ActsHere : {E : Type 0} → Manner → Request → Result Served E → NumberedState → List Record → Type 0
ActsHere manner request result now records = Acts manner request result now records × KeepsSteps manner request result records

-- where there is no request
abbrev pub ActsOn : {E : Type 0} → Manner → Option Request → Result Served E → NumberedState → List Record → Type 0
ActsOn manner (Some request) result now records = ActsHere manner request result now records
ActsOn manner None (Ok became) now records = (records ≡ []) × (became ≡ served.Refused Form)
ActsOn manner None (Err fault) now records = records ≡ []

-- what becomes of a line that asks for an advance
abbrev pub stepped_of : Advanced → Served
stepped_of advanced.NotOut = served.Refused NotHeld
stepped_of advanced.Goes = served.Done
stepped_of advanced.Ended = served.Done

-- and of one that asks for a drive
abbrev pub DrivesTo : {E : Type 0} → ℕ → Result Served E → NumberedState → List Record → Type 0
DrivesTo run (Ok became) now records = (became ≡ served.Done) × IsDriven run now records
DrivesTo run (Err fault) now records = AreAdvances run records

-- the run that a call started was driven, if it was to be
abbrev pub DrivesStarted : {E : Type 0} → Manner → CallAnswer → Result Served E → NumberedState → List Record → Type 0
DrivesStarted manner answer (Ok became) now records = (became ≡ served.Done) × (((run_to_drive manner answer ≡ None) × (records ≡ [])) ⊎ ((run : ℕ) × (run_to_drive manner answer ≡ Some run) × IsDriven run now records))
DrivesStarted manner answer (Err fault) now records = (run : ℕ) × (run_to_drive manner answer ≡ Some run) × AreAdvances run records

-- nothing but that it was told
abbrev pub Tells : {E : Type 0} → Served → Result Served E → List Record → Type 0
Tells asked (Ok became) records = (records ≡ []) × (became ≡ asked)
Tells asked (Err fault) records = records ≡ []

-- ---- what a line leads to

-- What a line led to, after the reading. It is read as a line of the version that the engine's records have, and its call is asked for as
-- such a record tells it.
pub data Leads (manner : Manner) (line : List ℕ) (records : List Record) : Served → NumberedState → Type 0 where
  no_text : (now : NumberedState) → (IsText line → ⊥) → records ≡ [] → Leads manner line records (served.Refused Form) now
  no_request : (now : NumberedState) → IsText line → is_skipped line ≡ false → ((request : Request) → request_text (version_of now.setup) manner.is_told request ≢ Some line) → records ≡ [] → Leads manner line records (served.Refused Form) now
  asked_for : (request : Request) (became : Served) (now : NumberedState) → IsText line → is_skipped line ≡ false → request_text (version_of now.setup) manner.is_told request ≡ Some line → Does manner (request_told (version_of now.setup) request) records became now
      → (manner.is_stepped ≡ false → is_of_steps request ≡ true → (records ≡ []) × (became ≡ served.Refused Form)) → Leads manner line records became now

-- or how far it came
pub data LeadsInPart (manner : Manner) (version : Version) (line : List ℕ) (records : List Record) : Type 0 where
  led_to_none : records ≡ [] → LeadsInPart manner version line records
  led_to_part : (request : Request) → IsText line → request_text version manner.is_told request ≡ Some line → DoesInPart manner (request_told version request) records → (manner.is_stepped ≡ false → is_of_steps request ≡ true → records ≡ []) → LeadsInPart manner version line records

abbrev pub LeadsTo : {E : Type 0} → Manner → List ℕ → Result Served E → NumberedState → List Record → Type 0
LeadsTo manner line (Ok became) now records = Leads manner line records became now
LeadsTo manner line (Err fault) now records = LeadsInPart manner (version_of now.setup) line records

-- A line led to these records, with a reading of the clock in front, if there is one. A line that is skipped led to none.
pub data Turn (manner : Manner) (line : List ℕ) (records : List Record) : Served → NumberedState → Type 0 where
  passed_over : (now : NumberedState) → IsText line → is_skipped line ≡ true → records ≡ [] → Turn manner line records served.Skipped now
  carried : (reading : Option ℕ) (became : Served) (now : NumberedState) → IsOfClock manner reading → ReadThen reading (λ acts. Leads manner line acts became now) records → Turn manner line records became now

-- or to a part of these
pub record TurnInPart (manner : Manner) (version : Version) (line : List ℕ) (records : List Record) : Type 0 where
  pub reading : Option ℕ
  pub of_clock : IsOfClock manner reading
  pub part : ReadThen reading (LeadsInPart manner version line) records

abbrev pub Turned : {E : Type 0} → Manner → List ℕ → Result Served E → NumberedState → List Record → Type 0
Turned manner line (Ok became) now records = Turn manner line records became now
Turned manner line (Err fault) now records = TurnInPart manner (version_of now.setup) line records

-- ---- answers

abbrev pub fault_of : Served → Option LineFault
fault_of (served.Refused fault) = Some fault
fault_of became = None

-- lines are answered, and this one was not skipped
abbrev pub is_answered : Manner → Served → Bool
is_answered manner served.Skipped = false
is_answered manner became = manner.is_told

-- the answer to the line of that number, after so many bytes
abbrev pub answer_to : Manner → ℕ → Served → ℕ → List Answer
answer_to manner number became behind = if is_answered manner became then record { line = number; fault = fault_of became; behind = behind } ∷ [] else []

-- ---- the lines of an input

-- where in the input the lines of an engine begin: what came before all lines, the lines before, and how many these are
pub record Point : Type 0 where
  pub base : List ℕ
  pub told : List ℕ
  pub number : ℕ

-- the reading of lines stands there
pub record IsAt (point : Point) (came : Option CameState) (lines : Lines) : Type 0 where
  pub stands : Stands point.base came lines point.told
  pub number : lines.number ≡ point.number

abbrev pub IsSomewhere : Option CameState → Lines → Type 0
IsSomewhere came lines = (point : Point) × IsAt point came lines

-- After these lines, which are so many: the bytes of what came next, the number of the last line, the records, the answers, and the engine
-- then. A line begins where one ended. Where lines are answered, none asked to quit; and none asked for the engine that follows.
pub data OneTurn (manner : Manner) (Refuses : Succession → NumberedState → Unfollowed → Type 0) (told : List ℕ) (number : ℕ) : List ℕ → ℕ → List Record → List Answer → NumberedState → Type 0 where
  whole_line : (line : List ℕ) (records : List Record) (became : Served) (behind : ℕ) (now : NumberedState) → EndsALine told → IsOneLine line → Turn manner line records became now → (manner.is_told ≡ true → became ≢ served.Quit) → asked_of became ≡ None
      → OneTurn manner Refuses told number (line ++ 10 ∷ []) (number + 1) records (answer_to manner (number + 1) became behind) now
  -- It asked for another engine, and none follows, for such a cause.
  refused_line : (line : List ℕ) (how : Succession) (why : Unfollowed) (records : List Record) (behind : ℕ) (now : NumberedState) → EndsALine told → IsOneLine line → Turn manner line records (served.Asked how) now → Refuses how now why
      → OneTurn manner Refuses told number (line ++ 10 ∷ []) (number + 1) records (answer_to manner (number + 1) (served.Refused (fault_of_unfollowed why)) behind) now
  cut_line : (line : List ℕ) (reading : Option ℕ) (records : List Record) (behind : ℕ) (now : NumberedState) → EndsALine told → IsOneLine line → line ≢ [] → IsOfClock manner reading → IsReading reading records
      → OneTurn manner Refuses told number line (number + 1) records (answer_to manner (number + 1) (served.Refused Form) behind) now
  timer_due : (reading : Option ℕ) (records : List Record) (now : NumberedState) → IsOfClock manner reading → IsReading reading records → OneTurn manner Refuses told number [] number records [] now

-- The lines that came so far from that point on, and the timers that were due between them, turn by turn. Each answer stands where it may
-- after the records so far.
pub data Turns (manner : Manner) (Refuses : Succession → NumberedState → Unfollowed → Type 0) (start : NumberedState) (Placed : List Record → ℕ → Type 0) (point : Point) : List ℕ → ℕ → List Record → List Answer → Type 0 where
  no_turn : Turns manner Refuses start Placed point point.told point.number [] []
  one_more : (told : List ℕ) (number : ℕ) (records : List Record) (answers : List Answer) (bytes : List ℕ) (last : ℕ) (more : List Record) (others : List Answer) (now : NumberedState)
      → Turns manner Refuses start Placed point told number records answers → OneTurn manner Refuses told number bytes last more others now → Follows start (records ++ more) now → AreBehind (Placed (records ++ more)) others
      → Turns manner Refuses start Placed point (told ++ bytes) last (records ++ more) (answers ++ others)

-- That line asked to quit, where lines are answered.
pub record Quits (manner : Manner) (base : List ℕ) (came : Option CameState) (told : List ℕ) (number : ℕ) (more : List Record) (others : List Answer) (now : NumberedState) : Type 0 where
  pub is_told : manner.is_told ≡ true
  pub line : List ℕ
  pub begins : EndsALine told
  pub one_line : IsOneLine line
  pub turn : Turn manner line more served.Quit now
  pub behind : ℕ
  pub answered : others ≡ record { line = number + 1; fault = None; behind = behind } ∷ []
  pub is : IfSome came (λ known. (rest : List ℕ) × (all_of known ≡ base ++ (told ++ (line ++ 10 ∷ rest))))

-- All that came was turned, and the input is at its end; or a line asked to quit.
pub data Ends (manner : Manner) (Refuses : Succession → NumberedState → Unfollowed → Type 0) (start : NumberedState) (Placed : List Record → ℕ → Type 0) (point : Point) (came : Option CameState) : List Record → List Answer → Type 0 where
  at_end : (told : List ℕ) (number : ℕ) (records : List Record) (answers : List Answer) → Turns manner Refuses start Placed point told number records answers → IsAll point.base came told → Ends manner Refuses start Placed point came records answers
  at_quit : (told : List ℕ) (number : ℕ) (records more : List Record) (answers others : List Answer) (now : NumberedState) → Turns manner Refuses start Placed point told number records answers → Quits manner point.base came told number more others now
      → Follows start (records ++ more) now → AreBehind (Placed (records ++ more)) others → Ends manner Refuses start Placed point came (records ++ more) (answers ++ others)

-- That line asked for another engine, and it was decided that it follows this one, which has no live run. What comes next is not turned yet.
pub record Asks (manner : Manner) (base : List ℕ) (came : Option CameState) (lines : Lines) (Decided : Succession → NumberedState → Type 0) (told : List ℕ) (number : ℕ) (more : List Record) (now : NumberedState) : Type 0 where
  pub line : List ℕ
  pub begins : EndsALine told
  pub one_line : IsOneLine line
  pub how : Succession
  pub turn : Turn manner line more (served.Asked how) now
  pub is_decided : Decided how now
  pub number_is : lines.number ≡ number + 1
  pub stands : Stands base came lines (told ++ (line ++ 10 ∷ []))

-- All lines before such a one were turned, and it.
pub record EndsAsked (manner : Manner) (Refuses : Succession → NumberedState → Unfollowed → Type 0) (start : NumberedState) (Placed : List Record → ℕ → Type 0) (point : Point) (came : Option CameState) (lines : Lines) (Decided : Succession → NumberedState → Type 0) (records : List Record) (answers : List Answer) : Type 0 where
  pub told : List ℕ
  pub number : ℕ
  pub turned : List Record
  pub turns : Turns manner Refuses start Placed point told number turned answers
  pub more : List Record
  pub now : NumberedState
  pub asks : Asks manner point.base came lines Decided told number more now
  pub all : records ≡ turned ++ more
  pub follows : Follows start records now

-- after these lines it stopped at a reading at most, or in the turn of the next line
pub data StopsAt (manner : Manner) (version : Version) (base : List ℕ) (came : Option CameState) (told : List ℕ) (records : List Record) : Type 0 where
  at_reading : (reading : Option ℕ) → IsOfClock manner reading → IsReading reading records → IfSome came (λ known. (rest : List ℕ) × (all_of known ≡ base ++ (told ++ rest))) → StopsAt manner version base came told records
  in_line : (line : List ℕ) → EndsALine told → IsOneLine line → TurnInPart manner version line records → IfSome came (λ known. (rest : List ℕ) × (all_of known ≡ base ++ (told ++ (line ++ 10 ∷ rest)))) → StopsAt manner version base came told records

-- It stopped after some turns.
pub record Stops (manner : Manner) (Refuses : Succession → NumberedState → Unfollowed → Type 0) (start : NumberedState) (Placed : List Record → ℕ → Type 0) (point : Point) (came : Option CameState) (records : List Record) (answers : List Answer) : Type 0 where
  pub told : List ℕ
  pub number : ℕ
  pub turned : List Record
  pub turns : Turns manner Refuses start Placed point told number turned answers
  pub more : List Record
  pub at : StopsAt manner (version_of start.setup) point.base came told more
  pub all : records ≡ turned ++ more
