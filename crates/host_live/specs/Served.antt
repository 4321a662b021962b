-- What a live engine served: of its input, of its answers, and of the trace that is out.
use Rattle.std.specs.Prelude.{◌≡◌, ◌≢◌, ◌⊎◌, ℕ, Bool, true, false, Option, Some, None, IfSome, Result, Ok, Err, List, [], ◌∷◌, ◌++◌, MatchBool, ⊤}
use Rattle.world_calls.specs.declared.record.Record.{Record}
use Rattle.world.specs.World.{version_of}
use Rattle.engine_core.specs.ByNumber.{NumberedState}
use Rattle.host_live.specs.Answering.{Answer, AreBehind, IsLong, with_answers}
use Rattle.host_live.specs.Drafts.{IsDraftOf}
use Rattle.host_live.specs.Growth.{GrowsBy, PrintedState}
use Rattle.host_live.specs.Inputs.{CameState}
use Rattle.host_live.specs.LinesCome.{IsAll, Stands}
use Rattle.host_live.specs.Successions.{IsDecided, asked_of, fault_of_unfollowed}
use Rattle.host_live.specs.Telling.{IsContinued, IsContinuedInPart, IsOutBehind}
use Rattle.host_live.specs.Turns.{AreDriven, AreOfRuns, Asks, Ends, EndsAsked, Follows, IsOfClock, IsReading, OneTurn, Point, Quits, Stops, StopsAt, Turn, TurnInPart, answer_to, is_answered}
use Rattle.host_live.specs.declared.answering.After.{After}
use Rattle.host_live.specs.declared.answering.After.TheVariants as after
use Rattle.host_live.specs.declared.answering.Turn.{Turn as CarriedOut}
use Rattle.host_live.specs.declared.answering.Turn.TheVariants as turn
use Rattle.host_live.specs.declared.served.Served.{Served}
use Rattle.host_live.specs.declared.served.Served.TheVariants as served
use Rattle.host_live.specs.declared.lines.Lines.{Lines}
use Rattle.host_live.specs.declared.lines.Next.{Next}
use Rattle.host_live.specs.declared.lines.Next.TheVariants as next
use Rattle.host_live.specs.declared.manner.Manner.{Manner}
use Rattle.host_live.specs.declared.printed.Printed.{Printed}
use Rattle.host_live.specs.declared.reports.LineFault.TheVariants.{Form}
use Rattle.host_live.specs.declared.reports.Unfollowed.{Unfollowed}
use Rattle.host_live.specs.declared.request.Succession.{Succession}

-- ---- all turns

-- unless runs stay out, those that were out were driven
abbrev pub AreDrivenFirst : Manner → NumberedState → List Record → Type 0
AreDrivenFirst manner now records = MatchBool manner.is_stepped (records ≡ []) (AreDriven now records)

-- at the end of the input those that were out were driven, unless the trace is kept
abbrev pub AreDrivenLast : Manner → NumberedState → List Record → Type 0
AreDrivenLast manner now records = MatchBool manner.is_kept (records ≡ []) (AreDriven now records)

-- All that came was turned, and then the runs that were out were driven; or the lines up to one that asked for the engine that follows.
pub data Finishes (manner : Manner) (Refuses : Succession → NumberedState → Unfollowed → Type 0) (start : NumberedState) (Placed : List Record → ℕ → Type 0) (point : Point) (came : Option CameState) (lines : Lines) (Decided : Succession → NumberedState → Type 0) : (is_followed : Bool) → List Record → List Answer → Type 0 where
  to_the_end : (turned last : List Record) (answers : List Answer) (now : NumberedState) → Ends manner Refuses start Placed point came turned answers → AreDrivenLast manner now last → Follows start (turned ++ last) now
      → Finishes manner Refuses start Placed point came lines Decided false (turned ++ last) answers
  to_the_next : (turned : List Record) (answers : List Answer) → EndsAsked manner Refuses start Placed point came lines Decided turned answers → Finishes manner Refuses start Placed point came lines Decided true turned answers

-- a part of that was done
pub data FinishesInPart (manner : Manner) (Refuses : Succession → NumberedState → Unfollowed → Type 0) (start : NumberedState) (Placed : List Record → ℕ → Type 0) (point : Point) (came : Option CameState) : List Record → List Answer → Type 0 where
  in_turns : (records : List Record) (answers : List Answer) → Stops manner Refuses start Placed point came records answers → FinishesInPart manner Refuses start Placed point came records answers
  in_drives : (turned driven : List Record) (answers : List Answer) → Ends manner Refuses start Placed point came turned answers → AreOfRuns driven → (manner.is_kept ≡ true → driven ≡ []) → FinishesInPart manner Refuses start Placed point came (turned ++ driven) answers
  at_last : (lines : Lines) (is_followed : Bool) (records : List Record) (answers : List Answer) → Finishes manner Refuses start Placed point came lines (λ how now. ⊤) is_followed records answers → FinishesInPart manner Refuses start Placed point came records answers

-- The runs that were out were driven first. Then what came was turned.
pub record IsGoneOn (manner : Manner) (Refuses : Succession → NumberedState → Unfollowed → Type 0) (start : NumberedState) (Placed : List Record → ℕ → Type 0) (point : Point) (came : Option CameState) (lines : Lines) (Decided : Succession → NumberedState → Type 0) (is_followed : Bool) (records : List Record) (answers : List Answer) : Type 0 where
  pub driven : List Record
  pub turned : List Record
  pub now : NumberedState
  pub all : records ≡ driven ++ turned
  pub first : AreDrivenFirst manner now driven
  pub follows : Follows start driven now
  pub finishes : Finishes manner Refuses now (λ (more : List Record). Placed (driven ++ more)) point came lines Decided is_followed turned answers

-- a part of that was done
pub data IsGoneOnInPart (manner : Manner) (Refuses : Succession → NumberedState → Unfollowed → Type 0) (start : NumberedState) (Placed : List Record → ℕ → Type 0) (point : Point) (came : Option CameState) (records : List Record) (answers : List Answer) : Type 0 where
  in_first : manner.is_stepped ≡ false → AreOfRuns records → answers ≡ [] → IsGoneOnInPart manner Refuses start Placed point came records answers
  in_the_rest : (driven turned : List Record) (now : NumberedState) → records ≡ driven ++ turned → AreDrivenFirst manner now driven → Follows start driven now → FinishesInPart manner Refuses now (λ (more : List Record). Placed (driven ++ more)) point came turned answers
      → IsGoneOnInPart manner Refuses start Placed point came records answers

-- ---- what is said of a call

-- What is out continues the trace of these records by that of the turns of what came, and the answers are those of these turns, each given
-- when the lines of its turn, and none of later ones, were out. The records of these lines are those that were counted.
pub record IsServedOn (start : NumberedState) (manner : Manner) (Refuses : Succession → NumberedState → Unfollowed → Type 0) (point : Point) (came : Option CameState) (lines : Lines) (Decided : Succession → NumberedState → Type 0) (Counted : List Record → Type 0) (is_followed : Bool) (records : List Record) (base at : Option (List ℕ)) (given answered : Option (List Answer)) : Type 0 where
  pub out : IsContinued start.setup manner records base at
  pub answers : List Answer
  pub are_answers : answered ≡ with_answers given answers
  pub turned : IsGoneOn manner Refuses start (IsOutBehind (version_of start.setup) [] base) point came lines Decided is_followed out.more answers
  pub counted : Counted out.more

-- a front of that; the last line begins in it only after all of that; all records that were made were counted
pub record IsServedOnInPart (start : NumberedState) (manner : Manner) (Refuses : Succession → NumberedState → Unfollowed → Type 0) (point : Point) (came : Option CameState) (lines : Lines) (Decided : Succession → NumberedState → Type 0) (Counted : List Record → Type 0) (records : List Record) (base at : Option (List ℕ)) (given answered : Option (List Answer)) : Type 0 where
  pub out : IsContinuedInPart start.setup manner records base at
  pub rest : List Record
  pub answers : List Answer
  pub are_answers : answered ≡ with_answers given answers
  pub turned : IsGoneOnInPart manner Refuses start (IsOutBehind (version_of start.setup) [] base) point came (out.more ++ rest) answers
  pub closed : IfSome out.last (λ totals. (rest ≡ []) × ((is_followed : Bool) × IsGoneOn manner Refuses start (IsOutBehind (version_of start.setup) [] base) point came lines Decided is_followed out.more answers))
  pub counted : Counted (out.more ++ rest)

abbrev pub ContinuesTurns : {E : Type 0} → NumberedState → Manner → (Succession → NumberedState → Unfollowed → Type 0) → Point → Option CameState → Lines → (Succession → NumberedState → Type 0) → (List Record → Type 0) → List Record → Option (List ℕ) → Option (List Answer) → Result Bool E → Option (List ℕ) → Option (List Answer) → Type 0
ContinuesTurns start manner Refuses point came lines Decided Counted records base given (Ok is_followed) at answered = IsServedOn start manner Refuses point came lines Decided Counted is_followed records base at given answered
ContinuesTurns start manner Refuses point came lines Decided Counted records base given (Err fault) at answered = IsServedOnInPart start manner Refuses point came lines Decided Counted records base at given answered

-- the answer to that line
abbrev pub is_carried_out : (line behind : ℕ) → List Answer
is_carried_out line behind = record { line = line; fault = None; behind = behind } ∷ []

-- the answer that was owed was given, if lines are answered; or it could not be
abbrev pub IsOwed : {T E : Type 0} → Manner → (owed : Option ℕ) → Result T E → Option (List ℕ) → List Answer → Type 0
IsOwed manner None result base first = first ≡ []
IsOwed manner (Some line) (Ok done) base first = MatchBool manner.is_told ((behind : ℕ) × IsLong base behind × (first ≡ is_carried_out line behind)) (first ≡ [])
IsOwed manner (Some line) (Err fault) base first = (first ≡ []) ⊎ ((behind : ℕ) × IsLong base behind × (first ≡ is_carried_out line behind))

-- ---- inside

-- it was given
abbrev pub AnswersOwed : {T E : Type 0} → Manner → (owed : Option ℕ) → Option (List ℕ) → Option (List Answer) → Result T E → Option (List Answer) → Type 0
AnswersOwed manner owed base given (Ok done) answered = (first : List Answer) × IsOwed {E = Unit {0}} manner owed (Ok done) base first × (answered ≡ with_answers given first)
AnswersOwed manner owed base given (Err fault) answered = answered ≡ given

-- some records and answers more, of which that holds
pub record GrowsWith (These : List Record → List Answer → Type 0) (old : PrintedState) (at : Option (List ℕ)) (failed : ℕ) (given : Option (List Answer)) (new : PrintedState) (to : Option (List ℕ)) (fails : ℕ) (answered : Option (List Answer)) : Type 0 where
  pub more : List Record
  pub others : List Answer
  pub these : These more others
  pub by : GrowsBy more old at failed new to fails
  pub are_answers : answered ≡ with_answers given others

-- the lines were turned
abbrev pub EndsOr : {E : Type 0} → Manner → (Succession → NumberedState → Unfollowed → Type 0) → NumberedState → (List Record → ℕ → Type 0) → Point → Option CameState → Lines → (Succession → NumberedState → Type 0) → Result Bool E → List Record → List Answer → Type 0
EndsOr manner Refuses start Placed point came lines Decided (Ok false) records answers = Ends manner Refuses start Placed point came records answers
EndsOr manner Refuses start Placed point came lines Decided (Ok true) records answers = EndsAsked manner Refuses start Placed point came lines Decided records answers
EndsOr manner Refuses start Placed point came lines Decided (Err fault) records answers = Stops manner Refuses start Placed point came records answers

-- and the runs driven, or a part of that was done
abbrev pub FinishesOr : {E : Type 0} → Manner → (Succession → NumberedState → Unfollowed → Type 0) → NumberedState → (List Record → ℕ → Type 0) → Point → Option CameState → Lines → (Succession → NumberedState → Type 0) → Result Bool E → List Record → List Answer → Type 0
FinishesOr manner Refuses start Placed point came lines Decided (Ok is_followed) records answers = Finishes manner Refuses start Placed point came lines Decided is_followed records answers
FinishesOr manner Refuses start Placed point came lines Decided (Err fault) records answers = FinishesInPart manner Refuses start Placed point came records answers

abbrev pub GoesOnOr : {E : Type 0} → Manner → (Succession → NumberedState → Unfollowed → Type 0) → NumberedState → (List Record → ℕ → Type 0) → Point → Option CameState → Lines → (Succession → NumberedState → Type 0) → Result Bool E → List Record → List Answer → Type 0
GoesOnOr manner Refuses start Placed point came lines Decided (Ok is_followed) records answers = IsGoneOn manner Refuses start Placed point came lines Decided is_followed records answers
GoesOnOr manner Refuses start Placed point came lines Decided (Err fault) records answers = IsGoneOnInPart manner Refuses start Placed point came records answers

abbrev pub DrivesFirst : {T E : Type 0} → Manner → Result T E → NumberedState → List Record → Type 0
DrivesFirst manner (Ok done) now records = AreDrivenFirst manner now records
DrivesFirst manner (Err fault) now records = (manner.is_stepped ≡ false) × AreOfRuns records

-- the runs that were out at the end of the input were driven, or a part of that was done; none is if another engine follows
abbrev pub DrivesLast : {T E : Type 0} → Manner → (is_followed : Bool) → Result T E → NumberedState → List Record → Type 0
DrivesLast manner true result now records = records ≡ []
DrivesLast manner false (Ok done) now records = AreDrivenLast manner now records
DrivesLast manner false (Err fault) now records = AreOfRuns records × (manner.is_kept ≡ true → records ≡ [])

-- all was handed on, and no write failed
abbrev pub IsHandedOn : Printed → Type 0
IsHandedOn printed = (printed.lines.waiting ≡ []) × (printed.has_failed ≡ false)

-- so many bytes are out, and all was handed on
abbrev pub IsNow : Printed → Option (List ℕ) → ℕ → Type 0
IsNow printed at behind = IsHandedOn printed × IsLong at behind

-- one that did not fail was to print the lines of these records, and then so many bytes were out
abbrev pub IsPrintedBehind : Printed → Option (List ℕ) → List Record → ℕ → Type 0
IsPrintedBehind printed at records behind = (printed.has_failed ≡ false) × IsOutBehind printed.lines.version printed.lines.waiting at records behind

-- one turn, the end, a line that asks for the engine that follows, or a part of a turn
abbrev pub NextIs : {E : Type 0} → Manner → (Succession → NumberedState → Unfollowed → Type 0) → List ℕ → List ℕ → ℕ → Option CameState → Lines → (Succession → NumberedState → Type 0) → Result After E → NumberedState → Printed → Option (List ℕ) → List Record → List Answer → Type 0
NextIs manner Refuses base told number came lines Decided (Ok after.More) now printed at records answers = (bytes : List ℕ) × OneTurn manner Refuses told number bytes lines.number records answers now × AreBehind (IsNow printed at) answers × Stands base came lines (told ++ bytes)
NextIs manner Refuses base told number came lines Decided (Ok after.End) now printed at records answers = ((records ≡ []) × (answers ≡ []) × IsAll base came told) ⊎ (Quits manner base came told number records answers now × AreBehind (IsNow printed at) answers)
NextIs manner Refuses base told number came lines Decided (Ok after.Asked) now printed at records answers = (answers ≡ []) × Asks manner base came lines Decided told number records now
NextIs manner Refuses base told number came lines Decided (Err fault) now printed at records answers = (answers ≡ []) × StopsAt manner (version_of now.setup) base came told records

-- the line that is carried out
abbrev pub IsLineNow : Next → Lines → List ℕ → Type 0
IsLineNow next.Line lines line = IsDraftOf line lines.draft × (lines.is_ended ≡ false)
IsLineNow next.Cut lines line = ⊤
IsLineNow next.Nothing lines line = ⊤
IsLineNow (next.Due reading) lines line = ⊤
IsLineNow next.End lines line = ⊤
IsLineNow next.Failed lines line = ⊤

-- a line was carried out, or a part of it
abbrev pub CarriesLine : {E : Type 0} → Manner → List ℕ → Result CarriedOut E → NumberedState → List Record → Type 0
CarriesLine manner line (Ok (turn.Line became)) now records = Turn manner line records became now
CarriesLine manner line (Ok turn.Timer) now records = ⊥
CarriesLine manner line (Ok turn.End) now records = ⊥
CarriesLine manner line (Err fault) now records = TurnInPart manner (version_of now.setup) line records

-- one that is cut off led to a reading at most
abbrev pub CarriesCut : {E : Type 0} → Manner → Result CarriedOut E → List Record → Type 0
CarriesCut manner (Ok (turn.Line became)) records = (became ≡ served.Refused Form) × (reading : Option ℕ) × IsOfClock manner reading × IsReading reading records
CarriesCut manner (Ok turn.Timer) records = ⊥
CarriesCut manner (Ok turn.End) records = ⊥
CarriesCut manner (Err fault) records = (reading : Option ℕ) × IsOfClock manner reading × IsReading reading records

-- so did a timer
abbrev pub CarriesReading : {E : Type 0} → ℕ → Result CarriedOut E → List Record → Type 0
CarriesReading reading (Ok (turn.Line became)) records = ⊥
CarriesReading reading (Ok turn.Timer) records = IsReading (Some reading) records
CarriesReading reading (Ok turn.End) records = ⊥
CarriesReading reading (Err fault) records = IsReading (Some reading) records

-- nothing was to be carried out
abbrev pub CarriesNothing : {E : Type 0} → Result CarriedOut E → List Record → Type 0
CarriesNothing (Ok (turn.Line became)) records = ⊥
CarriesNothing (Ok turn.Timer) records = records ≡ []
CarriesNothing (Ok turn.End) records = ⊥
CarriesNothing (Err fault) records = ⊥

-- the input is at its end
abbrev pub CarriesEnd : {E : Type 0} → Result CarriedOut E → List Record → Type 0
CarriesEnd (Ok (turn.Line became)) records = ⊥
CarriesEnd (Ok turn.Timer) records = ⊥
CarriesEnd (Ok turn.End) records = records ≡ []
CarriesEnd (Err fault) records = ⊥

-- or cannot be read
abbrev pub CarriesFailure : {E : Type 0} → Result CarriedOut E → List Record → Type 0
CarriesFailure (Ok out) records = ⊥
CarriesFailure (Err fault) records = records ≡ []

-- what may come: a timer is due only where the clock is read
abbrev pub MayCome : Manner → Next → Type 0
MayCome manner next.Line = ⊤
MayCome manner next.Cut = ⊤
MayCome manner next.Nothing = ⊤
MayCome manner (next.Due reading) = IsOfClock manner (Some reading)
MayCome manner next.End = ⊤
MayCome manner next.Failed = ⊤

-- what came was carried out
abbrev pub Carries : {E : Type 0} → Manner → Next → List ℕ → Result CarriedOut E → NumberedState → List Record → Type 0
Carries manner next.Line line result now records = CarriesLine manner line result now records
Carries manner next.Cut line result now records = CarriesCut manner result records
Carries manner (next.Due reading) line result now records = IsOfClock manner (Some reading) × CarriesReading reading result records
Carries manner next.Nothing line result now records = CarriesNothing result records
Carries manner next.End line result now records = CarriesEnd result records
Carries manner next.Failed line result now records = CarriesFailure result records

-- what came was answered, when all was handed on, and what comes after it
abbrev pub AnswersTurn : {E : Type 0} → Manner → ℕ → CarriedOut → Option (List Answer) → Result After E → Option (List Answer) → Printed → Option (List ℕ) → Type 0
AnswersTurn manner number (turn.Line became) given (Ok after.More) answered printed at =
    (behind : ℕ) × (answered ≡ with_answers given (answer_to manner number became behind)) × (is_answered manner became ≡ true → IsNow printed at behind) × (manner.is_told ≡ true → became ≢ served.Quit) × (asked_of became ≡ None)
AnswersTurn manner number (turn.Line became) given (Ok after.End) answered printed at =
    (behind : ℕ) × (answered ≡ with_answers given (answer_to manner number became behind)) × (is_answered manner became ≡ true → IsNow printed at behind) × (manner.is_told ≡ true) × (became ≡ served.Quit)
AnswersTurn manner number (turn.Line became) given (Ok after.Asked) answered printed at = (answered ≡ given) × (how : Succession) × (became ≡ served.Asked how)
AnswersTurn manner number turn.Timer given (Ok what) answered printed at = (answered ≡ given) × (what ≡ after.More)
AnswersTurn manner number turn.End given (Ok what) answered printed at = (answered ≡ given) × (what ≡ after.End)
AnswersTurn manner number (turn.Line became) given (Err fault) answered printed at = answered ≡ given
AnswersTurn manner number turn.Timer given (Err fault) answered printed at = answered ≡ given
AnswersTurn manner number turn.End given (Err fault) answered printed at = answered ≡ given

-- what a line leads to where it was decided whether another engine follows: the same; or it is refused, if it asked for one and none follows
abbrev pub IsDecidedLine : Served → (Succession → NumberedState → Unfollowed → Type 0) → (Succession → NumberedState → Type 0) → NumberedState → Served → Type 0
IsDecidedLine became Refuses Decided now result =
    ((result ≡ became) × IsDecided Decided now became) ⊎ ((how : Succession) × (why : Unfollowed) × (became ≡ served.Asked how) × Refuses how now why × (result ≡ served.Refused (fault_of_unfollowed why)))

abbrev pub IsDecidedTurn : CarriedOut → (Succession → NumberedState → Unfollowed → Type 0) → (Succession → NumberedState → Type 0) → NumberedState → CarriedOut → Type 0
IsDecidedTurn (turn.Line became) Refuses Decided now result = (is : Served) × (result ≡ turn.Line is) × IsDecidedLine became Refuses Decided now is
IsDecidedTurn turn.Timer Refuses Decided now result = result ≡ turn.Timer
IsDecidedTurn turn.End Refuses Decided now result = result ≡ turn.End

-- it was decided, and answered
abbrev pub AnswersDecided : {E : Type 0} → Manner → ℕ → CarriedOut → (Succession → NumberedState → Unfollowed → Type 0) → (Succession → NumberedState → Type 0) → NumberedState → Option (List Answer) → Result After E → Option (List Answer) → Printed → Option (List ℕ) → Type 0
AnswersDecided manner number out Refuses Decided now given (Ok what) answered printed at = (is : CarriedOut) × IsDecidedTurn out Refuses Decided now is × AnswersTurn {E = Unit {0}} manner number is given (Ok what) answered printed at
AnswersDecided manner number out Refuses Decided now given (Err fault) answered printed at = answered ≡ given
