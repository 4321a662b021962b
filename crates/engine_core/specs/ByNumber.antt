-- What contracts see of an engine that keeps no history, and which histories may have led to it.
use Rattle.std.specs.Prelude.{◌≡◌, ℕ, List, [], ◌∷◌, ◌++◌, length, filter, count_by, Option, Some, None, map, Bool, true, false}
use Rattle.ccb.specs.Rising.{AreRising}
use Rattle.freeze_ledger.specs.declared.freeze.Freeze.{Freeze}
use Rattle.world_calls.specs.declared.call.Call.{Call}
use Rattle.world_calls.specs.declared.call.Call.TheVariants.{Complete, GuestFreeze, Park, Resume}
use Rattle.world_calls.specs.declared.call_answer.CallAnswer.{CallAnswer}
use Rattle.world_calls.specs.declared.call_answer.CallAnswer.TheVariants as answers
use Rattle.world_calls.specs.declared.record.StoppedAt.{StoppedAt}
use Rattle.world_calls.specs.declared.record.Record.{Record}
use Rattle.world_calls.specs.declared.record.Record.TheVariants.{Called, Advance}
use Rattle.world_calls.specs.declared.totals.Totals.{Totals}
use Rattle.world.specs.World.{Setup, Runs, Transport, World, beginning}
use Rattle.world.specs.Lookups.{is_active}
use Rattle.world.specs.FreezeSteps.{is_guest}
use Rattle.world.specs.WorldRun.{WorldRun}
use Rattle.world.specs.Flat.{flat}
use Rattle.engine_runs.specs.RunsState.{RunsState}
use Rattle.engine_core.specs.EngineState.{EngineState, IsRun, world_of}
use Rattle.engine_core.specs.Invariant.{KeepsEngine}

-- its setup, and what it has of a world
pub record NumberedState : Type 0 where
  pub setup : Setup
  pub transport : Transport
  pub runs : Runs

abbrev pub opened_numbered : Setup → NumberedState
opened_numbered setup = record { setup = setup; transport = (beginning setup).transport; runs = (beginning setup).runs }

-- the freezes of guests, in the order of their numbers
abbrev pub guests_of : List Freeze → List Freeze
guests_of freezes = filter (λ freeze. is_guest freeze.holder) freezes

-- some history led to it, and it has the tokens of all guests' freezes
abbrev pub KeepsNumbered : Setup → Transport → RunsState → List Freeze → Type 0
KeepsNumbered setup transport runs tokens = ((history : List Record) × KeepsEngine setup history transport runs) × (tokens ≡ guests_of transport.freezes)

-- the records lead from the beginning of the setup to a world
abbrev pub IsHistory : Setup → List Record → Type 0
IsHistory setup records = (world : World) × WorldRun setup (flat records) world

-- the records lead to a world of which this engine has the transport and the runs
pub record IsBehind (records : List Record) (state : NumberedState) : Type 0 where
  pub world : World
  pub leads : WorldRun state.setup (flat records) world
  pub is : world ≡ record world { transport = state.transport; runs = state.runs }

-- the engine that keeps its history, if that is this one
abbrev pub engine_of : NumberedState → List Record → EngineState
engine_of state history = record { setup = state.setup; history = history; taken = 0; world = world_of state.setup history state.transport state.runs }

-- with some history it is the run of that
abbrev pub HasHistory : NumberedState → Type 0
HasHistory state = (history : List Record) × IsRun (engine_of state history)

-- one record more led to it
abbrev pub RecordFollows : NumberedState → Record → NumberedState → Type 0
RecordFollows old told new = (records : List Record) → IsBehind records old → IsBehind (records ++ told ∷ []) new

-- this record follows no history of this engine
abbrev pub CannotFollow : NumberedState → Record → Type 0
CannotFollow old told = (records : List Record) → IsBehind records old → IsHistory old.setup (records ++ told ∷ []) → ⊥

-- what a call is answered, or that it is no event here, whatever the answer
abbrev pub AnswersCall : NumberedState → Call → Option CallAnswer → NumberedState → Type 0
AnswersCall old call None new = (new ≡ old) × ((answer : CallAnswer) → CannotFollow old (Called answer call))
AnswersCall old call (Some answer) new = RecordFollows old (Called answer call) new

-- a completion, a guest's freeze and a resume take memory, and no other call does
abbrev pub takes_memory : Call → Bool
takes_memory (Complete outcome) = true
takes_memory (GuestFreeze place guest) = true
takes_memory (Resume run) = true
takes_memory call = false

-- it parks a run, or has a parked one go on
abbrev pub is_of_parking : Call → Bool
is_of_parking (Park run) = true
is_of_parking (Resume run) = true
is_of_parking call = false

-- the record is one of an advance of this run
pub record IsAdvanceOf (run : ℕ) (told : Record) : Type 0 where
  pub instructions : ℕ
  pub stop : StoppedAt
  pub r0 : ℕ
  pub is : told ≡ Advance run instructions stop r0

-- what a run did up to its next stop, or that none of that number is out, and no advance of it is an event here
abbrev pub Advances : NumberedState → ℕ → Option Record → NumberedState → Type 0
Advances old run None new = (new ≡ old) × ((instructions : ℕ) (stop : StoppedAt) (r0 : ℕ) → CannotFollow old (Advance run instructions stop r0))
Advances old run (Some told) new = IsAdvanceOf run told × RecordFollows old told new

-- the sums after so many records
abbrev pub sums_behind : ℕ → NumberedState → Totals
sums_behind records state = record {
  history = records;
  frozen = length state.transport.freezes;
  active = count_by (λ live. is_active live.state) state.transport.live;
  runs = length state.runs.list;
}

-- ---- inside

-- the numbers of these freezes rise
abbrev pub AreTokens : List Freeze → Type 0
AreTokens tokens = (greatest : ℕ) × AreRising 0 (map (λ token. token.number) tokens) greatest

abbrev pub IsCalled : Record → Type 0
IsCalled (Called answer call) = Unit {0}
IsCalled (Advance run instructions stop r0) = ⊥

-- what a call was answered
abbrev pub answer_told : Record → CallAnswer
answer_told (Called answer call) = answer
answer_told (Advance run instructions stop r0) = answers.Ok
