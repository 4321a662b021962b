-- What an engine that is shared keeps under its lock, and what a call of it says.
use Rattle.std.specs.Prelude.{◌≡◌, ℕ, Bool, true, false, List, [], ◌∷◌, ◌++◌, length, All, MatchOption}
use Rattle.std.specs.List.{sum_by}
use Rattle.world_calls.specs.declared.record.Record.{Record}
use Rattle.world.specs.World.{Setup}
use Rattle.engine_core.specs.EngineState.{EngineState, IsRun}
use Rattle.engine_core.specs.declared.event.Event.{Event}
use Rattle.engine_core.specs.declared.reply.Reply.{Reply}
use Rattle.engine_core.specs.declared.reply.Reply.TheVariants.{NotAdmitted}
use Rattle.engine_core.specs.Replies.{ReplyMatchesEvent, GivesAsRecorded, IsRecorded, ToldFit, record_of}
use Rattle.monitor.specs.declared.knowledge.Pair.{Pair}
use Rattle.monitor.specs.LegalHistory.{LegalHistory, StartsWith, records, unshared}
use Rattle.monitor.specs.Telling.{Agrees, CallerState, Joins, KeeperState, Looks, WatchState}

-- an engine of this setup that began with these records, and has so many more since, of which none was handed on
pub record IsSince (setup : Setup) (begun : List Record) (calls : ℕ) (state : EngineState) : Type 0 where
  pub run : IsRun state
  pub setup_is : state.setup ≡ setup
  pub untaken : state.taken ≡ 0
  pub since : List Record
  pub history : state.history ≡ begun ++ since
  pub count : length since ≡ calls

-- the engine answers an event so
pub record Answers (old : EngineState) (event : Event) (reply : Reply) (new : EngineState) : Type 0 where
  pub recorded : IsRecorded old event reply new
  pub fits : ReplyMatchesEvent event reply
  pub fit : ToldFit old.world event reply
  pub gives : GivesAsRecorded old.setup old.world event new.world reply

-- what stands under the lock: the engine, its history with who made each record, and how many callers were given out
pub record LockedState : Type 0 where
  pub engine : EngineState
  pub history : List Pair
  pub given : ℕ

-- what the keeper of the history knows
abbrev pub keeper_of : LockedState → KeeperState
keeper_of state = record { history = state.history; callers = state.given }

-- C4 or C6
abbrev pub is_unfit : Reply → Bool
is_unfit (NotAdmitted back) = true
is_unfit reply = false

-- What a call that is not recorded tells its caller, where this history stood. After C4 or C6 it has seen that history. Where
-- memory was refused it knows what it knew.
abbrev pub TellsUnrecorded : Setup → List Pair → Reply → CallerState → CallerState → Type 0
TellsUnrecorded setup history (NotAdmitted back) before after = Looks setup history before after
TellsUnrecorded setup history reply before after = after ≡ before

-- What a call tells its caller, where this history stood. Where it is recorded its record joined the history, at its end, and the
-- caller has seen the history with it.
abbrev pub Tells : Setup → List Pair → Event → Reply → CallerState → CallerState → Type 0
Tells setup history event reply before after = MatchOption (record_of setup event reply) (TellsUnrecorded setup history reply before after) (λ made. Joins setup history before (made ∷ []) after)

-- One call of a shared engine, a section under its lock: the engine as it was found, by its history with who made each record, and
-- as it was left; what it answered, and what that tells the caller.
pub record Section (setup : Setup) (event : Event) (reply : Reply) (before after : CallerState) : Type 0 where
  pub found : EngineState
  pub left : EngineState
  pub run : IsRun found
  pub setup_is : found.setup ≡ setup
  pub history : List Pair
  pub its : records history ≡ found.history
  pub answers : Answers found event reply left
  pub tells : Tells setup history event reply before after

-- it has made nothing and was told nothing, and what it has seen is legal and begins with what stood there before
pub record IsNewCaller (setup : Setup) (begun : List Record) (caller : CallerState) : Type 0 where
  pub mine : caller.mine ≡ []
  pub told : caller.told ≡ []
  pub seen : LegalHistory setup caller.seen
  pub front : StartsWith caller.seen (unshared begun)

pub record IsNewWatch (setup : Setup) (begun : List Record) (watch : WatchState) : Type 0 where
  pub told : watch.told ≡ []
  pub seen : LegalHistory setup watch.seen
  pub front : StartsWith watch.seen (unshared begun)

-- The engine at the end: beyond the records with which it began it has as many as these callers had recorded calls, and its history,
-- with who made each record, begins with those that no caller made and with what each had seen and was told of, and has of each
-- just the records that it made.
pub record Closes (setup : Setup) (begun : List Record) (callers : List CallerState) (state : EngineState) : Type 0 where
  pub since : IsSince setup begun (sum_by (λ caller. length caller.mine) callers) state
  pub history : List Pair
  pub its : records history ≡ state.history
  pub front : StartsWith history (unshared begun)
  pub agree : All (Agrees history) callers
