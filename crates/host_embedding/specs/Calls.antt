-- What a result says of a call: it is recorded, carried out or refused, or nothing changed.
use Rattle.std.specs.Prelude.{◌≡◌, ℕ, Bool, true, false, Option, Some, None, IsSome, List, ◌++◌, Result, Ok, Err}
use Rattle.std.specs.Global.{Box}
use Rattle.ccb.specs.declared.place.Place.{Place}
use Rattle.freeze_ledger.specs.Freezes.{entry_of}
use Rattle.world_calls.specs.declared.call.Call.{Call}
use Rattle.bpf_semantics.specs.declared.stop.Stop.TheVariants as stops
use Rattle.world_calls.specs.declared.call.Call.TheVariants.{GuestFreeze, GuestRelease, Park, Resume}
use Rattle.world_calls.specs.declared.call_answer.CallAnswer.{CallAnswer}
use Rattle.world_calls.specs.declared.call_answer.CallAnswer.TheVariants as answers
use Rattle.world_calls.specs.declared.record.Record.{Record}
use Rattle.world_calls.specs.declared.record.Record.TheVariants.{Called, Advance}
use Rattle.engine_core.specs.Answers.{stopped_at}
use Rattle.engine_core.specs.EngineState.{EngineState, Records}
use Rattle.engine_core.specs.ByNumber.{guests_of}
use Rattle.engine_core.specs.Driving.{RunsToExit, WentOn}
use Rattle.engine_core.specs.RunState.{RunState, StoppedState, before_stop, IsOut, IsOutUnder}
use Rattle.host_embedding.specs.declared.call_result.CallResult.{CallResult}
use Rattle.host_embedding.specs.declared.call_result.CallResult.TheVariants.{Done, OutOfMemory, Refused, NotOut, NoToken, NotStretched}
use Rattle.host_embedding.specs.declared.call_result.CallResult.TheVariants as results
use Rattle.host_embedding.specs.declared.run_handle.HeldRun.{HeldRun}
use Rattle.host_embedding.specs.declared.run_handle.HeldRun.TheVariants.{Out, Stopped, Spent}
use Rattle.host_embedding.specs.declared.run_handle.RunHandle.{RunHandle}

-- a call that was not carried out: refused, it is one record more that tells so, and where memory was refused the engine is as
-- before; it is told no other result
abbrev pub IsFaulted : CallResult → EngineState → EngineState → Call → Type 0
IsFaulted (Refused refusal) old new call = Records old new (Called (answers.Refused refusal) call)
IsFaulted OutOfMemory old new call = new ≡ old
IsFaulted result old new call = ⊥

-- a call with this result: done, it is one record more with this answer
abbrev pub IsCalled : CallResult → EngineState → EngineState → CallAnswer → Call → Type 0
IsCalled Done old new answer call = Records old new (Called answer call)
IsCalled result old new answer call = IsFaulted result old new call

-- a guest's freeze with this result: done, the number that is told is of no freeze that there was
abbrev pub IsFrozen : CallResult → EngineState → EngineState → ℕ → Place → ℕ → Type 0
IsFrozen result old new freeze place guest =
    IsCalled result old new (answers.Freeze freeze) (GuestFreeze place guest)
    × (result ≡ Done → entry_of freeze old.world.transport.freezes ≡ None)

-- a release with this result: done, it is one record more; there is no token of that number exactly where no guest holds a freeze
-- of it, and then, or where memory was refused, the engine is as before
abbrev pub IsReleased : CallResult → EngineState → EngineState → ℕ → ℕ → Type 0
IsReleased Done old new left freeze = Records old new (Called (answers.Left left) (GuestRelease freeze))
IsReleased OutOfMemory old new left freeze = (new ≡ old) × IsSome (entry_of freeze (guests_of old.world.transport.freezes))
IsReleased NoToken old new left freeze = (new ≡ old) × (entry_of freeze (guests_of old.world.transport.freezes) ≡ None)
IsReleased result old new left freeze = ⊥

-- The handle holds this run, which is out in the engine with the recorded program: so the engine takes it over at its next stop.
pub record HoldsRun (state : EngineState) (handle : RunHandle) (run : RunState) : Type 0 where
  pub number : handle.number ≡ run.number
  pub held : handle.held ≡ Out run
  pub out : IsOutUnder state.setup state.world run

-- a completion with this result: the CCB is finished, or a run is started, which is in the handle
abbrev pub IsCompleted : Result (Option (Box RunHandle)) CallResult → EngineState → EngineState → Call → Type 0
IsCompleted (Ok None) old new call = Records old new (Called answers.Done call)
IsCompleted (Ok (Some handle)) old new call =
    Records old new (Called (answers.Started handle.value.number handle.value.freeze) call) × ((run : RunState) × HoldsRun new handle.value run)
IsCompleted (Err result) old new call = IsFaulted result old new call

-- a resume of the run of this number with this result: that run is in the handle, which tells of no freeze
abbrev pub IsResumed : Result (Box RunHandle) CallResult → EngineState → EngineState → ℕ → Type 0
IsResumed (Ok handle) old new number =
    Records old new (Called answers.Ok (Resume number)) × (handle.value.number ≡ number) × (handle.value.freeze ≡ 0) × ((run : RunState) × HoldsRun new handle.value run)
IsResumed (Err result) old new number = IsFaulted result old new (Resume number)

-- what the run at a stop tells, with R0 after it
abbrev pub advance_of : StoppedState → ℕ → Record
advance_of stopped r0 = Advance stopped.number stopped.segment.steps (stopped_at stopped.segment.stop) r0

-- The same run goes on, and is out in the engine; with the recorded program if it came with that.
pub record GoesFurther (old new : EngineState) (run again : RunState) : Type 0 where
  pub number : again.number ≡ run.number
  pub program : again.program ≡ run.program
  pub out : IsOut new.world again
  pub under : IsOutUnder old.setup old.world run → IsOutUnder new.setup new.world again

-- what becomes of a run that was taken over at its stop: it is spent if it has ended, at the exit that its segment came to, else the
-- same run goes on
abbrev pub GoesOrIsSpent : Bool → StoppedState → HeldRun → EngineState → EngineState → ℕ → Type 0
GoesOrIsSpent true stopped held old new r0 = (held ≡ Spent) × (stopped.segment.stop ≡ stops.Exit r0)
GoesOrIsSpent false stopped held old new r0 = (again : RunState) × (held ≡ Out again) × GoesFurther old new (before_stop stopped) again

-- An advance with this result, of a run at its stop: done, it was out in this engine, and it is one record more. If it is not out
-- there, which is reported exactly then, or memory was refused, the engine is as before, and the run where its stretch began.
abbrev pub IsTakenOver : CallResult → StoppedState → HeldRun → EngineState → EngineState → ℕ → Bool → Type 0
IsTakenOver Done stopped held old new r0 ended =
    Records old new (advance_of stopped r0) × IsOut old.world (before_stop stopped) × GoesOrIsSpent ended stopped held old new r0
IsTakenOver OutOfMemory stopped held old new r0 ended = (new ≡ old) × (held ≡ Out (before_stop stopped)) × IsOut old.world (before_stop stopped)
IsTakenOver NotOut stopped held old new r0 ended =
    (new ≡ old) × (held ≡ Out (before_stop stopped)) × (IsOut old.world (before_stop stopped) → ⊥)
IsTakenOver result stopped held old new r0 ended = ⊥

-- an advance with this result, of a run that was held so, and how it is held then
abbrev pub IsAdvanced : CallResult → HeldRun → HeldRun → EngineState → EngineState → ℕ → Bool → Type 0
IsAdvanced result (Stopped stopped) held old new r0 ended = IsTakenOver result stopped held old new r0 ended
IsAdvanced result (Out run) held old new r0 ended = (result ≡ NotStretched) × (held ≡ Out run) × (new ≡ old)
IsAdvanced result Spent held old new r0 ended = (result ≡ results.Spent) × (held ≡ Spent) × (new ≡ old)

-- a park with this result, of the run that was out, if one was, and how it is held then: that it is not out in this engine is
-- reported exactly if it is so
abbrev pub IsParked : CallResult → Option RunState → HeldRun → EngineState → EngineState → Type 0
IsParked result None held old new = (result ≡ results.Spent) × (held ≡ Spent) × (new ≡ old)
IsParked Done (Some run) held old new = Records old new (Called answers.Ok (Park run.number)) × (held ≡ Spent) × IsOut old.world run
IsParked NotOut (Some run) held old new = (held ≡ Out run) × (new ≡ old) × (IsOut old.world run → ⊥)
IsParked result (Some run) held old new = ⊥

-- some records more, or none
pub record HasMoreRecords (old new : EngineState) : Type 0 where
  pub more : List Record
  pub history : new.history ≡ old.history ++ more
  pub setup : new.setup ≡ old.setup

-- A drive with this result, of the run that was out, if one was, and how it is held then: done, it came to its exit, with this R0. If
-- memory was refused, it is where it went on to, with R0 after its last stop, or 0 if there was none. If it is not out in this engine,
-- which is reported exactly then, or is spent, nothing changes.
abbrev pub IsDriven : CallResult → Option RunState → HeldRun → EngineState → EngineState → ℕ → Bool → Type 0
IsDriven result None held old new r0 ended = (result ≡ results.Spent) × (held ≡ Spent) × (new ≡ old) × (r0 ≡ 0) × (ended ≡ false)
IsDriven Done (Some run) held old new r0 ended = RunsToExit old run r0 new × IsOut old.world run × (held ≡ Spent) × (ended ≡ true)
IsDriven OutOfMemory (Some run) held old new r0 ended = ((back : RunState) × (held ≡ Out back) × WentOn old run new back r0) × IsOut old.world run × (ended ≡ false)
IsDriven NotOut (Some run) held old new r0 ended = (held ≡ Out run) × (new ≡ old) × (IsOut old.world run → ⊥) × (r0 ≡ 0) × (ended ≡ false)
IsDriven result (Some run) held old new r0 ended = ⊥
