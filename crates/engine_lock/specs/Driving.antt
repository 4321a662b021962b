-- A run that a caller drives to its exit in one section under the lock: what its advances would say, one by one, and that they were
-- made all at once.
use Rattle.std.specs.Prelude.{◌≡◌, ℕ, Bool, true, false, List, [], ◌∷◌, ◌++◌, Result, Ok, Err, MatchResult, IfOk, IfErr}
use Rattle.world_calls.specs.declared.record.Record.{Record}
use Rattle.world.specs.World.{Setup}
use Rattle.engine_core.specs.Driving.{ComesBack, RunsToExit}
use Rattle.engine_core.specs.EngineState.{EngineState, IsRun}
use Rattle.engine_core.specs.Faults.{AdmitsUnlessTold}
use Rattle.engine_core.specs.RunState.{IsOut, RunState, StoppedState, before_stop}
use Rattle.engine_core.specs.declared.answers.AdvanceFault.{AdvanceFault}
use Rattle.engine_core.specs.declared.answers.AdvanceFault.TheVariants as faults
use Rattle.engine_core.specs.declared.driving.DriveFault.{DriveFault}
use Rattle.engine_core.specs.declared.event.Event.TheVariants.{Advance}
use Rattle.engine_core.specs.declared.reply.Returned.TheVariants as back
use Rattle.engine_core.specs.declared.reply.Reply.{Reply}
use Rattle.engine_core.specs.declared.reply.Reply.TheVariants.{Success, NotAdmitted, OutOfMemory}
use Rattle.engine_core.specs.declared.reply.Success.TheVariants.{Goes, Ended}
use Rattle.monitor.specs.declared.knowledge.Pair.{Pair}
use Rattle.monitor.specs.LegalHistory.{all_by, records}
use Rattle.monitor.specs.Telling.{CallerState, Joins, Looks}
use Rattle.engine_lock.specs.Sharing.{LockedState, Section}

-- The run went on by calls of this caller, each of which advanced it from where the one before gave it back; with R0 after the last of
-- them, 0 if there was none.
pub data GoesOn (setup : Setup) (run : RunState) (before : CallerState) : RunState → ℕ → CallerState → Type 0 where
  stands : GoesOn setup run before run 0 before
  comes_on : (at again : RunState) (r0_there r0 : ℕ) (stopped : StoppedState) (between after : CallerState) →
      GoesOn setup run before at r0_there between → before_stop stopped ≡ at →
      Section setup (Advance stopped) (Success (Goes again r0)) between after → GoesOn setup run before again r0 after

-- It went on so, and its next advance was that of its exit, with this R0.
pub record ComesToExit (setup : Setup) (run : RunState) (r0 : ℕ) (before after : CallerState) : Type 0 where
  pub at : RunState
  pub r0_there : ℕ
  pub between : CallerState
  pub goes : GoesOn setup run before at r0_there between
  pub stopped : StoppedState
  pub its : before_stop stopped ≡ at
  pub exit : Section setup (Advance stopped) (Success (Ended r0)) between after

-- the reply to an advance that is not carried out, with which the run comes back
abbrev pub not_advanced : AdvanceFault → RunState → Reply
not_advanced faults.NotOut run = NotAdmitted (back.Run run)
not_advanced faults.OutOfMemory run = OutOfMemory (back.Run run)

-- C4 is told of the run as it was handed in
abbrev pub IsFirst : AdvanceFault → RunState → RunState → Type 0
IsFirst faults.NotOut run back = back ≡ run
IsFirst faults.OutOfMemory run back = Unit {0}

-- It went on so, and its next advance was not carried out: there it comes back.
pub record IsBack (setup : Setup) (run : RunState) (fault : DriveFault) (before after : CallerState) : Type 0 where
  pub between : CallerState
  pub goes : GoesOn setup run before fault.run fault.r0 between
  pub first : IsFirst fault.why run fault.run
  pub stopped : StoppedState
  pub its : before_stop stopped ≡ fault.run
  pub last : Section setup (Advance stopped) (not_advanced fault.why fault.run) between after

abbrev pub Drives : Setup → RunState → Result ℕ DriveFault → CallerState → CallerState → Type 0
Drives setup run result before after = MatchResult result (λ r0. ComesToExit setup run r0 before after) (λ fault. IsBack setup run fault before after)

-- ---- all of it at once

-- the engine drives a run so: what its own call says
pub record EngineDrives (old : EngineState) (run : RunState) (result : Result ℕ DriveFault) (new : EngineState) : Type 0 where
  pub ended : IfOk result (λ r0. RunsToExit old run r0 new)
  pub admitted : MatchResult result (λ r0. IsOut old.world run) (λ fault. AdmitsUnlessTold fault.why (IsOut old.world run))
  pub back : IfErr result (λ fault. ComesBack old run fault.why fault.run fault.r0 new)

-- What a drive by which nothing was recorded tells its caller, where this history stood. After C4 it has seen that history. Where memory
-- was refused it is as it was.
abbrev pub TellsNone : Setup → List Pair → AdvanceFault → CallerState → CallerState → Type 0
TellsNone setup history faults.NotOut before after = Looks setup history before after
TellsNone setup history faults.OutOfMemory before after = after ≡ before

-- What a drive after which the run comes back tells its caller, by the records that it made. If there are some they joined the history, all
-- at once.
abbrev pub TellsBack : Setup → List Pair → AdvanceFault → List Record → CallerState → CallerState → Type 0
TellsBack setup history why [] before after = TellsNone setup history why before after
TellsBack setup history why (r ∷ rs) before after = Joins setup history before (r ∷ rs) after

-- What a drive tells its caller, by the records that it made, where this history stood. After the run's exit these joined it, all at once.
abbrev pub TellsDriven : Setup → List Pair → Result ℕ DriveFault → List Record → CallerState → CallerState → Type 0
TellsDriven setup history result made before after = MatchResult result (λ r0. Joins setup history before made after) (λ fault. TellsBack setup history fault.why made before after)

-- One drive under the lock, by what stood there and what stands there then: the engine drove the run, and what it recorded joined the
-- history at its end, all of it as this caller's, and nothing else joined it.
pub record DrivesOn (setup : Setup) (run : RunState) (result : Result ℕ DriveFault) (old new : LockedState) (before after : CallerState) : Type 0 where
  pub is_run : IsRun old.engine
  pub setup_is : old.engine.setup ≡ setup
  pub its : records old.history ≡ old.engine.history
  pub engine : EngineDrives old.engine run result new.engine
  pub made : List Record
  pub recorded : new.engine.history ≡ old.engine.history ++ made
  pub history : new.history ≡ old.history ++ all_by before.number made
  pub mine : after.mine ≡ before.mine ++ made
  pub tells : TellsDriven setup old.history result made before after

-- One drive of a shared engine, one section under its lock: what was found there, and what was left there.
pub record DrivesOnce (setup : Setup) (run : RunState) (result : Result ℕ DriveFault) (before after : CallerState) : Type 0 where
  pub found : LockedState
  pub left : LockedState
  pub all : DrivesOn setup run result found left before after

-- ---- inside

-- C4 was told
abbrev pub tells_not_out : AdvanceFault → Bool
tells_not_out faults.NotOut = true
tells_not_out faults.OutOfMemory = false

abbrev pub is_not_out : Result ℕ DriveFault → Bool
is_not_out (Ok r0) = false
is_not_out (Err fault) = tells_not_out fault.why
