-- The law of advice: a CCB has one class for as long as it is live, and what its policy advises is told by its next start, and by no later
-- one.
use Rattle.std.specs.Prelude.{◌≡◌, ℕ, List, Option, Some, None}
use Rattle.helpers.specs.declared.table.Helper.TheVariants.{Advise}
use Rattle.world_calls.specs.declared.call.Call.TheVariants.{Dispatch}
use Rattle.world_calls.specs.declared.call_answer.CallAnswer.TheVariants as answers
use Rattle.world_calls.specs.Answered.{started_answer}
use Rattle.world.specs.World.{LiveCcb, LiveRun, Setup, World, version_of}
use Rattle.world.specs.Lookups.{ccb_of, run_of}
use Rattle.world.specs.Lawful.{IsLawful}
use Rattle.world.specs.Told.{plain}
use Rattle.world.specs.Event.{call, Event, called, executes, Reply, replies}
use Rattle.world.specs.Step.{WorldStep}
use Rattle.world.specs.WorldRun.{WorldRun}

-- the CCB that an event starts, if this is the reply
abbrev pub starts_ccb : Event → Reply → Option ℕ
starts_ccb (called (Dispatch queue)) (replies (answers.Ccb ccb)) = Some ccb.0
starts_ccb (called (Dispatch queue)) (replies (answers.Advised ccb advice)) = Some ccb.0
starts_ccb event reply = None

-- a run of this CCB advises something
pub record Advises (before : World) (event : Event) (ccb : ℕ) : Type 0 where
  pub number : ℕ
  pub run : LiveRun
  pub found : run_of number before.runs.list ≡ Some run
  pub ccb_is : run.ccb ≡ ccb
  pub event_is : event ≡ executes number (call (plain Advise))

-- Of a CCB that is live before and after an event the class stays. A start tells what was advised, and then there is none; and nothing but
-- its start and a run of its own changes that.
pub record KeepsWords (setup : Setup) (before : World) (event : Event) (reply : Reply) (ccb : ℕ) (old new : LiveCcb) : Type 0 where
  pub class : new.ccb.class ≡ old.ccb.class
  pub told : starts_ccb event reply ≡ Some ccb →
      (reply ≡ replies (started_answer (version_of setup) (record { ccb = old.ccb.number; advice = old.ccb.advice }))) × (new.ccb.advice ≡ 0)
  pub stays : (starts_ccb event reply ≡ Some ccb → ⊥) → (Advises before event ccb → ⊥) → new.ccb.advice ≡ old.ccb.advice

-- so it is at every moment of every run of a lawful setup
abbrev pub AdviceIsTold : Type 0
AdviceIsTold =
    (setup : Setup) → IsLawful setup → (xs : List (Event × Reply)) (before : World) → WorldRun setup xs before →
    (event : Event) (reply : Reply) (after : World) → WorldStep setup before event reply after →
    (ccb : ℕ) (old new : LiveCcb) → ccb_of ccb before.transport.live ≡ Some old → ccb_of ccb after.transport.live ≡ Some new →
    KeepsWords setup before event reply ccb old new
