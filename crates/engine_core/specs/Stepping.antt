-- A run that goes on to its next stop where it is recorded.
use Rattle.std.specs.Prelude.{◌≡◌, ℕ, ◌+◌, Bool, true, false, List, Some}
use Rattle.bpf_semantics.specs.Reached.{Reached}
use Rattle.bpf_semantics.specs.MachineState.{MachineState}
use Rattle.bpf_semantics.specs.declared.stop.Stop.{Stop}
use Rattle.bpf_semantics.specs.declared.stop.Stop.TheVariants.{Exit as at_exit}
use Rattle.engine_runs.specs.RunsState.{RunsState}
use Rattle.engine_runs.specs.RunPlaces.{HasRunAt}
use Rattle.interpreter.specs.Segments.{IsWithinBudget}
use Rattle.world_calls.specs.declared.record.Record.{Record}
use Rattle.world_calls.specs.declared.record.Record.TheVariants as records
use Rattle.world.specs.World.{Setup, LiveRun, Transport}
use Rattle.world.specs.Lookups.{run_of}
use Rattle.engine_core.specs.declared.answers.AdvanceAnswer.{AdvanceAnswer}
use Rattle.engine_core.specs.declared.answers.AdvanceAnswer.TheVariants.{Goes, Ended}
use Rattle.engine_core.specs.declared.event.Event.TheVariants.{Advance}
use Rattle.engine_core.specs.declared.reply.Reply.TheVariants.{Success}
use Rattle.engine_core.specs.declared.run_events.Progress.{Progress}
use Rattle.engine_core.specs.Answers.{r0_of, stopped_at}
use Rattle.engine_core.specs.Invariant.{KeepsEngine}
use Rattle.engine_core.specs.Performing.{Performs}
use Rattle.engine_core.specs.Replies.{given_advanced}
use Rattle.engine_core.specs.RunState.{IsAgain, IsStopped, RunState, StoppedState, before_stop}
use Rattle.engine_core.specs.TakingOver.{EndsAt}

-- a run is out at this place
pub record IsOutAt (runs : List LiveRun) (place : ℕ) : Type 0 where
  pub it : LiveRun
  pub there : HasRunAt runs place it
  pub found : run_of it.number runs ≡ Some it
  pub out : it.out ≡ true

-- this run is out at this place, with this program and in this machine
pub record IsRunAt (runs : List LiveRun) (run : RunState) (place : ℕ) : Type 0 where
  pub out : IsOutAt runs place
  pub number : run.number ≡ out.it.number
  pub program : run.program.program ≡ out.it.program
  pub machine : run.machine ≡ out.it.machine

-- the run goes on at this place in this machine, which its program reaches by as many instructions more; or it exited
abbrev pub GoesOnAt : Bool → AdvanceAnswer → StoppedState → LiveRun → List LiveRun → ℕ → Type 0
GoesOnAt true (Goes again r0) run it after place =
    HasRunAt after place (record it { machine = again.machine })
    × (run_of it.number after ≡ Some (record it { machine = again.machine }))
    × ((n : ℕ) → Reached run.segment.program.program n run.segment.from → Reached run.segment.program.program (n + run.segment.steps) again.machine)
GoesOnAt false (Ended r0) run it after place = run.segment.stop ≡ at_exit r0
GoesOnAt other answer run it after place = ⊥

-- what the run at this place executes up to its next stop, as it is recorded and with the program of its queue
pub record NextStretch (setup : Setup) (runs : List LiveRun) (place : ℕ) : Type 0 where
  pub out : IsOutAt runs place
  pub run : StoppedState
  pub again : IsAgain setup out.it (before_stop run)
  pub stopped : IsStopped run
  pub within : IsWithinBudget run.segment

-- it ends in this machine, at this stop, after so many instructions
pub record StopsAt (setup : Setup) (runs : List LiveRun) (place : ℕ) (to : MachineState) (steps : ℕ) (stop : Stop) : Type 0 where
  pub next : NextStretch setup runs place
  pub ends : EndsAt next.run.segment to stop
  pub steps_is : next.run.segment.steps ≡ steps

-- The run at this place came to its next stop, and what it did is taken over, as its advance would be.
pub record IsStep (setup : Setup) (transport : Transport) (runs : RunsState) (place : ℕ) (more : Transport) (after : RunsState) (progress : Progress) (told : Record) : Type 0 where
  pub next : NextStretch setup runs.runs.list place
  pub answer : AdvanceAnswer
  pub steps_is : progress.instructions ≡ next.run.segment.steps
  pub r0_is : progress.r0 ≡ r0_of answer
  pub told_is : told ≡ records.Advance next.run.number next.run.segment.steps (stopped_at next.run.segment.stop) (r0_of answer)
  pub performs : (history : List Record) → KeepsEngine setup history transport runs → Performs setup (Advance next.run) transport runs more after (Success (given_advanced answer)) told
  pub goes_on : GoesOnAt progress.goes_on answer next.run next.out.it after.runs.list place
