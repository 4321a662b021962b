-- A run that goes on from stop to stop in one call.
use Rattle.std.specs.Prelude.{◌≡◌, ℕ, ◌+◌, ◌≤◌}
use Rattle.bpf_semantics.specs.Reached.{Reached}
use Rattle.world.specs.World.{queue_setup}
use Rattle.interpreter.specs.Segments.{SegmentState, IsSegment}
use Rattle.world_calls.specs.declared.record.Record.TheVariants.{Advance}
use Rattle.engine_core.specs.declared.answers.AdvanceAnswer.{AdvanceAnswer}
use Rattle.engine_core.specs.declared.answers.AdvanceAnswer.TheVariants.{Goes, Ended}
use Rattle.engine_core.specs.declared.answers.AdvanceFault.{AdvanceFault}
use Rattle.engine_core.specs.declared.answers.AdvanceFault.TheVariants.{NotOut, OutOfMemory}
use Rattle.engine_core.specs.declared.run_events.Progress.{Progress}
use Rattle.engine_core.specs.Answers.{GoesOrEnds, r0_of, stopped_at}
use Rattle.engine_core.specs.EngineState.{EngineState, Records}
use Rattle.engine_core.specs.RunState.{RunState}
use Rattle.engine_core.specs.Stepping.{GoesOnAt, IsRunAt, NextStretch}

-- This segment is what the run executes from its machine up to its next stop.
pub record IsStretchOf (run : RunState) (segment : SegmentState) : Type 0 where
  pub segment_is : IsSegment segment
  pub program_is : segment.program.program ≡ run.program.program
  pub from_is : segment.from ≡ run.machine

-- The run executed this segment, and the engine took it over at its stop: one record more, and the run goes on or has ended.
pub record TakesOver (old : EngineState) (run : RunState) (segment : SegmentState) (answer : AdvanceAnswer) (new : EngineState) : Type 0 where
  pub stretch : IsStretchOf run segment
  pub recorded : Records old new (Advance run.number segment.steps (stopped_at segment.stop) (r0_of answer))
  pub goes : GoesOrEnds old.setup old.world new.world run segment answer

-- Any number of segments were taken over, after each of which the run went on: so it goes on as that run in that engine, with R0 after
-- the last of them, or 0 if there was none.
pub data WentOn (old : EngineState) (run : RunState) : EngineState → RunState → ℕ → Type 0 where
  begins : WentOn old run old run 0
  goes_on : (between after : EngineState) (at again : RunState) (before r0 : ℕ) (segment : SegmentState) →
      WentOn old run between at before → TakesOver between at segment (Goes again r0) after → WentOn old run after again r0

-- It went on so, and a last segment was taken over, at whose stop it exited with this R0.
pub record RunsToExit (old : EngineState) (run : RunState) (r0 : ℕ) (new : EngineState) : Type 0 where
  pub between : EngineState
  pub at : RunState
  pub before : ℕ
  pub went : WentOn old run between at before
  pub segment : SegmentState
  pub last : TakesOver between at segment (Ended r0) new

-- After C4 the run and the engine are as they were. If memory was refused, the run is where it went on to.
abbrev pub ComesBack : EngineState → RunState → AdvanceFault → RunState → ℕ → EngineState → Type 0
ComesBack old run NotOut back r0 new = (back ≡ run) × (r0 ≡ 0) × (new ≡ old)
ComesBack old run OutOfMemory back r0 new = WentOn old run new back r0

-- ---- inside

-- the run at this place executed its next segment, which is one record of the engine
pub record Steps (old : EngineState) (place : ℕ) (new : EngineState) (progress : Progress) : Type 0 where
  pub next : NextStretch old.setup old.world.runs.list place
  pub answer : AdvanceAnswer
  pub steps_is : progress.instructions ≡ next.run.segment.steps
  pub r0_is : progress.r0 ≡ r0_of answer
  pub recorded : Records old new (Advance next.run.number next.run.segment.steps (stopped_at next.run.segment.stop) (r0_of answer))
  pub goes_on : GoesOnAt progress.goes_on answer next.run next.out.it new.world.runs.list place

-- The run went on to where it stands, and at most so many instructions of its budget are left.
pub record IsDriven (old : EngineState) (run : RunState) (now : EngineState) (place left r0 : ℕ) : Type 0 where
  pub at : RunState
  pub went : WentOn old run now at r0
  pub here : IsRunAt now.world.runs.list at place
  pub program : at.program ≡ run.program
  pub number : at.number ≡ run.number
  pub count : ℕ
  pub reached : Reached at.program.program count at.machine
  pub budget : (queue_setup now.setup here.out.it.queue).budget ≤ count + left
