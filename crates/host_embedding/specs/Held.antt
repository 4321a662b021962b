-- Runs that a host holds.
use Rattle.std.specs.Prelude.{◌≡◌, Option, None, Some}
use Rattle.interpreter.specs.Segments.{IsWithinBudget}
use Rattle.engine_core.specs.RunState.{RunState, StoppedState, IsStopped, before_stop}
use Rattle.host_embedding.specs.declared.call_result.CallResult.{CallResult}
use Rattle.host_embedding.specs.declared.call_result.CallResult.TheVariants as results
use Rattle.host_embedding.specs.declared.run_handle.HeldRun.{HeldRun}
use Rattle.host_embedding.specs.declared.run_handle.HeldRun.TheVariants.{Out, Stopped, Spent}
use Rattle.host_embedding.specs.declared.run_handle.RunHandle.{RunHandle}

-- the numbers are those that they were
abbrev pub is_same_run : RunHandle → RunHandle → Type 0
is_same_run old new = (new.number ≡ old.number) × (new.freeze ≡ old.freeze)

-- This run comes to that stop: by private instructions alone, no more than its program's budget allows.
pub record ComesTo (run : RunState) (stopped : StoppedState) : Type 0 where
  pub run_is : before_stop stopped ≡ run
  pub at_stop : IsStopped stopped
  pub budget : IsWithinBudget stopped.segment

-- a stretch with this result: a run that is out comes to its next stop, one that is there stays, and one that is spent is told so
abbrev pub IsStretched : CallResult → HeldRun → HeldRun → Type 0
IsStretched result (Out run) new = (result ≡ results.Done) × ((stopped : StoppedState) × (new ≡ Stopped stopped) × ComesTo run stopped)
IsStretched result (Stopped stopped) new = (result ≡ results.Done) × (new ≡ Stopped stopped)
IsStretched result Spent new = (result ≡ results.Spent) × (new ≡ Spent)

-- the run that is out: of one at its stop, where its stretch began
abbrev pub out_of : HeldRun → Option RunState
out_of (Out run) = Some run
out_of (Stopped stopped) = Some (before_stop stopped)
out_of Spent = None
