-- What can be read of an engine's runs: what is recorded of one, what it asks next, and which is the first that is out.
use Rattle.std.specs.Prelude.{◌≡◌, ℕ, true, find, List, Option, Some, None}
use Rattle.std.specs.Option.{option_map}
use Rattle.helpers.specs.declared.request.Request.{Request}
use Rattle.bpf_semantics.specs.declared.stop.Stop.{Stop}
use Rattle.bpf_semantics.specs.declared.stop.Stop.TheVariants.{Helper, Exit}
use Rattle.interpreter.specs.Segments.{SegmentState, IsSegment}
use Rattle.world.specs.World.{LiveRun}
use Rattle.world.specs.Lookups.{run_of}
use Rattle.engine_core.specs.declared.run_info.RunInfo.{RunInfo}
use Rattle.engine_core.specs.RunState.{IsNext}

-- a live run has that number, and is of this CCB and this queue, under this controller, and out or parked so
pub record IsRunTold (number : ℕ) (runs : List LiveRun) (told : RunInfo) : Type 0 where
  pub it : LiveRun
  pub found : run_of number runs ≡ Some it
  pub ccb : told.ccb.0 ≡ it.ccb
  pub queue : told.queue.0 ≡ it.queue
  pub controller : told.controller ≡ it.controller
  pub out : told.is_out ≡ it.out

-- a run of that number is out
abbrev pub HasRunOut : List LiveRun → ℕ → Type 0
HasRunOut runs number = (it : LiveRun) × (run_of number runs ≡ Some it) × (it.out ≡ true)

-- A run of that number is out, and by its next segment it comes to this stop.
pub record StopsNext (runs : List LiveRun) (number : ℕ) (stop : Stop) : Type 0 where
  pub it : LiveRun
  pub found : run_of number runs ≡ Some it
  pub out : it.out ≡ true
  pub segment : SegmentState
  pub is : IsSegment segment
  pub next : IsNext it segment.program.program segment
  pub stands : segment.stop ≡ stop

-- what is asked at a stop
abbrev pub asked_at : Stop → Option Request
asked_at (Helper request) = Some request
asked_at (Exit r0) = None

-- what the run of that number asks at its next stop; nothing where none of that number is out, or where it comes to its exit
abbrev pub AsksNext : List LiveRun → ℕ → Option Request → Type 0
AsksNext runs number (Some request) = StopsNext runs number (Helper request)
AsksNext runs number None = (it : LiveRun) → run_of number runs ≡ Some it → it.out ≡ true → (r0 : ℕ) × StopsNext runs number (Exit r0)

-- the number of the first run that is out
abbrev pub first_out : List LiveRun → Option ℕ
first_out runs = option_map (λ run. run.number) (find (λ run. run.out) runs)
