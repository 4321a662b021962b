-- The law of parked runs: what holds in every run of the world.
use Rattle.std.specs.Prelude.{◌≡◌, ℕ, ◌==◌, Bool, false, List, Some, count_by}
use Rattle.world_calls.specs.declared.call.Call.TheVariants.{Park, Resume}
use Rattle.world_calls.specs.declared.call_answer.CallAnswer.TheVariants as answers
use Rattle.world.specs.World.{Setup, LiveRun, World}
use Rattle.world.specs.Lawful.{IsLawful}
use Rattle.world.specs.Lookups.{ccb_of, run_of}
use Rattle.world.specs.Event.{Event, called, Reply, replies}
use Rattle.world.specs.Step.{WorldStep}
use Rattle.world.specs.WorldRun.{Leads, WorldRun}
use Rattle.world.specs.Laws.FreezeLaws.{entries_of}
use Rattle.world.specs.Laws.Headline.{steps_of}

-- the event resumes this run
abbrev pub is_resume_of : ℕ → Event → Bool
is_resume_of run (called (Resume number)) = number == run
is_resume_of run event = false

-- how many resumes of this run there are in a list of events
abbrev pub resumes_of : ℕ → List (Event × Reply) → ℕ
resumes_of run xs = count_by (λ x. is_resume_of run x.0) xs

-- The run was parked in one world, and nobody resumed it up to the other: it is parked, with all that it had, and the
-- entries name it as they did. A CCB that it has not disposed of is as it was. And a resume gives it back as it was.
pub record StaysParked (setup : Setup) (number : ℕ) (run : LiveRun) (before later : World) : Type 0 where
  pub still : run_of number later.runs.list ≡ Some (record run { out = false })
  pub freezes : entries_of number later.transport.freezes ≡ entries_of number before.transport.freezes
  pub ccb : IsLawful setup → run.machine.disposed ≡ false → ccb_of run.ccb later.transport.live ≡ ccb_of run.ccb before.transport.live
  pub resumed : (after : World) × WorldStep setup later (called (Resume number)) (replies answers.Ok) after × (run_of number after.runs.list ≡ Some run)

-- From its park on, up to its resume, a run takes no step and stays as it was.
abbrev pub ParkedStaysAsItIs : Type 0
ParkedStaysAsItIs =
    (setup : Setup) (xs ys : List (Event × Reply)) (number : ℕ) (run : LiveRun) (reply : Reply) (before parked later : World) →
    WorldRun setup xs before → run_of number before.runs.list ≡ Some run → WorldStep setup before (called (Park number)) reply parked →
    Leads setup parked ys later → resumes_of number ys ≡ 0 →
    (steps_of number ys ≡ 0) × StaysParked setup number run before later
