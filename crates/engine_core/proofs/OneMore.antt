-- Where the calls lead, from what the tables tell of their steps.
use Rattle.std.proofs.Common.{◌≡◌, List, length, Some, refl}
use Rattle.engine_runs.specs.RunsState.{RunsState}
use Rattle.world_calls.specs.declared.call.Call.{Call}
use Rattle.world_calls.specs.declared.call_answer.CallAnswer.{CallAnswer}
use Rattle.world_calls.specs.declared.record.Record.{Record}
use Rattle.world_calls.specs.declared.record.Record.TheVariants.{Called}
use Rattle.world.specs.World.{Runs, Transport, Setup, World, queue_count}
use Rattle.world.specs.Event.{replies}
use Rattle.world.specs.Step.{step_call}
use Rattle.world.specs.Flat.{events_of}
use Rattle.engine_core.specs.EngineState.{world_of}
use Rattle.engine_core.specs.Invariant.{KeepsEngine}
use Rattle.engine_core.specs.TakingOver.{LeadsTo}
use Rattle.engine_core.proofs.Recording.{opening_count}

-- a call leads where its step does
pub once : (setup : Setup) (before world : World) (call : Call) (answer : CallAnswer) (transport : Transport) (runs : Runs) → step_call setup before call ≡ Some (replies answer, world) → world ≡ record world { transport = transport; runs = runs } → LeadsTo setup before (events_of (Called answer call)) transport runs
once setup before world call answer transport runs step is = record { world = world; leads = (world, step, refl); is = is }

-- one that is about the transport alone
pub by_transport : (setup : Setup) (history : List Record) (transport more : Transport) (runs : RunsState) (call : Call) (answer : CallAnswer) → ((world : World) → queue_count setup ≡ length transport.openings → step_call setup (record world { transport = transport }) call ≡ Some (replies answer, record world { transport = more })) → KeepsEngine setup history transport runs → LeadsTo setup (world_of setup history transport runs.runs) (events_of (Called answer call)) more runs.runs
by_transport setup history transport more runs call answer step kept =
    let before : World = world_of setup history transport runs.runs in
    once setup before (record before { transport = more }) call answer more runs.runs (step before (opening_count setup history transport runs kept)) refl
