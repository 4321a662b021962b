-- The setup of an engine that follows another one: its configuration, and what it took over; and such an engine before its first event.
use Rattle.std.specs.Prelude.{[], Option, Some}
use Rattle.world.specs.World.{Setup, World}
use Rattle.engine_core.specs.EngineState.{EngineState}

abbrev pub setup_over : Setup → Option World → Setup
setup_over config world = record config { carried = world }

abbrev pub begun_with : Setup → World → EngineState
begun_with config world = record { setup = setup_over config (Some world); history = []; taken = 0; world = world }
