-- What is kept of an engine's guests.
use Rattle.std.specs.Prelude.{◌≡◌, List}
use Rattle.freeze_ledger.specs.declared.freeze.Freeze.{Freeze}
use Rattle.engine_core.specs.EngineState.{EngineState, IsRun}
use Rattle.engine_core.specs.ByNumber.{guests_of}

-- these are the tokens of all freezes that guests hold, one for each, in the order of their numbers
pub record HasGuests (state : EngineState) (tokens : List Freeze) : Type 0 where
  pub run : IsRun state
  pub all : tokens ≡ guests_of state.world.transport.freezes
