-- What is kept of an engine's beginning.
use Rattle.std.specs.Prelude.{◌≡◌, Bool, List, [], is_some, Some}
use Rattle.world_calls.specs.declared.carried_line.CarriedLine.{CarriedLine}
use Rattle.world.specs.World.{World}
use Rattle.engine_beginning.specs.Lines.{lines_of}
use Rattle.engine_core.specs.EngineState.{EngineState}

-- whether the engine follows another one, and until its first record the lines of what it took over
pub record KnowsBeginning (state : EngineState) (is_continued : Bool) (lines : List CarriedLine) : Type 0 where
  pub continued : is_continued ≡ is_some state.setup.carried
  pub lines_are : state.history ≡ [] → (world : World) → state.setup.carried ≡ Some world → lines ≡ lines_of world
