-- Of which setup the engine of a segment is: that of its configuration, if it took over nothing; else that over the one world which the
-- carried lines say.
use Rattle.std.specs.Prelude.{◌≡◌, ℕ, Option, Some, None, List, length}
use Rattle.world_calls.specs.declared.carried_line.CarriedLine.{CarriedLine}
use Rattle.world.specs.World.{Setup, World}
use Rattle.engine_core.specs.Settings.{setup_over}
use Rattle.engine_succession.specs.FromLines.{IsWorldOf}

abbrev pub IsSetupFor : Setup → Option (List CarriedLine) → Setup → Type 0
IsSetupFor config None setup = setup ≡ config
IsSetupFor config (Some lines) setup = (world : World) × IsWorldOf config lines world × (setup ≡ setup_over config (Some world))

-- how many carried lines there are
abbrev pub carried_count : Option (List CarriedLine) → ℕ
carried_count None = 0
carried_count (Some lines) = length lines
