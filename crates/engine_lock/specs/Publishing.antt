-- The records of a history beyond those that are known.
use Rattle.std.specs.Prelude.{List, length, drop}
use Rattle.world_calls.specs.declared.record.Record.{Record}
use Rattle.monitor.specs.declared.knowledge.Pair.{Pair}

abbrev pub beyond : List Pair → List Record → List Record
beyond known made = drop (length known) made
