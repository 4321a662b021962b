-- What a part of no shared engine bears, in place of its setup, its cell and a record.
use Rattle.std.specs.Prelude.{[], None}
use Rattle.helpers.specs.Table.{of_queues}
use Rattle.atomic_table.specs.Seated.{TableId}
use Rattle.world_calls.specs.declared.call.Call.TheVariants.{Clock}
use Rattle.world_calls.specs.declared.call_answer.CallAnswer.TheVariants.{Removed}
use Rattle.world_calls.specs.declared.record.Record.{Record}
use Rattle.world_calls.specs.declared.record.Record.TheVariants.{Called}
use Rattle.world.specs.World.{Setup}

abbrev pub no_setup : Setup
no_setup = record { limits = of_queues 0 []; controllers = 0; tables = []; queues = []; carried = None }

abbrev pub no_table : TableId
no_table = record { words = 0; slots = 0; views_name = 0; atom = 0; block = 0; offset = 0; slot_names = [] }

abbrev pub a_record : Record
a_record = Called (Removed 0) (Clock 0)
