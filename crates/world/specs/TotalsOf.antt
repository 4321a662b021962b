-- The sums over a history: the number of its records, and in the world after them the freezes, the active CCBs and
-- the live runs.
use Rattle.std.specs.Prelude.{◌≡◌, List, length, count_by}
use Rattle.world_calls.specs.declared.record.Record.{Record}
use Rattle.world_calls.specs.declared.totals.Totals.{Totals}
use Rattle.world.specs.World.{Setup, World}
use Rattle.world.specs.Lookups.{is_active}
use Rattle.world.specs.WorldRun.{WorldRun}
use Rattle.world.specs.Flat.{flat}

abbrev pub totals_in : List Record → World → Totals
totals_in records world = record {
  history = length records;
  frozen = length world.transport.freezes;
  active = count_by (λ live. is_active live.state) world.transport.live;
  runs = length world.runs.list;
}

abbrev pub TotalsOf : Setup → List Record → Totals → Type 0
TotalsOf setup records totals = (world : World) × WorldRun setup (flat records) world × (totals ≡ totals_in records world)
