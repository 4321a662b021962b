-- Queues and controllers of which nothing is left, what a transport without live runs keeps, and the numbers under which its CCBs and
-- freezes go on.
use Rattle.std.specs.Prelude.{◌≡◌, ℕ, ◌+◌, ◌<◌, ◌≤◌, false, [], length, map, All}
use Rattle.ccb.specs.Places.{device}
use Rattle.ccb.specs.Rising.{AreRising}
use Rattle.ccb.specs.declared.place.Place.TheVariants.{Controller}
use Rattle.freeze_ledger.specs.Freezes.{frozen}
use Rattle.world.specs.Capacities.{last_number, most_ccbs, most_freezes}
use Rattle.world.specs.Lookups.{active_count, waiting_count}
use Rattle.world.specs.Refusals.{is_unknown}
use Rattle.world.specs.World.{Runs, Setup, Transport, World, queue_count}
use Rattle.engine_carried.specs.declared.numbering.Numbering.{Numbering}
use Rattle.engine_carried.specs.declared.numbering.Numbering.TheVariants.{Fresh, Same}

-- no freeze and no waiting or active CCB is of the queue
abbrev pub IsFree : Transport → ℕ → Type 0
IsFree transport queue =
    (frozen (device queue) transport.freezes ≡ 0) × (active_count queue transport.live ≡ 0) × (waiting_count queue transport.live ≡ 0)

-- each queue from the one number up to the other
abbrev pub QueuesAreFree : Transport → (from to : ℕ) → Type 0
QueuesAreFree transport from to = (queue : ℕ) → queue < to → from ≤ queue → IsFree transport queue

-- no freeze is of a controller from the one number up to the other
abbrev pub ControllersAreFree : Transport → (from to : ℕ) → Type 0
ControllersAreFree transport from to = (controller : ℕ) → controller < to → from ≤ controller → frozen (Controller controller) transport.freezes ≡ 0

-- It has the setup's queues, each freeze is of a place that there is, freeze numbers rise, and there are not too many of anything.
pub record IsLeft (setup : Setup) (transport : Transport) : Type 0 where
  pub openings : queue_count setup ≡ length transport.openings
  pub places : All (λ freeze. is_unknown setup freeze.place ≡ false) transport.freezes
  pub numbered : AreRising 0 (map (λ freeze. freeze.number) transport.freezes) transport.greatest_freeze
  pub freezes : length transport.freezes ≤ most_freezes
  pub ccbs : length transport.live ≤ most_ccbs

-- No run is live, their numbers are no greater than may be, and the tables are as long as the setup says.
pub record AreRunsLeft (setup : Setup) (runs : Runs) : Type 0 where
  pub none : runs.list ≡ []
  pub numbers : runs.greatest ≤ last_number
  pub tables : map (λ table. length table) runs.tables ≡ setup.limits.table_lengths

-- the world of which these are the parts
abbrev pub world_left : Transport → Runs → World
world_left transport runs = record { transport = transport; runs = runs; ended = [] }

-- the number of a CCB or a freeze that stands at this place in the order of the old numbers
abbrev pub number_under : Numbering → (own place : ℕ) → ℕ
number_under Same own place = own
number_under Fresh own place = place + 1
