-- What contracts see of a transport, and what it keeps: numbers rise, each CCB is of a queue that there is, each queue
-- knows its CCBs, and each queue can be frozen.
use Rattle.std.specs.Prelude.{◌≡◌, ℕ, ◌<◌, ◌≤◌, List, length, map, All}
use Rattle.ccb.specs.Rising.{AreRising}
use Rattle.dev_queue.specs.State.{QueueState}
use Rattle.freeze_ledger.specs.State.{LedgerState}
use Rattle.ccb.specs.Places.{places_of}
use Rattle.world.specs.Capacities.{most_controllers, most_queues}
use Rattle.world.specs.World.{Transport}
use Rattle.engine_transport.specs.Listed.{ListState}
use Rattle.engine_transport.specs.Queues.{AreTold}

-- what contracts see
abbrev pub seen : ListState → List QueueState → LedgerState → ℕ → Transport
seen list queues ledger clock = record {
  live = list.live;
  openings = map (λ queue. queue.openings) queues;
  freezes = ledger.freezes;
  greatest_ccb = list.greatest;
  greatest_freeze = ledger.greatest;
  clock = clock;
}

-- of the CCBs and their queues
pub record KeepsTable (list : ListState) (queues : List QueueState) : Type 0 where
  pub rising : AreRising 0 (map (λ live. live.ccb.number.0) list.live) list.greatest
  pub known : All (λ live. live.ccb.queue.0 < length queues) list.live
  pub told : AreTold queues list.live
  pub few : length queues ≤ most_queues

-- with the ledger, which is for these queues and for as many controllers as there may be
pub record KeepsTransport (list : ListState) (queues : List QueueState) (ledger : LedgerState) : Type 0 where
  pub table : KeepsTable list queues
  pub places : ledger.places ≡ places_of (length queues) most_controllers
