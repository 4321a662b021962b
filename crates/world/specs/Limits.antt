-- The limits that every world keeps.
use Rattle.std.specs.Prelude.{◌≡◌, ℕ, ◌<◌, ◌≤◌, ◌^◌, true, false, List, Some, length, map, All}
use Rattle.ccb.specs.Rising.{AreRising}
use Rattle.ccb.specs.declared.place.Place.{Place}
use Rattle.freeze_ledger.specs.Freezes.{frozen}
use Rattle.helpers.specs.declared.table.Helper.TheVariants.{FreezeController}
use Rattle.helpers.specs.Table.{is_there}
use Rattle.world.specs.Capacities.{most_openings, most_ccbs, most_ccbs_of_queue, most_runs, most_freezes, most_freezes_of_place, most_frames, most_held, last_number, last_reading}
use Rattle.world.specs.World.{LiveCcb, LiveRun, Setup, has_classes, queue_count, queue_setup, World}
use Rattle.world.specs.Lookups.{live_count, run_of}
use Rattle.world.specs.Refusals.{is_unknown}

-- the helper calls name no queue that there is not, and no controller: where one may be named, each queue is under one that
-- there is
pub record NamesNoOther (setup : Setup) : Type 0 where
  pub queues : setup.limits.queues ≤ queue_count setup
  pub controllers : is_there setup.limits.helpers FreezeController ≡ true → All (λ queue. queue.controller < setup.controllers) setup.queues

-- Each freeze is of a place that exists, where calls name no other; no place has too many, nor has the ledger, and
-- numbers rise.
pub record FreezeLimits (setup : Setup) (world : World) : Type 0 where
  pub places : NamesNoOther setup → All (λ freeze. is_unknown setup freeze.place ≡ false) world.transport.freezes
  pub a_place : (place : Place) → frozen place world.transport.freezes ≤ most_freezes_of_place
  pub ledger : length world.transport.freezes ≤ most_freezes
  pub numbered : AreRising 0 (map (λ freeze. freeze.number) world.transport.freezes) world.transport.greatest_freeze
  pub numbers : world.transport.greatest_freeze ≤ last_number

-- the CCB has no class and no advice
abbrev pub IsPlain : LiveCcb → Type 0
IsPlain live = (live.ccb.class ≡ 0) × (live.ccb.advice ≡ 0)

-- Each CCB is of a queue that exists, none has a class or an advice where CCBs have none, no queue has too many, nor have all
-- together, and numbers rise.
pub record CcbLimits (setup : Setup) (world : World) : Type 0 where
  pub queues : All (λ live. live.ccb.queue.0 < queue_count setup) world.transport.live
  pub plain : has_classes setup ≡ false → All IsPlain world.transport.live
  pub a_queue : (queue : ℕ) → live_count queue world.transport.live ≤ most_ccbs_of_queue
  pub all : length world.transport.live ≤ most_ccbs
  pub rising : AreRising 0 (map (λ live. live.ccb.number.0) world.transport.live) world.transport.greatest_ccb
  pub numbers : world.transport.greatest_ccb ≤ last_number

-- Each run is of a queue that exists, under its controller and of its program; there are not too many, and numbers rise.
pub record RunLimits (setup : Setup) (world : World) : Type 0 where
  pub queues : All (λ run. run.queue < queue_count setup) world.runs.list
  pub controllers : All (λ run. run.controller ≡ (queue_setup setup run.queue).controller) world.runs.list
  pub programs : All (λ run. run.program ≡ (queue_setup setup run.queue).program) world.runs.list
  pub all : length world.runs.list ≤ most_runs
  pub rising : AreRising 0 (map (λ run. run.number) world.runs.list) world.runs.greatest
  pub numbers : world.runs.greatest ≤ last_number

-- What calls are answered with keeps its limits: each queue has 1 to 255 openings, the tables are as long as the limits of
-- the helper calls say and have words below 2^64, and the clock has not read more than it can.
pub record AnswerLimits (setup : Setup) (world : World) : Type 0 where
  pub queues : length world.transport.openings ≡ queue_count setup
  pub openings : All (λ openings. (1 ≤ openings) × (openings ≤ most_openings)) world.transport.openings
  pub lengths : map (λ table. length table) world.runs.tables ≡ setup.limits.table_lengths
  pub words : All (λ table. All (λ word. word < 2 ^ 64) table) world.runs.tables
  pub clock : world.transport.clock ≤ last_reading

pub record KeepsLimits (setup : Setup) (world : World) : Type 0 where
  pub freezes : FreezeLimits setup world
  pub ccbs : CcbLimits setup world
  pub runs : RunLimits setup world
  pub answers : AnswerLimits setup world
