-- What helper 9 tells of a queue.
use Rattle.std.specs.Prelude.{ℕ, List, [], ◌∷◌, slice_index}
use Rattle.std.specs.List.{flat_map}
use Rattle.byteorder.specs.Endian.{little_bytes}
use Rattle.ccb.specs.Places.{device}
use Rattle.freeze_ledger.specs.Freezes.{frozen}
use Rattle.world.specs.declared.queue_info.QueueInfo.{QueueInfo}
use Rattle.world.specs.World.{World}
use Rattle.world.specs.Lookups.{active_count, waiting_count}

-- how many freezes, active CCBs, waiting CCBs and openings the queue has
abbrev pub queue_info : World → ℕ → QueueInfo
queue_info world queue = record {
  frozen = frozen (device queue) world.transport.freezes;
  active = active_count queue world.transport.live;
  waiting = waiting_count queue world.transport.live;
  openings = slice_index world.transport.openings queue;
}

-- as four words of four bytes, each with the lowest byte first
abbrev pub info_bytes : QueueInfo → List ℕ
info_bytes info = flat_map (little_bytes 4) (info.frozen ∷ info.active ∷ info.waiting ∷ info.openings ∷ [])
