-- That a ledger has the place of each queue, and of each controller.
use Rattle.std.proofs.Common.{ℕ, ◌<◌, arith}
use Rattle.std.proofs.Math.Nat.{le-max_left, le-max_right}
use Rattle.ccb.specs.declared.place.Place.TheVariants.{Controller}
use Rattle.ccb.specs.Places.{device, index_of, places_of}

pub queue_placed : (queues queue : ℕ) → queue < queues → index_of (device queue) < places_of queues 8
queue_placed queues queue below = omega (arith, below, le-max_left queues 8)

pub controller_placed : (queues controller : ℕ) → controller < 8 → index_of (Controller controller) < places_of queues 8
controller_placed queues controller below = omega (arith, below, le-max_right queues 8)
