-- The law of one controller: what may happen in a transport whose queues alone freeze may happen, with the same replies, where
-- one controller is over all of them.
use Rattle.std.specs.Prelude.{◌≡◌, Bool, true, false, not, List, map}
use Rattle.std.specs.List.{list_all}
use Rattle.ccb.specs.declared.place.Place.TheVariants.{Controller, Device}
use Rattle.helpers.specs.declared.limits.HelperSet.TheVariants.{Controllers, Queues}
use Rattle.world_calls.specs.declared.call.Call.{Call}
use Rattle.world_calls.specs.declared.call.Call.TheVariants.{GuestFreeze}
use Rattle.world.specs.World.{QueueSetup, Setup, World}
use Rattle.world.specs.Lawful.{IsLawful}
use Rattle.world.specs.Event.{Event, called, executes, Reply}
use Rattle.world.specs.WorldRun.{WorldRun}

-- a queue of the first kind, as it is under the one controller: whatever the budget is said to be
abbrev pub unbudgeted : QueueSetup → QueueSetup
unbudgeted queue = record queue { budget = 0 }

-- the same queues, with their openings and instructions, the same tables and the same world that is taken over, if any; and one
-- controller over all
pub record IsUnderOne (setup other : Setup) : Type 0 where
  pub queues_alone : setup.limits.helpers ≡ Queues
  pub controllers_too : other.limits.helpers ≡ Controllers
  pub one : other.controllers ≡ 1
  pub named : other.limits.queues ≡ setup.limits.queues
  pub lengths : other.limits.table_lengths ≡ setup.limits.table_lengths
  pub tables : other.tables ≡ setup.tables
  pub queues : map unbudgeted other.queues ≡ map unbudgeted setup.queues
  pub carried : other.carried ≡ setup.carried

-- the call is about a controller
abbrev pub is_of_controllers : Call → Bool
is_of_controllers (GuestFreeze (Device queue) guest) = false
is_of_controllers (GuestFreeze (Controller controller) guest) = true
is_of_controllers call = false

abbrev pub is_controller_event : Event → Bool
is_controller_event (called call) = is_of_controllers call
is_controller_event (executes run instruction) = false

-- each run of events of the one, of which none is about a controller, is one of the other, to the same world
abbrev pub OneController : Type 0
OneController =
    (setup other : Setup) → IsLawful setup → IsUnderOne setup other →
    (xs : List (Event × Reply)) (world : World) → list_all (λ x. not (is_controller_event x.0)) xs ≡ true → WorldRun setup xs world → WorldRun other xs world
