-- What becomes of the freezes: a new one and one fewer, what guests do with theirs, and those that timers let go.
use Rattle.std.specs.Prelude.{ℕ, ◌+◌, Bool, true, false, if◌then◌else◌, List, [], ◌∷◌, ◌++◌, length, Option, Some, None}
use Rattle.freeze_ledger.specs.declared.freeze.Holder.{Holder}
use Rattle.freeze_ledger.specs.declared.freeze.Holder.TheVariants.{Run, Timer, Guest}
use Rattle.freeze_ledger.specs.declared.freeze.Freeze.{Freeze}
use Rattle.ccb.specs.declared.place.Place.{Place}
use Rattle.freeze_ledger.specs.Freezes.{frozen, without, handed_over, due_at, not_due_at}
use Rattle.world_calls.specs.declared.call_answer.CallAnswer.TheVariants as answers
use Rattle.world.specs.World.{World}
use Rattle.world.specs.Event.{Reply, replies}

abbrev pub is_guest : Holder → Bool
is_guest (Run run) = false
is_guest (Timer due) = false
is_guest (Guest guest) = true

abbrev pub is_timer : Holder → Bool
is_timer (Run run) = false
is_timer (Timer due) = true
is_timer (Guest guest) = false

-- how many freezes there are of what this one freezes
abbrev pub frozen_with : Freeze → List Freeze → ℕ
frozen_with freeze freezes = frozen freeze.place freezes

-- with a new freeze of the place, under the number after the greatest given
abbrev pub froze : World → Place → Holder → World
froze world place holder =
    let number = world.transport.greatest_freeze + 1 in
    record world {
      transport = record world.transport {
        freezes = world.transport.freezes ++ record { number = number; place = place; holder = holder } ∷ [];
        greatest_freeze = number;
      };
    }

-- without the freeze of this number
abbrev pub thawed : World → ℕ → World
thawed world number = record world { transport = record world.transport { freezes = without number world.transport.freezes } }

-- with a timer that is due then as the holder of the freeze of this number
abbrev pub timed : World → ℕ → ℕ → World
timed world number due = record world {
  transport = record world.transport { freezes = handed_over number due world.transport.freezes };
}

-- a guest holds a new freeze of the place
abbrev pub guest_freezes : World → Place → ℕ → Reply × World
guest_freezes world place guest = (replies (answers.Freeze (world.transport.greatest_freeze + 1)), froze world place (Guest guest))

-- no event unless a guest holds a freeze of that number; it goes
abbrev pub guest_releases : World → Option Freeze → Option (Reply × World)
guest_releases world None = None
guest_releases world (Some freeze) =
    let after = thawed world freeze.number in
    if is_guest freeze.holder then Some (replies (answers.Left (frozen_with freeze after.transport.freezes)), after) else None

-- the clock reads this, and the freezes whose timers are due are gone
abbrev pub clock_at : World → ℕ → World
clock_at world reading = record world {
  transport = record world.transport { freezes = not_due_at reading world.transport.freezes; clock = reading };
}

-- the reply is how many these are
abbrev pub reads_clock : World → ℕ → Reply × World
reads_clock world reading = (replies (answers.Removed (length (due_at reading world.transport.freezes))), clock_at world reading)
