-- Which devices a configuration has no queue for.
use Rattle.std.specs.Prelude.{◌≡◌, ℕ, ◌+◌, ◌==◌, ◌||◌, Bool, nat_le, true, false, List, Option, None, Some, slice_get, take}
use Rattle.std.specs.List.{list_any}
use Rattle.base.specs.declared.or_memory.OrMemory.{OrMemory}
use Rattle.base.specs.declared.or_memory.OrMemory.TheVariants.{Fault, OutOfMemory}
use Rattle.trial_disks.specs.declared.data.Device.{Device}

-- a queue is named that is not among so many
abbrev pub is_beyond : ℕ → Option ℕ → Bool
is_beyond queues (Some queue) = nat_le queues queue
is_beyond queues None = false

-- the device has that queue, or each that no other one has, if none is named
abbrev pub are_same : Option ℕ → Option ℕ → Bool
are_same (Some own) (Some queue) = own == queue
are_same None None = true
are_same own queue = false

abbrev pub has_queue : Option ℕ → Device → Bool
has_queue queue device = are_same device.queue queue

-- the queue is not there, or a device before has it
abbrev pub is_misplaced : List Device → ℕ → Option ℕ → Bool
is_misplaced before queues queue = is_beyond queues queue || list_any (has_queue queue) before

-- the number, from 1, of such a device
pub record IsMisplaced (devices : List Device) (queues number : ℕ) : Type 0 where
  pub place : ℕ
  pub device : Device
  pub number_is : number ≡ place + 1
  pub there : slice_get devices place ≡ Some device
  pub misplaced : is_misplaced (take place devices) queues device.queue ≡ true

-- why there was no trial
abbrev pub IsUntried : List Device → ℕ → OrMemory ℕ → Type 0
IsUntried devices queues (Fault number) = IsMisplaced devices queues number
IsUntried devices queues OutOfMemory = Unit {0}
