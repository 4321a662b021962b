-- Place by place: that no device before it has a queue that is not there, or is that of a device before it.
use Rattle.std.proofs.Common.{◌≡◌, ◌∙◌, ℕ, ◌+◌, ◌<◌, ◌≤◌, Bool, true, false, List, Option, Some, ap, inl, inr, length, slice_get, subst, sym, take, true≢false, unwrap_or, arith}
use Rattle.std.proofs.lemmas.Bool.{cases_eq}
use Rattle.std.proofs.lemmas.Option.{slice_get_within}
use Rattle.trial_disks.specs.declared.data.Device.{Device}
use Rattle.host_trial.specs.Misplaced.{IsMisplaced, is_misplaced}

-- the device at a place is the one that is read there
device_there : (devices : List Device) (place : ℕ) (one other : Device) → slice_get devices place ≡ Some one → slice_get devices place ≡ Some other → other ≡ one
device_there devices place one other first second = ap (λ (o : Option Device). unwrap_or o one) (sym second ∙ first)

not_here : (devices : List Device) (queues k : ℕ) (device other : Device) → slice_get devices k ≡ Some device → is_misplaced (take k devices) queues device.queue ≡ false
    → slice_get devices k ≡ Some other → is_misplaced (take k devices) queues other.queue ≡ true → ⊥
not_here devices queues k device other at fine there wrong =
    let same = device_there devices k device other at there in
    true≢false (sym wrong ∙ (ap (λ (d : Device). is_misplaced (take k devices) queues d.queue) same ∙ fine))

-- one device more
pub one_more : (devices : List Device) (queues k : ℕ) (device : Device) → slice_get devices k ≡ Some device → is_misplaced (take k devices) queues device.queue ≡ false
    → ((number : ℕ) (it : IsMisplaced devices queues number) → it.place < k → ⊥) → (number : ℕ) (it : IsMisplaced devices queues number) → it.place < k + 1 → ⊥
one_more devices queues k device at fine before number it within = elim (cases_eq it.place k) [
  | inl same ↦
      not_here devices queues k device it.device at fine (subst (λ (place : ℕ). slice_get devices place ≡ Some it.device) same it.there)
      (subst (λ (place : ℕ). is_misplaced (take place devices) queues it.device.queue ≡ true) same it.misplaced)
  | inr apart ↦ before number it (omega (arith, within, apart))
]

-- all of them
pub none_at_all : (devices : List Device) (queues k : ℕ) → length devices ≤ k → ((number : ℕ) (it : IsMisplaced devices queues number) → it.place < k → ⊥)
    → (number : ℕ) → IsMisplaced devices queues number → ⊥
none_at_all devices queues k whole before number it = before number it (omega (arith, whole, slice_get_within devices it.place it.device it.there))
