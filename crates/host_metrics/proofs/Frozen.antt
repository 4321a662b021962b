-- What is frozen.
use Rattle.std.proofs.Common.{◌≡◌, ◌∙◌, ◌<◌, ℕ, Bool, true, false, List, [], ◌∷◌, length, refl, rules, ap, sym, subst}
use Rattle.std.specs.Prelude.{◌&&◌, nat_lt}
use Rattle.ccb.specs.Places.{device}
use Rattle.freeze_ledger.specs.Freezes.{frozen}
use Rattle.world.specs.World.{Transport, World}
use Rattle.world.specs.QueueInfo.{queue_info}
use Rattle.world.specs.declared.queue_info.QueueInfo.{QueueInfo}
use Rattle.host_metrics.specs.Notes.{is_queue_frozen}

its_lt : (a b : ℕ) → a < b → nat_lt a b ≡ true
its_lt a b less = search rules

pub queue_frozen : (transport : Transport) (queue : ℕ) (info : QueueInfo) → queue < length transport.openings → ((world : World) → info ≡ queue_info (record world { transport = transport }) queue) → nat_lt 0 info.frozen ≡ is_queue_frozen transport queue
queue_frozen transport queue info there told =
    let world : World = record { transport = transport; runs = record { list = []; greatest = 0; tables = [] }; ended = [] } in
    ap (λ (it : QueueInfo). nat_lt 0 it.frozen) (told world) ∙ ap (λ (b : Bool). b && nat_lt 0 (frozen (device queue) transport.freezes)) (sym (its_lt queue (length transport.openings) there))
