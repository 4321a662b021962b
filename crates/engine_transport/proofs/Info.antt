-- What a queue has, as the world counts it and as the queue knows it.
use Rattle.std.proofs.Common.{◌≡◌, ℕ, ◌<◌, List, length, ap, sym, subst, ◌∙◌}
use Rattle.std.proofs.lemmas.List.{length-map}
use Rattle.dev_queue.specs.State.{QueueState}
use Rattle.ccb.specs.Places.{device}
use Rattle.freeze_ledger.specs.Freezes.{frozen}
use Rattle.freeze_ledger.specs.State.{LedgerState}
use Rattle.world.specs.declared.queue_info.QueueInfo.{QueueInfo}
use Rattle.world.specs.World.{World}
use Rattle.world.specs.QueueInfo.{queue_info}
use Rattle.engine_transport.specs.Listed.{ListState}
use Rattle.engine_transport.specs.Queues.{queue_at, waits_on}
use Rattle.engine_transport.specs.Invariant.{KeepsTable, seen}
use Rattle.engine_transport.proofs.Pairs.{pairs_length}
use Rattle.engine_transport.proofs.Kept.{openings_at}

module _ (ledger : LedgerState) (clock : ℕ) where
  pub known_there : (list : ListState) (queues : List QueueState) (queue : ℕ) → queue < length (seen list queues ledger clock).openings → queue < length queues
  known_there list queues queue known = subst (λ (n : ℕ). queue < n) (length-map queues (λ (q : QueueState). q.openings)) known

  pub same_info : (a b : QueueInfo) → a.frozen ≡ b.frozen → a.active ≡ b.active → a.waiting ≡ b.waiting → a.openings ≡ b.openings → a ≡ b
  same_info a b f k w o = λ i. record { frozen = f i; active = k i; waiting = w i; openings = o i }

  pub info_is : (list : ListState) (queues : List QueueState) (queue : ℕ) (world : World) (own : QueueState) (info : QueueInfo) → KeepsTable list queues → queue < length queues → own ≡ queue_at queues queue → info.frozen ≡ frozen (device queue) ledger.freezes → info.active ≡ own.active → info.waiting ≡ length own.waiting → info.openings ≡ own.openings → info ≡ queue_info (record world { transport = (seen list queues ledger clock) }) queue
  info_is list queues queue world own info h known is freezes active waiting openings =
      let told = is ∙ h.told queue known in
      same_info info (queue_info (record world { transport = (seen list queues ledger clock) }) queue) freezes (active ∙ ap (λ (q : QueueState). q.active) told)
      (waiting ∙ (ap (λ (q : QueueState). length q.waiting) told ∙ pairs_length (waits_on queue) list.live))
      (openings ∙ (ap (λ (q : QueueState). q.openings) is ∙ sym (openings_at queues queue)))
