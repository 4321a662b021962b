-- What the taking of a freeze changes, and what it leaves.
use Rattle.std.proofs.Common.{◌≡◌, ℕ, List, Option, Some, None, ap}
use Rattle.std.specs.Prelude.{IfSome, IfNone}
use Rattle.freeze_ledger.specs.declared.freeze.Freeze.{Freeze}
use Rattle.freeze_ledger.specs.State.{LedgerState, with_entry}
use Rattle.dev_queue.specs.State.{QueueState}
use Rattle.world.specs.World.{LiveCcb}
use Rattle.engine_transport.specs.Listed.{ListState}
use Rattle.engine_transport.specs.Invariant.{seen}
use Rattle.engine_transport.specs.Freezing.{took}
use Rattle.engine_transport.proofs.Listed.{listed_as}

-- the ledger is for as many places
pub places_stay : (before after : LedgerState) (t : Option Freeze) → IfSome t (λ f. after ≡ with_entry before f) → IfNone t (after ≡ before) → after.places ≡ before.places
places_stay before after None some none = ap (λ (l : LedgerState). l.places) none
places_stay before after (Some f) some none = ap (λ (l : LedgerState). l.places) some

-- what is seen then, with other CCBs
pub seen_with : (list : ListState) (queues : List QueueState) (before after : LedgerState) (clock : ℕ) (ccbs : List LiveCcb) (t : Option Freeze) → IfSome t (λ f. after ≡ with_entry before f) → IfNone t (after ≡ before) → seen (listed_as list.greatest ccbs) queues after clock ≡ record (took (seen list queues before clock) t) { live = ccbs }
seen_with list queues before after clock ccbs None some none = ap (λ (l : LedgerState). seen (listed_as list.greatest ccbs) queues l clock) none
seen_with list queues before after clock ccbs (Some f) some none = ap (λ (l : LedgerState). seen (listed_as list.greatest ccbs) queues l clock) some
