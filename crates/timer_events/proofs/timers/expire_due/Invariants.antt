use Rattle.std.proofs.Common.{◌≡◌, ℕ, length}
use Rattle.freeze_ledger.specs.Freezes.{not_due_at}
use Rattle.freeze_ledger.specs.Invariant.{AreNumbered}
use Rattle.freeze_ledger.specs.State.{LedgerState, with_freezes}
use Rattle.timer_events.proofs.timers.expire_due.Given as goal

-- the freezes are others than before, and those that are not due are the same
pub record IsLeft (reading : ℕ) (before now : LedgerState) : Type 0 where
  pub same : now ≡ with_freezes before now.freezes
  pub numbered : AreNumbered 0 now.freezes now.greatest
  pub others : not_due_at reading now.freezes ≡ not_due_at reading before.freezes

abbrev pub invariant-loop-number : goal.invariant-loop-number
invariant-loop-number l = IsLeft l.reading l.initial.ledger l.ledger

-- how many are left
abbrev pub decreases-loop-number : goal.decreases-loop-number
decreases-loop-number l = length l.ledger.freezes
