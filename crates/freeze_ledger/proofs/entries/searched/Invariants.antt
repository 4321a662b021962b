use Rattle.std.proofs.Common.{◌≡◌, ℕ, Some, Contains}
use Rattle.freeze_ledger.specs.Entries.{freeze_at}
use Rattle.freeze_ledger.proofs.entries.searched.Given as goal

-- where it stands under a key, that key is among the entries that are left, and every entry left with it is the slab's
abbrev pub invariant-loop-key : goal.invariant-loop-key
invariant-loop-key l =
    (goal.iterator-loop-key).can_next l.key-iterator ×
    (goal.iterator-loop-key).is_finite l.key-iterator ×
    ((key : ℕ) → (freeze_at l.slots.slots key ≡ Some l.freeze) → Contains l.key-iterator (key, l.freeze)) ×
    ((key : ℕ) → Contains l.key-iterator (key, l.freeze) → freeze_at l.slots.slots key ≡ Some l.freeze)
