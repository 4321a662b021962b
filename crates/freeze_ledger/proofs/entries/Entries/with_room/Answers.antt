use Rattle.std.proofs.Common.{◌≡◌, ℕ, List, replicate, sym, subst, rules}
use Rattle.freeze_ledger.specs.Invariant.{LedgerIsKept}
use Rattle.freeze_ledger.proofs.Kept.{kept_empty}
use Rattle.freeze_ledger.proofs.entries.Entries.with_room.Goals as goal

pub invariant_of-result : goal.invariant_of-result
invariant_of-result c =
    let zeros : c.in_ok-counts.counts.items ≡ replicate c.args.places 0 = search rules in
    subst (λ (counts : List ℕ). LedgerIsKept c.in_ok-slots.slots counts 0) (sym zeros) (kept_empty c.in_ok-slots.slots c.args.places c.in_ok-slots.ensures.empty c.in_ok-slots.ensures.capacity)
