use Rattle.std.proofs.Common.{subst}
use Rattle.freeze_ledger.specs.Entries.{EntriesState, AreListed}
use Rattle.freeze_ledger.proofs.Slots.{entry_there}
use Rattle.freeze_ledger.proofs.entries.Entries.are_listed.Goals as goal

pub returns : goal.returns
returns c =
    let kept = c.self.invariant in
    subst (λ (e : EntriesState). AreListed e) c.self.view_is (entry_there c.self.inside.slots.slots c.self.inside.greatest kept.apart kept.given)
