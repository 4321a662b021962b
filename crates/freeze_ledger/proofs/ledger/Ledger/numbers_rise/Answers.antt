use Rattle.std.proofs.Common.{map, subst}
use Rattle.ccb.specs.Rising.{AreRising}
use Rattle.freeze_ledger.specs.declared.freeze.Freeze.{Freeze}
use Rattle.freeze_ledger.specs.State.{LedgerState}
use Rattle.freeze_ledger.proofs.Slots.{list_rises}
use Rattle.freeze_ledger.proofs.ledger.Ledger.numbers_rise.Goals as goal

pub returns : goal.returns
returns c =
    let e = c.self.inside.entries in
    subst (λ (s : LedgerState). AreRising 0 (map (λ (freeze : Freeze). freeze.number) s.freezes) s.greatest) c.self.view_is (list_rises e.slots e.greatest)
