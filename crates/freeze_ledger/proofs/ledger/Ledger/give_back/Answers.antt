use Rattle.std.proofs.Common.{Contains, subst, refl}
use Rattle.freeze_ledger.specs.declared.freeze.Freeze.{Freeze}
use Rattle.freeze_ledger.specs.State.{LedgerState}
use Rattle.freeze_ledger.proofs.ledger.Ledger.give_back.Goals as goal

pub returns-clause-held : goal.returns-clause-held
returns-clause-held c =
    let there = c.in-Some.ensures.held.0 refl in
    (λ is. subst (λ (f : Freeze). Contains c.args.self.now.freezes f) c.freeze-freeze.ensures (subst (λ (s : LedgerState). Contains s.freezes c.freeze-freeze.result) c.self.view_is there), λ has. refl)
