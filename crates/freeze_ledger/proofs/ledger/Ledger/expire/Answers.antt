use Rattle.std.proofs.Common.{◌≡◌, ℕ, ◌∙◌, Some, ap, sym, subst}
use Rattle.std.specs.declared.cmp.Reverse.{Reverse}
use Rattle.freeze_ledger.specs.declared.deadline.Deadline.{Deadline}
use Rattle.freeze_ledger.specs.declared.freeze.Freeze.{Freeze}
use Rattle.freeze_ledger.specs.declared.freeze.Holder.TheVariants.{Timer}
use Rattle.freeze_ledger.specs.Freezes.{without, HasTimer}
use Rattle.freeze_ledger.specs.State.{LedgerState, with_freezes}
use Rattle.freeze_ledger.specs.Index.{turned}
use Rattle.freeze_ledger.specs.Deadlines.{IsOf}
use Rattle.freeze_ledger.proofs.Index.{timer_there}
use Rattle.freeze_ledger.proofs.ledger.Ledger.expire.Goals as goal

pub unreachable-requires : goal.unreachable-requires
unreachable-requires c =
    let timer : HasTimer c.args.number _ = subst (λ (s : LedgerState). HasTimer c.args.number s.freezes) (sym c.self.view_is) c.requires in
    let there = timer_there c.self.inside.entries.slots c.self.inside.entries.greatest c.self.inside.deadlines c.args.number c.self.invariant.0 timer in
    let other = c.in_default.ensures.none there.1.0 there.0 there.1.1 in
    other (ap (λ (x : Reverse Deadline). x.0.number) there.1.2 ∙ there.2)

pub returns : goal.returns
returns c =
    let slots = c.self.inside.entries.slots in
    let deadline : Deadline = c.in-Some.deadline in
    let there = c.in-Some.ensures.there in
    let of : IsOf slots (turned deadline) = subst (IsOf slots) there.2 (c.self.invariant.0.true_ones there.0 (turned deadline) there.1) in
    let is_there : Freeze = record { number = deadline.number; place = of.0; holder = Timer deadline.due } in
    let both : Some is_there ≡ Some c.at-freeze.result = sym of.1 ∙ c.at-freeze.ensures in
    let same : is_there ≡ c.at-freeze.result = cc both in
    let number : c.at-freeze.result.number ≡ c.args.number = sym (ap (λ (x : Freeze). x.number) same) ∙ c.in-Some.ensures.number in
    c.take_out.ensures.taken
    ∙ (ap (λ (s : LedgerState). with_freezes s (without c.at-freeze.result.number s.freezes)) c.self.view_is
    ∙ ap (λ (n : ℕ). with_freezes c.args.self.now (without n c.args.self.now.freezes)) number)
