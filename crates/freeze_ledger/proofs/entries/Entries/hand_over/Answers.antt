use Rattle.std.proofs.Common.{◌≡◌, ◌+◌, ◌∙◌, cond, Some, ap, sym, subst, refl}
use Rattle.slab.specs.Slab.{with_value}
use Rattle.freeze_ledger.specs.declared.freeze.Freeze.{Freeze}
use Rattle.freeze_ledger.specs.declared.freeze.Holder.TheVariants.{Timer}
use Rattle.freeze_ledger.specs.Freezes.{handed_over}
use Rattle.freeze_ledger.specs.Deadlines.{is_timer, timers_in}
use Rattle.freeze_ledger.specs.Entries.{freeze_at, EntriesState, all_of}
use Rattle.freeze_ledger.proofs.Kept.{kept_handed, written, same_len, changes, handed_apart, sum_handed}
use Rattle.freeze_ledger.proofs.Slots.{freezes_handed}
use Rattle.freeze_ledger.proofs.entries.Entries.hand_over.Goals as goal

pub invariant_of-self : goal.invariant_of-self
invariant_of-self c =
    let inside = c.self.inside in
    let f : Freeze = c.args.freeze in
    let later : Freeze = record f { holder = Timer c.args.due } in
    let there : freeze_at inside.slots.slots c.args.key ≡ Some f = subst (λ (e : EntriesState). freeze_at e.slots c.args.key ≡ Some f) (sym c.self.view_is) c.requires in
    kept_handed inside.slots (with_value inside.slots c.args.key later) inside.counts.items inside.greatest c.args.key c.args.due f c.self.invariant (written inside.slots c.args.key f later there) there (same_len inside.slots c.args.key f later there) refl

pub returns-clause-freezes : goal.returns-clause-freezes
returns-clause-freezes c =
    let inside = c.self.inside in
    let kept = c.self.invariant in
    let f : Freeze = c.args.freeze in
    let later : Freeze = record f { holder = Timer c.args.due } in
    let there : freeze_at inside.slots.slots c.args.key ≡ Some f = subst (λ (e : EntriesState). freeze_at e.slots c.args.key ≡ Some f) (sym c.self.view_is) c.requires in
    let change = changes (written inside.slots c.args.key f later there) in
    let apart = handed_apart inside.slots.slots (with_value inside.slots c.args.key later).slots c.args.key c.args.due f kept.apart there change in
    freezes_handed inside.slots.slots (with_value inside.slots c.args.key later).slots c.args.key f c.args.due inside.greatest kept.apart apart there change
    ∙ ap (λ (e : EntriesState). handed_over f.number c.args.due (all_of e)) c.self.view_is

pub returns-clause-timers : goal.returns-clause-timers
returns-clause-timers c =
    let inside = c.self.inside in
    let kept = c.self.invariant in
    let f : Freeze = c.args.freeze in
    let later : Freeze = record f { holder = Timer c.args.due } in
    let there : freeze_at inside.slots.slots c.args.key ≡ Some f = subst (λ (e : EntriesState). freeze_at e.slots c.args.key ≡ Some f) (sym c.self.view_is) c.requires in
    let change = changes (written inside.slots c.args.key f later there) in
    let apart = handed_apart inside.slots.slots (with_value inside.slots c.args.key later).slots c.args.key c.args.due f kept.apart there change in
    let list = freezes_handed inside.slots.slots (with_value inside.slots c.args.key later).slots c.args.key f c.args.due inside.greatest kept.apart apart there change in
    let sum = sum_handed (λ (x : Freeze). cond (is_timer x.holder) 1 0) inside.slots.slots inside.greatest kept.apart kept.given c.args.key c.args.due f there in
    rw list (sum ∙ ap (λ (e : EntriesState). timers_in (all_of e) + 1) c.self.view_is)
