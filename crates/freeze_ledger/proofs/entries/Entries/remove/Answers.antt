use Rattle.std.proofs.Common.{◌≡◌, cond, ◌∙◌, Some, ap, sym, subst, arith}
use Rattle.freeze_ledger.specs.declared.freeze.Freeze.{Freeze}
use Rattle.ccb.specs.Places.{index_of}
use Rattle.freeze_ledger.specs.Freezes.{without}
use Rattle.freeze_ledger.specs.Deadlines.{is_timer, timers_in}
use Rattle.freeze_ledger.specs.Entries.{freeze_at, EntriesState, all_of}
use Rattle.freeze_ledger.proofs.Kept.{kept_removed, counted_above, count_at, changes, removed_apart, sum_without}
use Rattle.freeze_ledger.proofs.Slots.{freezes_removed}
use Rattle.freeze_ledger.proofs.entries.Entries.remove.Goals as goal

pub overflow_sub-count : goal.overflow_sub-count
overflow_sub-count c =
    let f : Freeze = c.args.freeze in
    let there : freeze_at c.self.inside.slots.slots c.args.key ≡ Some f = subst (λ (e : EntriesState). freeze_at e.slots c.args.key ≡ Some f) (sym c.self.view_is) c.requires in
    let known = counted_above c.self.inside.slots c.self.inside.counts.items c.self.inside.greatest c.args.key f c.self.invariant there in
    let count = count_at c.self.inside.counts.items c.index-at.result (index_of f.place) c.index.result.now _ c.index-at.ensures known.0 c.index.ensures in
    omega (arith, known.1, count)

pub invariant_of-self : goal.invariant_of-self
invariant_of-self c =
    let f : Freeze = c.args.freeze in
    let there : freeze_at c.self.inside.slots.slots c.args.key ≡ Some f = subst (λ (e : EntriesState). freeze_at e.slots c.args.key ≡ Some f) (sym c.self.view_is) c.requires in
    let known = counted_above c.self.inside.slots c.self.inside.counts.items c.self.inside.greatest c.args.key f c.self.invariant there in
    let count = count_at c.self.inside.counts.items c.index-at.result (index_of f.place) c.index.result.now _ c.index-at.ensures known.0 c.index.ensures in
    rw (count, c.index-at.ensures) (kept_removed c.self.inside.slots c.remove.new.self c.self.inside.counts.items c.self.inside.greatest c.args.key f c.self.invariant c.remove.ensures.updates there c.remove.ensures.len c.remove.ensures.capacity)

pub returns-clause-freezes : goal.returns-clause-freezes
returns-clause-freezes c =
    let f : Freeze = c.args.freeze in
    let kept = c.self.invariant in
    let there : freeze_at c.self.inside.slots.slots c.args.key ≡ Some f = subst (λ (e : EntriesState). freeze_at e.slots c.args.key ≡ Some f) (sym c.self.view_is) c.requires in
    let change = changes c.remove.ensures.updates in
    let apart = removed_apart c.self.inside.slots.slots c.remove.new.self.slots c.args.key kept.apart change in
    freezes_removed c.self.inside.slots.slots c.remove.new.self.slots c.args.key f c.self.inside.greatest kept.apart apart there change
    ∙ ap (λ (e : EntriesState). without f.number (all_of e)) c.self.view_is

pub returns-clause-timers : goal.returns-clause-timers
returns-clause-timers c =
    let f : Freeze = c.args.freeze in
    let kept = c.self.invariant in
    let there : freeze_at c.self.inside.slots.slots c.args.key ≡ Some f = subst (λ (e : EntriesState). freeze_at e.slots c.args.key ≡ Some f) (sym c.self.view_is) c.requires in
    let change = changes c.remove.ensures.updates in
    let apart = removed_apart c.self.inside.slots.slots c.remove.new.self.slots c.args.key kept.apart change in
    let list = freezes_removed c.self.inside.slots.slots c.remove.new.self.slots c.args.key f c.self.inside.greatest kept.apart apart there change in
    let sum = sum_without (λ (x : Freeze). cond (is_timer x.holder) 1 0) c.self.inside.slots.slots c.self.inside.greatest kept.apart kept.given c.args.key f there in
    rw list (sum ∙ ap (λ (e : EntriesState). timers_in (all_of e)) c.self.view_is)
