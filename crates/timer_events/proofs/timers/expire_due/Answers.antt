use Rattle.std.proofs.Common.{◌≡◌, ◌∙◌, ℕ, List, length, true, false, ap, sym, subst, rules, arith}
use Rattle.freeze_ledger.specs.declared.freeze.Freeze.{Freeze}
use Rattle.freeze_ledger.specs.declared.freeze.Holder.TheVariants.{Timer}
use Rattle.freeze_ledger.specs.Freezes.{without, is_due, not_due_at}
use Rattle.freeze_ledger.specs.State.{LedgerState, with_freezes}
use Rattle.timer_events.specs.Next.{some_due}
use Rattle.timer_events.proofs.Expiring.{numbered_without, not_due_without, without_shorter, none_due, due_or_not}
use Rattle.timer_events.proofs.timers.expire_due.Invariants.{IsLeft}
use Rattle.timer_events.proofs.timers.expire_due.Goals as goal

pub loop-number-smaller : goal.loop-number-smaller
loop-number-smaller c = rw c.expire.ensures (without_shorter c.in-Some.number c.loop-number.ledger.freezes _ c.in-Some.ensures.next.held)

pub loop-number-preserved : goal.loop-number-preserved
loop-number-preserved c =
    let now = c.loop-number.ledger in
    let next = c.in-Some.ensures.next in
    let due : is_due c.args.reading (Timer next.due) ≡ true = grind (arith, next.reached) in
    let left : LedgerState = with_freezes now (without c.in-Some.number now.freezes) in
    let kept : IsLeft c.args.reading c.args.ledger.now left = record {
      same = ap (λ (s : LedgerState). with_freezes s (without c.in-Some.number now.freezes)) c.loop-number.invariant.same;
      numbered = numbered_without c.in-Some.number 0 now.freezes now.greatest c.loop-number.invariant.numbered;
      others =
          not_due_without c.args.reading c.in-Some.number 0 now.freezes now.greatest _ c.loop-number.invariant.numbered next.held due
          ∙ c.loop-number.invariant.others;
    } in
    subst (λ (s : LedgerState). IsLeft c.args.reading c.args.ledger.now s) (sym c.expire.ensures) kept

-- at the end all that are left are not due
left_at_end : (reading : ℕ) (before now : LedgerState) → IsLeft reading before now → some_due reading now.freezes ≡ false → now.freezes ≡ not_due_at reading before.freezes
left_at_end reading before now left none = sym (none_due reading now.freezes none) ∙ left.others

pub overflow_sub-result : goal.overflow_sub-result
overflow_sub-result c =
    let left = left_at_end c.args.reading c.args.ledger.now c.loop-number.ledger c.loop-number.invariant (search rules) in
    omega (arith, c.len.ensures.entries, ap (λ (fs : List Freeze). length fs) left, c.len-entries.ensures.entries, due_or_not c.args.reading c.args.ledger.now.freezes)

pub returns-clause-others : goal.returns-clause-others
returns-clause-others c =
    let left = left_at_end c.args.reading c.args.ledger.now c.loop-number.ledger c.loop-number.invariant (search rules) in
    c.loop-number.invariant.same ∙ ap (with_freezes c.args.ledger.now) left

pub returns-clause-count : goal.returns-clause-count
returns-clause-count c =
    let left = left_at_end c.args.reading c.args.ledger.now c.loop-number.ledger c.loop-number.invariant (search rules) in
    omega (arith, c.len.ensures.entries, ap (λ (fs : List Freeze). length fs) left, c.len-entries.ensures.entries, due_or_not c.args.reading c.args.ledger.now.freezes)
