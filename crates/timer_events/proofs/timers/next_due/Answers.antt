use Rattle.std.proofs.Common.{◌≡◌, true, refl, rules, arith}
use Rattle.freeze_ledger.specs.declared.freeze.Holder.TheVariants.{Timer}
use Rattle.freeze_ledger.specs.Freezes.{is_due}
use Rattle.timer_events.proofs.First.{none_ever, none_yet, found_late}
use Rattle.timer_events.proofs.timers.next_due.Goals as goal

pub returns-in_err-due-clause-none : goal.returns-in_err-due-clause-none
returns-in_err-due-clause-none c =
    let none = c.in_err-due.ensures.none.0 refl in
    (λ is. none_ever c.args.reading c.args.ledger.now.freezes none, λ late. search rules)

pub returns-then-due-reading-clause-none : goal.returns-then-due-reading-clause-none
returns-then-due-reading-clause-none c =
    let first = c.in_ok-due.ensures.first in
    let due : is_due c.args.reading (Timer c.in_ok-due.due) ≡ true = grind (arith, c.if-due-reading.true) in (
      λ is. absurd (cc is),
      λ none.
          let late = found_late c.args.reading c.in_ok-due.number c.args.ledger.now.freezes _ none first.held in
          absurd (cc (due, late)),
    )

pub returns-else-due-reading-clause-none : goal.returns-else-due-reading-clause-none
returns-else-due-reading-clause-none c =
    let first = c.in_ok-due.ensures.first in
    (λ is. none_yet c.args.reading c.in_ok-due.due c.in_ok-due.number c.args.ledger.now.freezes c.if-due-reading.false first.first, λ none. refl)
