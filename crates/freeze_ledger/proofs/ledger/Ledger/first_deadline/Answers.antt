use Rattle.std.proofs.Common.{◌≡◌, ◌∙◌, List, length, false, ap, sym, subst, refl, arith}
use Rattle.std.specs.declared.cmp.Reverse.{Reverse}
use Rattle.freeze_ledger.specs.declared.deadline.Deadline.{Deadline}
use Rattle.freeze_ledger.specs.declared.freeze.Freeze.{Freeze}
use Rattle.freeze_ledger.specs.declared.freeze.Holder.TheVariants.{Timer}
use Rattle.freeze_ledger.specs.State.{LedgerState}
use Rattle.freeze_ledger.specs.Index.{turned}
use Rattle.freeze_ledger.specs.Deadlines.{IsOf, IsFirstDeadline, some_timer}
use Rattle.freeze_ledger.specs.Entries.{all_of}
use Rattle.freeze_ledger.proofs.Index.{first_goes, none_counted, counted_none}
use Rattle.freeze_ledger.proofs.ledger.Ledger.first_deadline.Goals as goal

pub returns-in-Some-clause-first : goal.returns-in-Some-clause-first
returns-in-Some-clause-first c =
    let entries = c.self.inside.entries in
    let first : Deadline = c.in-Some.first in
    let front = c.in-Some.ensures.front in
    let of : IsOf entries.slots (turned first) = subst (IsOf entries.slots) front.1 (c.self.invariant.0.true_ones 0 (turned first) front.0) in
    let it : Freeze = record { number = first.number; place = of.0; holder = Timer first.due } in
    let found : IsFirstDeadline (all_of entries) first.due first.number = record {
      place = of.0;
      held = c.are_listed.ensures first.key it of.1;
      first = first_goes entries.slots entries.greatest c.self.inside.deadlines first c.self.invariant.0 c.in-Some.ensures.first;
    } in
    subst (λ (s : LedgerState). IsFirstDeadline s.freezes first.due first.number) c.self.view_is found

pub returns-in-Some-clause-none : goal.returns-in-Some-clause-none
returns-in-Some-clause-none c = (
  λ is. absurd (cc is),
  λ none.
      let none_inside : some_timer (all_of c.self.inside.entries) ≡ false = subst (λ (s : LedgerState). some_timer s.freezes ≡ false) (sym c.self.view_is) none in
      absurd (omega (arith, counted_none (all_of c.self.inside.entries) none_inside, c.self.invariant.0.many, c.in-Some.ensures.front.0)),
)

pub returns-in-None-clause-none : goal.returns-in-None-clause-none
returns-in-None-clause-none c = (
  λ is.
      let empty = c.in-None.ensures.none.0 refl in
      let none = none_counted (all_of c.self.inside.entries) (sym c.self.invariant.0.many ∙ ap (λ (xs : List (Reverse Deadline)). length xs) empty) in
      subst (λ (s : LedgerState). some_timer s.freezes ≡ false) c.self.view_is none,
  λ none. refl,
)
