use Rattle.std.proofs.Common.{◌∙◌, ℕ, ◌+◌, ◌≤◌, List, Option, Some, None, arith, sym, subst}
use Rattle.freeze_ledger.specs.declared.freeze.Freeze.{Freeze}
use Rattle.freeze_ledger.specs.Deadlines.{IsIndex}
use Rattle.freeze_ledger.specs.Entries.{all_of}
use Rattle.freeze_ledger.specs.Invariant.{AreGiven}
use Rattle.freeze_ledger.specs.Chained.{LinkLeads, higher}
use Rattle.freeze_ledger.proofs.ledger.Ledger.pass_over.Goals as goal

-- no freeze lies between two numbers that none is above
still_last : (slots : List (Option Freeze)) (place low high : ℕ) (link : Option ℕ) → AreGiven slots low → low ≤ high → LinkLeads higher slots place (low + 1) link → LinkLeads higher slots place (high + 1) link
still_last slots place low high None given no_lower none = λ key f e named below. none key f e named (omega (arith, (given key f e).1))
still_last slots place low high (Some key) given no_lower it = record {
  freeze = it.freeze;
  there = it.there;
  named = it.named;
  behind = omega (arith, it.behind, no_lower);
  first = λ other between e named below above. it.first other between e named (omega (arith, (given other between e).1)) above;
}

pub invariant_of-self : goal.invariant_of-self
invariant_of-self c =
    let inside = c.self.inside in
    let chained = c.self.invariant.1 in
    let e = c.pass_over.ensures in (
      subst (λ (slots : List (Option Freeze)). IsIndex slots (all_of c.pass_over.new.self) inside.deadlines) (sym e.slots)
          (subst (λ (freezes : List Freeze). IsIndex inside.entries.slots freezes inside.deadlines) (sym e.freezes) c.self.invariant.0),
      record {
        firsts = rw e.slots chained.firsts;
        lasts = λ place below. rw (e.slots, e.greatest) (still_last inside.entries.slots place inside.entries.greatest c.args.number _ c.are_numbered.ensures.given (subst (λ s. s.greatest ≤ c.args.number) (sym c.self.view_is) c.requires) (chained.lasts place below));
        laters = rw e.slots chained.laters;
        earliers = rw e.slots chained.earliers;
        within = rw e.slots chained.within;
        places = chained.places ∙ sym e.places;
        keys = chained.keys ∙ sym e.keys;
      },
    )
