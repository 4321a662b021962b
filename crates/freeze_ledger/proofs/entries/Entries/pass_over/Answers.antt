use Rattle.std.proofs.Common.{◌∙◌, ◌≤◌, ap, subst, sym, arith}
use Rattle.freeze_ledger.specs.Entries.{EntriesState, all_of}
use Rattle.freeze_ledger.proofs.Slots.{freezes_up_to}
use Rattle.freeze_ledger.proofs.entries.Entries.pass_over.Goals as goal

pub invariant_of-self : goal.invariant_of-self
invariant_of-self c =
    let inside = c.self.inside in
    let kept = c.self.invariant in
    let no_lower : inside.greatest ≤ c.args.number = subst (λ (e : EntriesState). e.greatest ≤ c.args.number) (sym c.self.view_is) c.requires in
    let same = freezes_up_to inside.slots.slots inside.greatest c.args.number kept.given no_lower in
    record {
      apart = kept.apart;
      given = λ key f e. ((kept.given key f e).0, omega (arith, (kept.given key f e).1, no_lower));
      known = kept.known;
      counted = λ place below. rw same (kept.counted place below);
      total = rw same kept.total;
      within = kept.within;
      room = kept.room;
    }

pub returns-clause-freezes : goal.returns-clause-freezes
returns-clause-freezes c =
    let inside = c.self.inside in
    let no_lower : inside.greatest ≤ c.args.number = subst (λ (e : EntriesState). e.greatest ≤ c.args.number) (sym c.self.view_is) c.requires in
    freezes_up_to inside.slots.slots inside.greatest c.args.number c.self.invariant.given no_lower ∙ ap all_of c.self.view_is
