use Rattle.std.proofs.Common.{◌≡◌, ℕ, ◌+◌, ◌∙◌, List, Some, None, cond, set, ◌<◌, ap, sym, subst, refl, arith}
use Rattle.std.proofs.lemmas.List.Sums.{sum_by_push}
use Rattle.std.proofs.lemmas.List.Sorted.{length_permutation}
use Rattle.freeze_ledger.specs.declared.freeze.Freeze.{Freeze}
use Rattle.freeze_ledger.specs.declared.freeze.Holder.{Holder}
use Rattle.freeze_ledger.specs.declared.freeze.Holder.TheVariants.{Run, Timer, Guest}
use Rattle.freeze_ledger.specs.Deadlines.{is_timer, timers_in, deadlines_of}
use Rattle.freeze_ledger.specs.Entries.{EntriesState, all_of, freeze_at, Changes}
use Rattle.freeze_ledger.specs.declared.chains.Link.{Link}
use Rattle.freeze_ledger.specs.declared.chains.Ends.{Ends}
use Rattle.ccb.specs.Places.{index_of}
use Rattle.freeze_ledger.specs.Invariant.{AreApart, AreGiven}
use Rattle.freeze_ledger.specs.Links.{appended, ends_at, ends_with}
use Rattle.freeze_ledger.specs.Chained.{IsChained}
use Rattle.freeze_ledger.proofs.Chained.{Enters}
use Rattle.freeze_ledger.proofs.Links.{chained_entered}
use Rattle.freeze_ledger.proofs.Index.{but_none, but_changed, with_one, with_none}
use Rattle.freeze_ledger.proofs.indexed.enter.Goals as goal

untimed : (h : Holder) → ((due : ℕ) → h ≡ Timer due → ⊥) → cond {A = ℕ} (is_timer h) 1 0 ≡ 0
untimed (Run r) other = refl
untimed (Timer due) other = absurd (other due refl)
untimed (Guest g) other = refl

-- the chains with one more, by the number of its place
chained_by : (old new : EntriesState) (links : List Link) (ends : List Ends) (key place : ℕ) (f : Freeze) → IsChained old links ends → AreApart old.slots → AreGiven old.slots old.greatest → Changes old.slots new.slots key (Some f) → freeze_at old.slots key ≡ None → f.number ≡ old.greatest + 1 → key < old.keys → index_of f.place ≡ place → place < old.places → new.greatest ≡ old.greatest + 1 → new.places ≡ old.places → new.keys ≡ old.keys → IsChained new (appended links (ends_at ends place) key) (set ends place (ends_with (ends_at ends place) key))
chained_by old new links ends key place f is apart given change vacant number within named known greatest places keys =
    let it : Enters old.slots new.slots key old.greatest f = record { change = change; vacant = vacant; number = number; given = given; apart = apart } in
    subst (λ (p : ℕ). IsChained new (appended links (ends_at ends p) key) (set ends p (ends_with (ends_at ends p) key))) named (chained_entered old new links ends key f is it within (omega (arith, named, known)) greatest places keys)

pub returns-in-Timer-clause-index : goal.returns-in-Timer-clause-index
returns-in-Timer-clause-index c =
    let old : EntriesState = c.args.entries.now in
    let new : EntriesState = c.enter-key.new.self in
    let key = c.enter-key.result.0 in
    let f : Freeze = c.enter-key.result.1 in
    let e = c.enter-key.ensures in
    let but = but_changed key old.slots new.slots (Some f) c.args.deadlines.now (but_none key old.slots (all_of old) c.args.deadlines.now c.requires.index (ap deadlines_of e.vacant)) e.changes in
    let held : f.holder ≡ c.args.holder = ap (λ (x : Freeze). x.holder) e.freeze in
    let each = with_one key c.in-Timer.due new.slots f c.args.deadlines.now c.insert.new.self but e.changes.changed (held ∙ c.in-Timer.is) c.insert.ensures in
    let timer : cond {A = ℕ} (is_timer f.holder) 1 0 ≡ 1 = ap (λ (h : Holder). cond {A = ℕ} (is_timer h) 1 0) (held ∙ c.in-Timer.is) in
    let count : timers_in (all_of new) ≡ timers_in (all_of old) + cond {A = ℕ} (is_timer f.holder) 1 0 = ap timers_in e.freezes ∙ sum_by_push (λ (x : Freeze). cond (is_timer x.holder) 1 0) (all_of old) f in
    record {
      true_ones = each.true_ones;
      each = each.each;
      many = omega (arith, length_permutation _ _ c.insert.ensures, c.requires.index.many, count, timer);
    }

pub returns-in_default : goal.returns-in_default
returns-in_default c =
    let old : EntriesState = c.args.entries.now in
    let new : EntriesState = c.enter-key.new.self in
    let key = c.enter-key.result.0 in
    let f : Freeze = c.enter-key.result.1 in
    let e = c.enter-key.ensures in
    let held : f.holder ≡ c.args.holder = ap (λ (x : Freeze). x.holder) e.freeze in
    let none : cond {A = ℕ} (is_timer f.holder) 1 0 ≡ 0 = ap (λ (h : Holder). cond {A = ℕ} (is_timer h) 1 0) held ∙ untimed c.args.holder c.in_default.not-Timer in
    let but = but_changed key old.slots new.slots (Some f) c.args.deadlines.now (but_none key old.slots (all_of old) c.args.deadlines.now c.requires.index (ap deadlines_of e.vacant)) e.changes in
    let each = with_none key new.slots c.args.deadlines.now but (ap deadlines_of e.changes.changed ∙ none) in
    let count : timers_in (all_of new) ≡ timers_in (all_of old) + cond {A = ℕ} (is_timer f.holder) 1 0 = ap timers_in e.freezes ∙ sum_by_push (λ (x : Freeze). cond (is_timer x.holder) 1 0) (all_of old) f in
    let number : new.greatest ≡ f.number = e.greatest ∙ sym (ap (λ (x : Freeze). x.number) e.freeze) in
    let chained = chained_by old new c.args.chains.now.links.items c.args.chains.now.ends.items key c.index.result f c.requires.chained c.are_numbered.ensures.apart c.are_numbered.ensures.given e.changes e.vacant (ap (λ (x : Freeze). x.number) e.freeze) e.key (ap (λ (x : Freeze). index_of x.place) e.freeze ∙ sym c.index.ensures) (rw c.index.ensures c.requires.place) e.greatest e.places e.keys in
    record {
      chained = rw (c.append.ensures.links, c.append.ensures.ends) chained;
      index = record { true_ones = each.true_ones; each = each.each; many = omega (arith, c.requires.index.many, count, none) };
      freeze = e.freeze;
      entered = λ i. record { places = e.places i; greatest = number i; freezes = e.freezes i };
    }

pub returns-in-Timer-clause-chained : goal.returns-in-Timer-clause-chained
returns-in-Timer-clause-chained c =
    let old : EntriesState = c.args.entries.now in
    let new : EntriesState = c.enter-key.new.self in
    let key = c.enter-key.result.0 in
    let f : Freeze = c.enter-key.result.1 in
    let e = c.enter-key.ensures in
    let chained = chained_by old new c.args.chains.now.links.items c.args.chains.now.ends.items key c.index.result f c.requires.chained c.are_numbered.ensures.apart c.are_numbered.ensures.given e.changes e.vacant (ap (λ (x : Freeze). x.number) e.freeze) e.key (ap (λ (x : Freeze). index_of x.place) e.freeze ∙ sym c.index.ensures) (rw c.index.ensures c.requires.place) e.greatest e.places e.keys in
    rw (c.append.ensures.links, c.append.ensures.ends) chained
