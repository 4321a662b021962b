use Rattle.std.proofs.Common.{ℕ, None, set, ap, sym, subst, refl, arith}
use Rattle.freeze_ledger.specs.declared.freeze.Freeze.{Freeze}
use Rattle.freeze_ledger.specs.Deadlines.{deadlines_of}
use Rattle.freeze_ledger.specs.Entries.{EntriesState, all_of}
use Rattle.freeze_ledger.specs.Links.{left, link_at, ends_at, ends_without}
use Rattle.freeze_ledger.specs.Chained.{IsChained}
use Rattle.freeze_ledger.proofs.Links.{chained_removed}
use Rattle.freeze_ledger.proofs.Index.{its_deadline, forgotten, but_changed, with_none}
use Rattle.freeze_ledger.proofs.indexed.take_out.Goals as goal

pub forget-requires : goal.forget-requires
forget-requires c = its_deadline c.args.key c.args.entries.now.slots (all_of c.args.entries.now) c.args.deadlines.now c.args.freeze c.requires.index c.requires.there

pub returns-clause-index : goal.returns-clause-index
returns-clause-index c =
    let old : EntriesState = c.args.entries.now in
    let new : EntriesState = c.remove-2.new.self in
    let key = c.args.key in
    let f : Freeze = c.args.freeze in
    let e = c.remove-2.ensures in
    let gone = forgotten key old.slots (all_of old) c.args.deadlines.now c.forget.new.deadlines f f.holder c.requires.index c.requires.there refl c.forget.ensures in
    let each = with_none key new.slots c.forget.new.deadlines (but_changed key old.slots new.slots None c.forget.new.deadlines gone.0 e.changes) (ap deadlines_of e.changes.changed) in
    record {
      true_ones = each.true_ones;
      each = each.each;
      many = omega (arith, gone.1, c.requires.index.many, e.timers);
    }

pub returns-clause-chained : goal.returns-clause-chained
returns-clause-chained c =
    let old : EntriesState = c.args.entries.now in
    let new : EntriesState = c.remove-2.new.self in
    let links = c.args.chains.now.links.items in
    let ends = c.args.chains.now.ends.items in
    let key = c.args.key in
    let f : Freeze = c.args.freeze in
    let e = c.remove-2.ensures in
    let numbered = c.are_numbered.ensures in
    let chained = chained_removed old new links ends key f c.requires.chained numbered.apart numbered.given c.requires.there (numbered.known key f c.requires.there) e.changes e.greatest e.places e.keys in
    let named = subst (λ (p : ℕ). IsChained new (left links (link_at links key)) (set ends p (ends_without (ends_at ends p) (link_at links key)))) (sym c.index.ensures) chained in
    rw (c.remove.ensures.links, c.remove.ensures.ends) named
