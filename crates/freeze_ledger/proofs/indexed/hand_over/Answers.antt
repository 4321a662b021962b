use Rattle.std.proofs.Common.{◌≡◌, ◌∙◌, List, Some, cond, eqb, length, ap, refl, arith}
use Rattle.std.proofs.lemmas.List.{length-map}
use Rattle.std.proofs.lemmas.List.Sums.{count_by-le-length}
use Rattle.std.proofs.lemmas.List.Sorted.{length_permutation}
use Rattle.freeze_ledger.specs.declared.freeze.Freeze.{Freeze}
use Rattle.freeze_ledger.specs.declared.freeze.Holder.TheVariants.{Timer}
use Rattle.freeze_ledger.specs.Deadlines.{is_timer}
use Rattle.freeze_ledger.specs.Entries.{EntriesState, all_of}
use Rattle.freeze_ledger.proofs.Index.{its_deadline, forgotten, but_changed, with_one}
use Rattle.freeze_ledger.proofs.Links.{chained_handed}
use Rattle.freeze_ledger.proofs.indexed.hand_over.Goals as goal

pub forget-requires : goal.forget-requires
forget-requires c = its_deadline c.args.key c.args.entries.now.slots (all_of c.args.entries.now) c.args.deadlines.now c.args.freeze c.requires.index c.requires.there

pub insert-requires : goal.insert-requires
insert-requires c =
    let old : EntriesState = c.args.entries.now in
    let new : EntriesState = c.hand_over.new.self in
    let key = c.args.key in
    let f : Freeze = c.args.freeze in
    let e = c.hand_over.ensures in
    let gone = forgotten key old.slots (all_of old) c.args.deadlines.now c.forget.new.deadlines f f.holder c.requires.index c.requires.there refl c.forget.ensures in
    let same : length (all_of new) ≡ length (all_of old) = ap (λ (fs : List Freeze). length fs) e.freezes ∙ length-map (all_of old) (λ (x : Freeze). cond (eqb x.number f.number) (record x { holder = Timer c.args.due }) x) in
    let most = count_by-le-length (λ (x : Freeze). is_timer x.holder) (all_of new) in
    omega (arith, gone.1, c.requires.index.many, e.timers, same, most, c.len-freezes.ensures.entries, c.len-freezes.ensures.bound)

pub returns-clause-index : goal.returns-clause-index
returns-clause-index c =
    let old : EntriesState = c.args.entries.now in
    let new : EntriesState = c.hand_over.new.self in
    let key = c.args.key in
    let f : Freeze = c.args.freeze in
    let later : Freeze = record f { holder = Timer c.args.due } in
    let e = c.hand_over.ensures in
    let gone = forgotten key old.slots (all_of old) c.args.deadlines.now c.forget.new.deadlines f f.holder c.requires.index c.requires.there refl c.forget.ensures in
    let but = but_changed key old.slots new.slots (Some later) c.forget.new.deadlines gone.0 e.changes in
    let each = with_one key c.args.due new.slots later c.forget.new.deadlines c.insert.new.self but e.changes.changed refl c.insert.ensures in
    record {
      true_ones = each.true_ones;
      each = each.each;
      many = omega (arith, gone.1, c.requires.index.many, e.timers, length_permutation _ _ c.insert.ensures);
    }

pub returns-clause-chained : goal.returns-clause-chained
returns-clause-chained c = λ links ends is.
    let e = c.hand_over.ensures in
    chained_handed c.args.entries.now c.hand_over.new.self links ends c.args.key c.args.due c.args.freeze is c.requires.there e.changes e.greatest e.places e.keys
