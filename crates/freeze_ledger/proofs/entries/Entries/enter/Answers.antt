use Rattle.std.proofs.Common.{◌≡◌, ◌+◌, ◌<◌, ◌∙◌, ◌++◌, ◌∷◌, [], length, false, ap, sym, subst, refl, arith}
use Rattle.slab.specs.Slab.{slab_len}
use Rattle.freeze_ledger.specs.declared.freeze.Freeze.{Freeze}
use Rattle.ccb.specs.Places.{index_of}
use Rattle.freeze_ledger.specs.Freezes.{meets_limit}
use Rattle.freeze_ledger.specs.Entries.{EntriesState, all_of, freezes_in}
use Rattle.freeze_ledger.proofs.Kept.{kept_entered, count_at, changes, entered_apart}
use Rattle.freeze_ledger.proofs.Slots.{freezes_entered}
use Rattle.freeze_ledger.proofs.entries.Entries.enter.Goals as goal

pub invariant_of-self : goal.invariant_of-self
invariant_of-self c =
    let inside = c.self.inside in
    let kept = c.self.invariant in
    let f : Freeze = record { number = inside.greatest + 1; place = c.args.place; holder = c.args.holder } in
    let known : index_of c.args.place < length inside.counts.items = subst (λ (e : EntriesState). index_of c.args.place < e.places) (sym c.self.view_is) c.requires.place in
    let limit : meets_limit c.args.place (freezes_in inside.slots.slots inside.greatest) inside.greatest ≡ false = subst (λ (e : EntriesState). meets_limit c.args.place (all_of e) e.greatest ≡ false) (sym c.self.view_is) c.requires.room in
    let room : slab_len inside.slots < 1024 = grind (arith, limit, kept.total) in
    let count = count_at inside.counts.items c.index-at.result (index_of c.args.place) c.index.result.now _ c.index-at.ensures known c.index.ensures in
    rw (count, c.index-at.ensures) (kept_entered inside.slots c.insert_reserved-key.new.self inside.counts.items inside.greatest c.insert_reserved-key.result f kept c.insert_reserved-key.ensures.updates c.insert_reserved-key.ensures.was_vacant refl known c.insert_reserved-key.ensures.len room c.insert_reserved-key.ensures.capacity)

pub returns-clause-freezes : goal.returns-clause-freezes
returns-clause-freezes c =
    let inside = c.self.inside in
    let kept = c.self.invariant in
    let f : Freeze = record { number = inside.greatest + 1; place = c.args.place; holder = c.args.holder } in
    let change = changes c.insert_reserved-key.ensures.updates in
    let apart = entered_apart inside.slots.slots c.insert_reserved-key.new.self.slots c.insert_reserved-key.result inside.greatest f kept.apart kept.given refl change in
    freezes_entered inside.slots.slots c.insert_reserved-key.new.self.slots c.insert_reserved-key.result f inside.greatest kept.apart apart kept.given refl c.insert_reserved-key.ensures.was_vacant change
    ∙ ap (λ (e : EntriesState). all_of e ++ f ∷ []) c.self.view_is
