use Rattle.std.proofs.Common.{◌≡◌, ◌∙◌, Some, None, ap, sym, get_or}
use Rattle.ccb.specs.declared.place.Place.TheVariants.{Controller}
use Rattle.freeze_ledger.specs.declared.freeze.Freeze.{Freeze}
use Rattle.freeze_ledger.specs.declared.freeze.Holder.TheVariants.{Guest}
use Rattle.engine_carried.proofs.Above.{next_found}
use Rattle.engine_carried.proofs.Adding.{number_after}
use Rattle.engine_carried.proofs.carried_freezes.freeze_after.Goals as goal

pub unreachable-requires : goal.unreachable-requires
unreachable-requires c =
    let freezes = c.args.transport.now.freezes in
    let any : Freeze = record { number = 0; place = Controller 0; holder = Guest 0 } in
    let found = next_found freezes c.args.transport.now.greatest_freeze c.requires.left.numbered c.args.place c.args.last any c.requires.there c.requires.after c.freeze_above.result c.freeze_above.ensures in
    let bad : None ≡ Some (get_or freezes c.args.place any) = sym c.in-None.is ∙ found in cc

pub returns-clause-freeze : goal.returns-clause-freeze
returns-clause-freeze c =
    let freezes = c.args.transport.now.freezes in
    let found = next_found freezes c.args.transport.now.greatest_freeze c.requires.left.numbered c.args.place c.args.last c.in-Some.freeze c.requires.there c.requires.after c.freeze_above.result c.freeze_above.ensures in
    let both : Some c.in-Some.freeze ≡ Some (get_or freezes c.args.place c.in-Some.freeze) = sym c.in-Some.is ∙ found in cc

pub returns-clause-number : goal.returns-clause-number
returns-clause-number c =
    let freezes = c.args.transport.now.freezes in
    let found = next_found freezes c.args.transport.now.greatest_freeze c.requires.left.numbered c.args.place c.args.last c.in-Some.freeze c.requires.there c.requires.after c.freeze_above.result c.freeze_above.ensures in
    let both : Some c.in-Some.freeze ≡ Some (get_or freezes c.args.place c.in-Some.freeze) = sym c.in-Some.is ∙ found in
    let is : c.in-Some.freeze ≡ get_or freezes c.args.place c.in-Some.freeze = cc in
    ap (λ (f : Freeze). f.number) is ∙ number_after freezes c.args.place c.in-Some.freeze c.requires.there
