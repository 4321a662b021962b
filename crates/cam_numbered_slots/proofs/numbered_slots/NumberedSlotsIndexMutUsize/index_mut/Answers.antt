use Rattle.std.proofs.Common.{◌<◌, IsSome, length, subst, sym, refl, ◌∙◌, arith}
use Rattle.cam_numbered_slots.specs.NumberedState.{NumberedState}
use Rattle.cam_numbered_slots.proofs.Laid.{full_within}
use Rattle.std.proofs.lemmas.List.{get_or_default}
use Rattle.cam_numbered_slots.proofs.Kept.{place_within, full_there, value_there, kept_changed, values_with, seen_is}
use Rattle.cam_numbered_slots.proofs.numbered_slots.NumberedSlotsIndexMutUsize.index_mut.Goals as goal

pub index-requires : goal.index-requires
index-requires g c =
    let within = subst (λ (s : NumberedState g.row.T.Denot). c.args.place < length s.values) (sym c.self.view_is) c.requires in
    omega (arith, place_within c.self.inside.index c.self.inside.slots c.self.inside.free c.args.place c.self.invariant within)

pub index_mut-requires : goal.index_mut-requires
index_mut-requires g c =
    let within = subst (λ (s : NumberedState g.row.T.Denot). c.args.place < length s.values) (sym c.self.view_is) c.requires in
    let place = place_within c.self.inside.index c.self.inside.slots c.self.inside.free c.args.place c.self.invariant within in
    omega (arith, full_within c.self.inside.slots.items c.index.result.now.slot (full_there c.self.inside.index c.self.inside.slots c.self.inside.free c.args.place c.index.result.now c.self.invariant place c.index.ensures))

pub value_mut-requires : goal.value_mut-requires
value_mut-requires g c =
    let within = subst (λ (s : NumberedState g.row.T.Denot). c.args.place < length s.values) (sym c.self.view_is) c.requires in
    let place = place_within c.self.inside.index c.self.inside.slots c.self.inside.free c.args.place c.self.invariant within in
    let full = full_there c.self.inside.index c.self.inside.slots c.self.inside.free c.args.place c.index.result.now c.self.invariant place c.index.ensures in
    let bound = full_within c.self.inside.slots.items c.index.result.now.slot full in
    subst IsSome (get_or_default c.self.inside.slots.items c.index.result.now.slot _ _ bound ∙ sym c.index_mut.ensures.value) full

pub invariant_of-self-lent : goal.invariant_of-self-lent
invariant_of-self-lent g c w =
    let within = subst (λ (s : NumberedState g.row.T.Denot). c.args.place < length s.values) (sym c.self.view_is) c.requires in
    let place = place_within c.self.inside.index c.self.inside.slots c.self.inside.free c.args.place c.self.invariant within in
    kept_changed c.self.inside.index c.self.inside.slots _ c.self.inside.free c.args.place c.index.result.now w c.self.invariant place c.index.ensures refl refl

pub returns : goal.returns
returns g c =
    let within = subst (λ (s : NumberedState g.row.T.Denot). c.args.place < length s.values) (sym c.self.view_is) c.requires in
    let place = place_within c.self.inside.index c.self.inside.slots c.self.inside.free c.args.place c.self.invariant within in
    let full = full_there c.self.inside.index c.self.inside.slots c.self.inside.free c.args.place c.index.result.now c.self.invariant place c.index.ensures in
    let bound = full_within c.self.inside.slots.items c.index.result.now.slot full in
    let read = sym c.value_mut.ensures.value ∙ (c.index_mut.ensures.value ∙ (sym (get_or_default c.self.inside.slots.items c.index.result.now.slot _ _ bound)
    ∙ value_there c.self.inside.index c.self.inside.slots c.self.inside.free c.args.place c.index.result.now c.value_mut.result.now c.self.invariant place c.index.ensures)) in (
      (
        refl,
        λ w. rw (← c.self.view_is)
            (seen_is c.self.inside.index.items _ _ _ _ _ refl (values_with c.self.inside.index.items c.self.inside.slots.items c.self.inside.free.items c.args.place c.index.result.now w c.self.invariant.slots place c.index.ensures) refl),
      ),
      record { writes_back = tt; value = rw (← c.self.view_is) (cc) },
    )
