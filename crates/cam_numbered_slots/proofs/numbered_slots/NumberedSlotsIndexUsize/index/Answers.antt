use Rattle.std.proofs.Common.{◌<◌, None, IsSome, length, subst, sym, ◌∙◌, arith, true≢false}
use Rattle.std.proofs.lemmas.List.{get_or_default}
use Rattle.cam_numbered_slots.specs.NumberedState.{NumberedState}
use Rattle.cam_numbered_slots.proofs.Laid.{full_within}
use Rattle.cam_numbered_slots.proofs.Kept.{place_within, full_there, value_there}
use Rattle.cam_numbered_slots.proofs.numbered_slots.NumberedSlotsIndexUsize.index.Goals as goal

pub index-requires : goal.index-requires
index-requires g c =
    let within = subst (λ (s : NumberedState g.row.T.Denot). c.args.place < length s.values) (sym c.self.view_is) c.requires in
    omega (arith, place_within c.self.inside.index c.self.inside.slots c.self.inside.free c.args.place c.self.invariant within)

pub index-requires-2 : goal.index-requires-2
index-requires-2 g c =
    let within = subst (λ (s : NumberedState g.row.T.Denot). c.args.place < length s.values) (sym c.self.view_is) c.requires in
    let place = place_within c.self.inside.index c.self.inside.slots c.self.inside.free c.args.place c.self.invariant within in
    omega (arith, full_within c.self.inside.slots.items c.index.result.now.slot (full_there c.self.inside.index c.self.inside.slots c.self.inside.free c.args.place c.index.result.now c.self.invariant place c.index.ensures))

pub unreachable-requires : goal.unreachable-requires
unreachable-requires g c =
    let within = subst (λ (s : NumberedState g.row.T.Denot). c.args.place < length s.values) (sym c.self.view_is) c.requires in
    let place = place_within c.self.inside.index c.self.inside.slots c.self.inside.free c.args.place c.self.invariant within in
    let full = full_there c.self.inside.index c.self.inside.slots c.self.inside.free c.args.place c.index.result.now c.self.invariant place c.index.ensures in
    let bound = full_within c.self.inside.slots.items c.index.result.now.slot full in
    true≢false (sym (subst IsSome (get_or_default c.self.inside.slots.items c.index.result.now.slot None c.index-2.result.now bound ∙ (sym c.index-2.ensures ∙ c.in-None.is)) full))

pub returns : goal.returns
returns g c =
    let within = subst (λ (s : NumberedState g.row.T.Denot). c.args.place < length s.values) (sym c.self.view_is) c.requires in
    let place = place_within c.self.inside.index c.self.inside.slots c.self.inside.free c.args.place c.self.invariant within in
    let full = full_there c.self.inside.index c.self.inside.slots c.self.inside.free c.args.place c.index.result.now c.self.invariant place c.index.ensures in
    let bound = full_within c.self.inside.slots.items c.index.result.now.slot full in
    let read = sym c.in-Some.is ∙ (c.index-2.ensures ∙ (sym (get_or_default c.self.inside.slots.items c.index.result.now.slot None c.index-2.result.now bound)
    ∙ value_there c.self.inside.index c.self.inside.slots c.self.inside.free c.args.place c.index.result.now c.in-Some.value c.self.invariant place c.index.ensures)) in
    rw (← c.self.view_is) (cc)
