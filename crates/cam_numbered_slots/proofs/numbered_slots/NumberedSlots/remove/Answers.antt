use Rattle.std.proofs.Common.{◌<◌, map, length, ap, subst, sym, ◌∙◌, arith}
use Rattle.cam_numbered_slots.specs.NumberedState.{NumberedState}
use Rattle.cam_numbered_slots.proofs.Numbers.{map_remove}
use Rattle.cam_numbered_slots.proofs.Kept.{number_in, place_within, full_there, value_there, kept_remove, values_left, seen_is}
use Rattle.cam_numbered_slots.proofs.numbered_slots.NumberedSlots.remove.Goals as goal

pub remove-entry-requires : goal.remove-entry-requires
remove-entry-requires g c =
    let within = subst (λ (s : NumberedState g.row.T.Denot). c.args.place < length s.values) (sym c.self.view_is) c.requires in
    omega (arith, place_within c.self.inside.index c.self.inside.slots c.self.inside.free c.args.place c.self.invariant within)

pub take-requires-clause-full : goal.take-requires-clause-full
take-requires-clause-full g c =
    let within = subst (λ (s : NumberedState g.row.T.Denot). c.args.place < length s.values) (sym c.self.view_is) c.requires in
    let place = place_within c.self.inside.index c.self.inside.slots c.self.inside.free c.args.place c.self.invariant within in
    full_there c.self.inside.index c.self.inside.slots c.self.inside.free c.args.place c.remove-entry.result c.self.invariant place c.remove-entry.ensures.value

pub invariant_of-self : goal.invariant_of-self
invariant_of-self g c =
    let within = subst (λ (s : NumberedState g.row.T.Denot). c.args.place < length s.values) (sym c.self.view_is) c.requires in
    let place = place_within c.self.inside.index c.self.inside.slots c.self.inside.free c.args.place c.self.invariant within in
    kept_remove c.self.inside.index c.remove-entry.new.self c.self.inside.slots c.take.new.slots c.self.inside.free c.take.new.free c.args.place c.remove-entry.result c.self.invariant place
    c.remove-entry.ensures.value c.remove-entry.ensures.items c.remove-entry.ensures.capacity c.take.ensures.slots c.take.ensures.capacity c.take.ensures.free c.take.ensures.free_capacity

pub returns-clause-value : goal.returns-clause-value
returns-clause-value g c =
    let within = subst (λ (s : NumberedState g.row.T.Denot). c.args.place < length s.values) (sym c.self.view_is) c.requires in
    let place = place_within c.self.inside.index c.self.inside.slots c.self.inside.free c.args.place c.self.invariant within in
    let both = sym c.take.ensures.value ∙ value_there c.self.inside.index c.self.inside.slots c.self.inside.free c.args.place c.remove-entry.result c.take.result c.self.invariant place c.remove-entry.ensures.value in
    rw (← c.self.view_is) (cc)

pub returns-clause-others : goal.returns-clause-others
returns-clause-others g c =
    let within = subst (λ (s : NumberedState g.row.T.Denot). c.args.place < length s.values) (sym c.self.view_is) c.requires in
    let place = place_within c.self.inside.index c.self.inside.slots c.self.inside.free c.args.place c.self.invariant within in
    rw (← c.self.view_is)
    (seen_is c.remove-entry.new.self.items c.take.new.slots.items _ _ _ _
    (ap (λ es. map number_in es) c.remove-entry.ensures.items ∙ map_remove number_in c.self.inside.index.items c.args.place place)
    (values_left c.self.inside.index.items c.remove-entry.new.self.items c.self.inside.slots.items c.take.new.slots.items c.self.inside.free.items c.args.place c.remove-entry.result c.self.invariant.slots place c.remove-entry.ensures.value c.remove-entry.ensures.items c.take.ensures.slots)
    c.take.ensures.capacity)
