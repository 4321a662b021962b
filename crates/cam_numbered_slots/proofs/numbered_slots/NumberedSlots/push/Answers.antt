use Rattle.std.proofs.Common.{◌<◌, ◌∷◌, ◌++◌, [], length, subst, sym, arith}
use Rattle.std.proofs.lemmas.List.{length-map}
use Rattle.ccb.specs.Rising.{AreRising}
use Rattle.cam_numbered_slots.specs.NumberedState.{NumberedState}
use Rattle.cam_numbered_slots.specs.Invariant.{used_by}
use Rattle.cam_numbered_slots.proofs.Kept.{slot_in, values_count, kept_push}
use Rattle.cam_numbered_slots.proofs.numbered_slots.NumberedSlots.push.Goals as goal

pub put-slot-requires-clause-slots : goal.put-slot-requires-clause-slots
put-slot-requires-clause-slots g c =
    let room = subst (λ (s : NumberedState g.row.T.Denot). length s.values < s.most) (sym c.self.view_is) c.requires.room in
    let count = values_count c.self.inside.index c.self.inside.slots c.self.inside.free c.self.invariant in
    (used_by c.self.inside.index.items, c.self.invariant.slots, omega (arith, room, count, length-map c.self.inside.index.items slot_in))

pub push_reserved-requires : goal.push_reserved-requires
push_reserved-requires g c =
    let room = subst (λ (s : NumberedState g.row.T.Denot). length s.values < s.most) (sym c.self.view_is) c.requires.room in
    let count = values_count c.self.inside.index c.self.inside.slots c.self.inside.free c.self.invariant in
    omega (arith, room, count, c.self.invariant.index_room)

pub invariant_of-self : goal.invariant_of-self
invariant_of-self g c =
    let rising = subst (λ (s : NumberedState g.row.T.Denot). AreRising 0 (s.numbers ++ c.args.number ∷ []) c.args.number) (sym c.self.view_is) c.requires.rising in
    kept_push c.self.inside.index c.push_reserved.new.self c.self.inside.slots c.put-slot.new.slots c.self.inside.free c.put-slot.new.free _ c.self.invariant
    c.push_reserved.ensures.items c.push_reserved.ensures.capacity c.put-slot.ensures.capacity c.put-slot.ensures.free_capacity c.put-slot.ensures.within
    (c.put-slot.ensures.slots (used_by c.self.inside.index.items) c.self.invariant.slots) rising
