use Rattle.std.proofs.Common.{◌<◌, ◌≤◌, length, ap, ◌∙◌, arith}
use Rattle.std.specs.List.{AllWithin}
use Rattle.cam_numbered_slots.specs.declared.numbered_slots.Entry.{Entry}
use Rattle.std.proofs.lemmas.List.{get_or_default}
use Rattle.cam_numbered_slots.proofs.Numbers.{never_falls, missing}
use Rattle.cam_numbered_slots.proofs.Kept.{number_in}
use Rattle.cam_numbered_slots.proofs.numbered_slots.NumberedSlots.place_of.Goals as goal
use Rattle.cam_numbered_slots.proofs.numbered_slots.NumberedSlots.place_of.Goals.{else-place-len-via-then-place-len+else-index-number, else-place-len-via-else-place-len}

pub place_for-place-requires : goal.place_for-place-requires
place_for-place-requires g c =
    rw c.deref.ensures.value (λ i j d le l. never_falls number_in 0 c.self.inside.index.items c.self.invariant.high i j d le l c.self.invariant.rising)

pub returns-else-place-len-clause-none : goal.returns-else-place-len-clause-none
returns-else-place-len-clause-none g c =
    let lower : AllWithin (λ (it : Entry). it.number < c.args.number) c.self.inside.index.items 0 c.place_for-place.result = rw (← c.deref.ensures.value) c.place_for-place.ensures.lower in
    let others : AllWithin (λ (it : Entry). c.args.number ≤ it.number) c.self.inside.index.items c.place_for-place.result (length c.self.inside.index.items) = rw (← c.deref.ensures.value) c.place_for-place.ensures.others in
    rw (← c.self.view_is)
    (missing number_in 0 c.self.inside.index.items c.self.invariant.high c.place_for-place.result c.args.number c.self.invariant.rising
    (λ j d l w. lower j d (omega arith) l) others
    (λ d l e. elim c.else-place-len.branch [
      | else-place-len-via-then-place-len+else-index-number w ↦
          w.if-index-number.false (ap number_in (w.index.ensures ∙ get_or_default c.self.inside.index.items c.place_for-place.result w.index.result.now d l) ∙ e)
      | else-place-len-via-else-place-len w ↦ omega (arith, w.if-place-len.false, c.len.ensures, l)
    ]))
