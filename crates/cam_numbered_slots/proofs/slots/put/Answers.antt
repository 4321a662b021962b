use Rattle.std.proofs.Common.{◌≡◌, ℕ, List, [], ◌∷◌, length, refl, subst, arith}
use Rattle.cam_numbered_slots.specs.Invariant.{AreSlots}
use Rattle.cam_numbered_slots.proofs.Laid.{values_put, slots_more, values_more}
use Rattle.cam_numbered_slots.proofs.slots.put.Goals as goal

empty : (xs : List ℕ) → length xs ≡ 0 → xs ≡ []
empty [] e = refl
empty (x ∷ xs) e = absurd (omega arith)

pub returns-in-None-replace-clause-values : goal.returns-in-None-replace-clause-values
returns-in-None-replace-clause-values g c = λ used h.
    rw c.replace.ensures.after
    (values_put used c.args.slots.now.items c.pop.new.self.items c.in-Some.slot c.args.value (subst (AreSlots used c.args.slots.now.items) c.in-Some.ensures.items h))

pub returns-in-None-clause-slots : goal.returns-in-None-clause-slots
returns-in-None-clause-slots g c = λ used h.
    let none : c.args.free.now.items ≡ [] = empty c.args.free.now.items (omega (arith, c.in-None.ensures.cases.0)) in
    let left : c.pop.new.self.items ≡ [] = empty c.pop.new.self.items (omega (arith, c.in-None.ensures.cases.1)) in
    let last : c.len-slot.result ≡ length c.args.slots.now.items = omega (arith, c.len-slot.ensures) in
    rw (c.push_reserved.ensures.items, last, left)
    (slots_more used c.args.slots.now.items c.args.value (subst (AreSlots used c.args.slots.now.items) none h))

pub returns-in-None-clause-values : goal.returns-in-None-clause-values
returns-in-None-clause-values g c = λ used h.
    let none : c.args.free.now.items ≡ [] = empty c.args.free.now.items (omega (arith, c.in-None.ensures.cases.0)) in
    let last : c.len-slot.result ≡ length c.args.slots.now.items = omega (arith, c.len-slot.ensures) in
    rw (c.push_reserved.ensures.items, last)
    (values_more used c.args.slots.now.items c.args.value (subst (AreSlots used c.args.slots.now.items) none h))
