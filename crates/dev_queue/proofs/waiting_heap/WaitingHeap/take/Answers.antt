use Rattle.std.proofs.Common.{◌≡◌, ◌<◌, List, ◌∷◌, length, get_or, true, ap, ◌∙◌, sym, subst, arith}
use Rattle.std.proofs.lemmas.List.{with_items_is}
use Rattle.std.proofs.lemmas.List.Sorted.{IsPermutation-trans, length_permutation}
use Rattle.std.specs.List.{swap_remove}
use Rattle.std.specs.List.Sorted.{IsPermutation}
use Rattle.std.specs.Vec.{with_items}
use Rattle.dev_queue.specs.declared.waiting_ccb.WaitingCcb.{WaitingCcb}
use Rattle.dev_queue.specs.Heap.{IsHeap}
use Rattle.dev_queue.specs.Waiting.{AreApart, waits, without, in_order}
use Rattle.dev_queue.proofs.Order.{length-in_order, moved_behind, apart_taken, order_taken, waits_in_order}
use Rattle.dev_queue.proofs.Standing.{sinks_on}
use Rattle.dev_queue.proofs.waiting_heap.WaitingHeap.take.Goals as goal

pub place_of-place-requires : goal.place_of-place-requires
place_of-place-requires c =
    let there : waits c.args.number (in_order c.self.inside.pairs.items) ≡ true = rw c.self.view_is c.requires in
    ap (waits c.args.number) c.deref.ensures.value ∙ (sym (waits_in_order c.args.number c.self.inside.pairs.items) ∙ there)

pub sink-requires-clause-others : goal.sink-requires-clause-others
sink-requires-clause-others c =
    let first : (with_items c.self.inside.pairs c.lift.new.pairs).items ≡ c.lift.new.pairs =
    with_items_is c.self.inside.pairs c.lift.new.pairs (omega (arith, length_permutation _ _ c.lift.ensures.moved, c.deref_mut.ensures.len)) in
    let some : 0 < length c.lift.new.pairs = omega (arith, length_permutation _ _ c.lift.ensures.moved, ap length c.deref_mut.ensures.value, ap length c.deref.ensures.value, c.place_of-place.ensures.inside) in
    sinks_on c.lift.new.pairs c.deref_mut-2.result.now c.swap_remove.result some c.lift.ensures.others
    (c.deref_mut-2.ensures.value ∙ (c.swap_remove.ensures.items ∙ ap (λ (ps : List WaitingCcb). swap_remove ps 0 c.swap_remove.result) first))

-- the pairs once that one is the first
lifted_is : (c : goal.After-self-2-1) → (with_items c.self.inside.pairs c.lift.new.pairs).items ≡ c.lift.new.pairs
lifted_is c = with_items_is c.self.inside.pairs c.lift.new.pairs (omega (arith, length_permutation _ _ c.lift.ensures.moved, c.deref_mut.ensures.len))

some : (c : goal.After-self-2-1) → 0 < length c.lift.new.pairs
some c = omega (arith, length_permutation _ _ c.lift.ensures.moved, ap length c.deref_mut.ensures.value, ap length c.deref.ensures.value, c.place_of-place.ensures.inside)

first_is : (c : goal.After-self-2-1) → c.swap_remove.result ≡ get_or c.lift.new.pairs 0 c.swap_remove.result
first_is c = c.swap_remove.ensures.value ∙ ap (λ (ps : List WaitingCcb). get_or ps 0 c.swap_remove.result) (lifted_is c)

-- what is left, and the pair that is gone before it
moved : (c : goal.After-self-2-1) → IsPermutation c.self.inside.pairs.items (c.swap_remove.result ∷ c.sink.new.pairs)
moved c =
    IsPermutation-trans _ _ _ (subst (λ (xs : List WaitingCcb). IsPermutation xs c.lift.new.pairs) c.deref_mut.ensures.value c.lift.ensures.moved)
    (moved_behind c.lift.new.pairs c.sink.new.pairs c.swap_remove.result (some c) (first_is c)
    (subst (λ (xs : List WaitingCcb). IsPermutation xs c.sink.new.pairs)
    (c.deref_mut-2.ensures.value ∙ (c.swap_remove.ensures.items ∙ ap (λ (ps : List WaitingCcb). swap_remove ps 0 c.swap_remove.result) (lifted_is c))) c.sink.ensures.moved))

-- it has the number
number_is : (c : goal.After-self-2-1) → c.swap_remove.result.number.0 ≡ c.args.number.0
number_is c =
    ap (λ (p : WaitingCcb). p.number.0) (first_is c ∙ (c.lift.ensures.first c.swap_remove.result ∙ ap (λ (ps : List WaitingCcb). get_or ps c.place_of-place.result c.swap_remove.result) (c.deref_mut.ensures.value ∙ sym c.deref.ensures.value)))
    ∙ c.place_of-place.ensures.number_is c.swap_remove.result

sunk_is : (c : goal.After-self-2-1) → (with_items c.swap_remove.new.self c.sink.new.pairs).items ≡ c.sink.new.pairs
sunk_is c = with_items_is c.swap_remove.new.self c.sink.new.pairs (omega (arith, length_permutation _ _ c.sink.ensures.moved, c.deref_mut-2.ensures.len))

pub invariant_of-self : goal.invariant_of-self
invariant_of-self c = record {
  heap = subst IsHeap (sym (sunk_is c)) c.sink.ensures.heap;
  apart = subst AreApart (sym (sunk_is c)) (apart_taken c.swap_remove.result c.self.inside.pairs.items c.sink.new.pairs c.self.invariant.apart (moved c));
  within = omega (arith, ap length (sunk_is c), length_permutation _ _ (moved c), c.self.invariant.within);
  room = omega (arith, c.swap_remove.ensures.capacity, c.self.invariant.room);
}

pub returns-clause-taken : goal.returns-clause-taken
returns-clause-taken c =
    ap in_order (sunk_is c)
    ∙ (order_taken c.swap_remove.result c.self.inside.pairs.items c.sink.new.pairs c.self.invariant.apart (moved c)
    ∙ ((λ i. without (record { 0 = number_is c i }) (c.self.view_is i))))

pub returns-clause-len : goal.returns-clause-len
returns-clause-len c =
    omega (
      arith,
      ap length (ap in_order (sunk_is c)),
      length-in_order c.sink.new.pairs,
      length-in_order c.self.inside.pairs.items,
      ap length c.self.view_is,
      length_permutation _ _ (moved c),
    )
