use Rattle.std.proofs.Common.{◌≡◌, ◌<◌, List, ◌∷◌, length, ap, ◌∙◌, sym, subst, arith, rules}
use Rattle.std.proofs.lemmas.List.{with_items_is}
use Rattle.std.proofs.lemmas.List.Sorted.{length_permutation}
use Rattle.std.specs.List.Sorted.{IsPermutation}
use Rattle.std.specs.Vec.{with_items}
use Rattle.dev_queue.specs.declared.waiting_ccb.WaitingCcb.{WaitingCcb}
use Rattle.dev_queue.specs.Heap.{IsHeap}
use Rattle.dev_queue.specs.Waiting.{AreApart, without, in_order}
use Rattle.dev_queue.proofs.Order.{length-in_order, moved_behind, apart_taken, order_taken, least_in_order}
use Rattle.dev_queue.proofs.Standing.{first_least}
use Rattle.dev_queue.proofs.waiting_heap.WaitingHeap.take_least.Goals as goal

pub invariant_of-self : goal.invariant_of-self
invariant_of-self c =
    let some : 0 < length c.self.inside.pairs.items = search rules in
    let is : (with_items c.swap_remove-least.new.self c.sink.new.pairs).items ≡ c.sink.new.pairs =
    with_items_is c.swap_remove-least.new.self c.sink.new.pairs (omega (arith, length_permutation _ _ c.sink.ensures.moved, c.deref_mut.ensures.len)) in
    let moved : IsPermutation c.self.inside.pairs.items (c.swap_remove-least.result ∷ c.sink.new.pairs) =
    moved_behind c.self.inside.pairs.items c.sink.new.pairs c.swap_remove-least.result some c.swap_remove-least.ensures.value
    (subst (λ (xs : List WaitingCcb). IsPermutation xs c.sink.new.pairs) (c.deref_mut.ensures.value ∙ c.swap_remove-least.ensures.items) c.sink.ensures.moved) in
    record {
      heap = subst IsHeap (sym is) c.sink.ensures.heap;
      apart = subst AreApart (sym is) (apart_taken c.swap_remove-least.result c.self.inside.pairs.items c.sink.new.pairs c.self.invariant.apart moved);
      within = omega (arith, ap length is, length_permutation _ _ moved, c.self.invariant.within);
      room = omega (arith, c.swap_remove-least.ensures.capacity, c.self.invariant.room);
    }

pub returns-clause-least : goal.returns-clause-least
returns-clause-least c =
    let some : 0 < length c.self.inside.pairs.items = search rules in
    rw (← c.self.view_is) (least_in_order c.self.inside.pairs.items 0 c.swap_remove-least.result some (sym c.swap_remove-least.ensures.value)
    (first_least c.self.inside.pairs.items c.swap_remove-least.result some (sym c.swap_remove-least.ensures.value) c.self.invariant.heap))

pub returns-clause-taken : goal.returns-clause-taken
returns-clause-taken c =
    let some : 0 < length c.self.inside.pairs.items = search rules in
    let is : (with_items c.swap_remove-least.new.self c.sink.new.pairs).items ≡ c.sink.new.pairs =
    with_items_is c.swap_remove-least.new.self c.sink.new.pairs (omega (arith, length_permutation _ _ c.sink.ensures.moved, c.deref_mut.ensures.len)) in
    let moved : IsPermutation c.self.inside.pairs.items (c.swap_remove-least.result ∷ c.sink.new.pairs) =
    moved_behind c.self.inside.pairs.items c.sink.new.pairs c.swap_remove-least.result some c.swap_remove-least.ensures.value
    (subst (λ (xs : List WaitingCcb). IsPermutation xs c.sink.new.pairs) (c.deref_mut.ensures.value ∙ c.swap_remove-least.ensures.items) c.sink.ensures.moved) in
    ap in_order is ∙ (order_taken c.swap_remove-least.result c.self.inside.pairs.items c.sink.new.pairs c.self.invariant.apart moved ∙ ap (without c.swap_remove-least.result.number) c.self.view_is)

pub returns-clause-len : goal.returns-clause-len
returns-clause-len c =
    let is : (with_items c.swap_remove-least.new.self c.sink.new.pairs).items ≡ c.sink.new.pairs =
    with_items_is c.swap_remove-least.new.self c.sink.new.pairs (omega (arith, length_permutation _ _ c.sink.ensures.moved, c.deref_mut.ensures.len)) in
    omega (
      arith,
      ap length (ap in_order is),
      length-in_order c.sink.new.pairs,
      length-in_order c.self.inside.pairs.items,
      ap length c.self.view_is,
      length_permutation _ _ c.sink.ensures.moved,
      c.deref_mut.ensures.len,
      c.swap_remove-least.ensures.len,
    )
