use Rattle.std.proofs.Common.{◌≡◌, ◌<◌, List, [], ◌∷◌, ◌++◌, length, false, ap, ◌∙◌, sym, subst, arith}
use Rattle.std.proofs.lemmas.List.{with_items_is}
use Rattle.std.proofs.lemmas.List.Sorted.{length_permutation}
use Rattle.std.specs.List.Sorted.{IsPermutation}
use Rattle.std.specs.Vec.{with_items}
use Rattle.dev_queue.specs.declared.waiting_ccb.WaitingCcb.{WaitingCcb}
use Rattle.dev_queue.specs.Heap.{IsHeap}
use Rattle.dev_queue.specs.Waiting.{AreApart, waits, with_pair, in_order}
use Rattle.dev_queue.proofs.Order.{length-in_order, length-with_pair, apart_added, order_added}
use Rattle.dev_queue.proofs.waiting_heap.WaitingHeap.add.Goals as goal

pub unreachable-requires : goal.unreachable-requires
unreachable-requires c =
    let few : length (in_order c.self.inside.pairs.items) < 256 = rw c.self.view_is c.requires.room in
    omega (arith, length-in_order c.self.inside.pairs.items, few, c.in_default.ensures.full, c.self.invariant.room)

pub rise-requires-clause-few : goal.rise-requires-clause-few
rise-requires-clause-few c =
    let few : length (in_order c.self.inside.pairs.items) < 256 = rw c.self.view_is c.requires.room in
    omega (arith, length-in_order c.self.inside.pairs.items, few, ap length c.deref_mut.ensures.value, c.in-Ok.ensures.len)

pub invariant_of-self : goal.invariant_of-self
invariant_of-self c =
    let new : waits c.args.pair.number (in_order c.self.inside.pairs.items) ≡ false = rw c.self.view_is c.requires.new in
    let few : length (in_order c.self.inside.pairs.items) < 256 = rw c.self.view_is c.requires.room in
    let is : (with_items c.push.new.self c.rise.new.pairs).items ≡ c.rise.new.pairs =
    with_items_is c.push.new.self c.rise.new.pairs (omega (arith, length_permutation _ _ c.rise.ensures.moved, c.deref_mut.ensures.len)) in
    let moved : IsPermutation (c.self.inside.pairs.items ++ c.args.pair ∷ []) c.rise.new.pairs =
    subst (λ (xs : List WaitingCcb). IsPermutation xs c.rise.new.pairs) (c.deref_mut.ensures.value ∙ c.in-Ok.ensures.items) c.rise.ensures.moved in
    record {
      heap = subst IsHeap (sym is) c.rise.ensures.heap;
      apart = subst AreApart (sym is) (apart_added c.args.pair c.self.inside.pairs.items c.rise.new.pairs c.self.invariant.apart new moved);
      within = omega (arith, ap length is, length_permutation _ _ c.rise.ensures.moved, c.deref_mut.ensures.len, c.in-Ok.ensures.len, length-in_order c.self.inside.pairs.items, few);
      room = omega (arith, c.in-Ok.ensures.capacity, c.push.ensures.capacity, c.self.invariant.room);
    }

pub returns-clause-added : goal.returns-clause-added
returns-clause-added c =
    let new : waits c.args.pair.number (in_order c.self.inside.pairs.items) ≡ false = rw c.self.view_is c.requires.new in
    let is : (with_items c.push.new.self c.rise.new.pairs).items ≡ c.rise.new.pairs =
    with_items_is c.push.new.self c.rise.new.pairs (omega (arith, length_permutation _ _ c.rise.ensures.moved, c.deref_mut.ensures.len)) in
    let moved : IsPermutation (c.self.inside.pairs.items ++ c.args.pair ∷ []) c.rise.new.pairs =
    subst (λ (xs : List WaitingCcb). IsPermutation xs c.rise.new.pairs) (c.deref_mut.ensures.value ∙ c.in-Ok.ensures.items) c.rise.ensures.moved in
    ap in_order is ∙ (order_added c.args.pair c.self.inside.pairs.items c.rise.new.pairs c.self.invariant.apart new moved ∙ ap (with_pair c.args.pair) c.self.view_is)

pub returns-clause-len : goal.returns-clause-len
returns-clause-len c = ap length (returns-clause-added c) ∙ length-with_pair c.args.pair c.args.self.now
