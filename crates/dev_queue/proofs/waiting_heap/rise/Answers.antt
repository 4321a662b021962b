use Rattle.std.proofs.Common.{◌≡◌, ◌-◌, ◌/◌, ◌^◌, ◌<◌, refl, ap, arith}
use Rattle.std.proofs.lemmas.List.Sorted.{IsPermutation-trans}
use Rattle.dev_queue.specs.Heap.{IsUnder}
use Rattle.dev_queue.proofs.Standing.{risen, read_as, level_up}
use Rattle.dev_queue.proofs.waiting_heap.rise.Goals as goal

pub loop-place-preserved : goal.loop-place-preserved
loop-place-preserved c =
    let some : 0 < c.loop-place.place = omega arith in
    let under : IsUnder ((c.loop-place.place - 1) / 2) c.loop-place.place = (omega arith, omega arith) in
    let level = level_up (8 - c.loop-place.steps) c.loop-place.place ((c.loop-place.place - 1) / 2) c.loop-place.invariant.level some under in
    let next : 8 - c.loop-place.steps - 1 ≡ 8 - c.starts_before.new.steps = omega arith in
    record {
      inside = omega (arith, c.swap.ensures.len);
      moved = IsPermutation-trans _ _ _ c.loop-place.invariant.moved c.swap.ensures.permutation;
      others = risen c.loop-place.pairs c.swap.new.self c.loop-place.place ((c.loop-place.place - 1) / 2) c.loop-place.invariant.others under c.loop-place.invariant.inside
          (λ d. read_as c.loop-place.pairs c.loop-place.place ((c.loop-place.place - 1) / 2) _ _ d c.loop-place.invariant.inside (omega arith) (c.if-not-starts_before.ensures.before refl)) c.swap.ensures.after;
      few = omega (arith, level.0);
      level = omega (arith, level.1, ap (λ n. 2 ^ n) next);
    }
