use Rattle.std.proofs.Common.{refl, ◌∙◌, arith}
use Rattle.std.proofs.lemmas.List.Sorted.{IsPermutation-trans}
use Rattle.dev_queue.specs.Heap.{IsFirstUnder}
use Rattle.dev_queue.proofs.Standing.{sunk, read_as, level_down}
use Rattle.dev_queue.proofs.waiting_heap.sink.Goals as goal

pub loop-level-preserved : goal.loop-level-preserved
loop-level-preserved c =
    let first : IsFirstUnder c.loop-level.pairs c.loop-level.place c.in-Some.first = c.in-Some.ensures.first in
    record {
      long = c.swap.ensures.len ∙ c.loop-level.invariant.long;
      inside = omega (arith, c.swap.ensures.len, first.inside);
      moved = IsPermutation-trans _ _ _ c.loop-level.invariant.moved c.swap.ensures.permutation;
      others = sunk c.loop-level.pairs c.swap.new.self c.loop-level.place c.in-Some.first c.loop-level.invariant.others first
          (λ d. read_as c.loop-level.pairs c.in-Some.first c.loop-level.place _ _ d first.inside (omega (arith, first.under, first.inside)) (c.if-not-starts_before.ensures.before refl)) c.swap.ensures.after;
      few = omega (arith, c.in-Some.ensures.counted);
      level = level_down c.loop-level.level c.loop-level.place c.in-Some.first c.loop-level.invariant.level first.under;
    }
