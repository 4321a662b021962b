use Rattle.std.proofs.Common.{◌-◌, ◌/◌, ◌<◌, ◌∙◌, refl, arith}
use Rattle.std.proofs.lemmas.List.Sorted.{IsPermutation-refl, IsPermutation-trans}
use Rattle.dev_queue.specs.Heap.{IsUnder}
use Rattle.dev_queue.proofs.Standing.{lifted, lifted_is, sinks_anywhere}
use Rattle.dev_queue.proofs.waiting_heap.lift.Goals as goal

pub loop-here-init : goal.loop-here-init
loop-here-init c = record {
  inside = c.requires.inside;
  moved = IsPermutation-refl c.args.pairs.now;
  others = sinks_anywhere c.args.pairs.now c.args.place c.requires.heap;
  is = λ d. refl;
}

pub loop-here-preserved : goal.loop-here-preserved
loop-here-preserved c =
    let some : 0 < c.loop-here.here = omega arith in
    let under : IsUnder ((c.loop-here.here - 1) / 2) c.loop-here.here = (omega arith, omega arith) in
    record {
      inside = omega (arith, c.swap.ensures.len, c.loop-here.invariant.inside);
      moved = IsPermutation-trans _ _ _ c.loop-here.invariant.moved c.swap.ensures.permutation;
      others = lifted c.loop-here.pairs c.swap.new.self c.loop-here.here ((c.loop-here.here - 1) / 2) c.loop-here.invariant.others under c.loop-here.invariant.inside c.swap.ensures.after;
      is = λ d. lifted_is c.loop-here.pairs c.swap.new.self c.loop-here.here ((c.loop-here.here - 1) / 2) d under c.loop-here.invariant.inside c.swap.ensures.after ∙ c.loop-here.invariant.is d;
    }
