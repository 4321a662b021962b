use Rattle.std.proofs.Common.{◌<◌, length, sym, arith, ◌+◌}
use Rattle.bpf_insn.specs.declared.program.TheConstants.{MAX_SLOTS}
use Rattle.call_shape.specs.Walk.{marked}
use Rattle.call_shape.proofs.Places.{begins_inside}
use Rattle.call_shape.proofs.SlotFunctions.{callee_starts}
use Rattle.call_shape.proofs.Contained.{calls_insn}
use Rattle.call_shape.proofs.Marks.{marked_at_most}
use Rattle.call_shape.proofs.ReachSteps.{reaching_first, reaching_more, reaching_last, more_marked}
use Rattle.call_shape.proofs.cycle.+reach.Goals as goal

pub reach-loop-place-init : goal.reach-loop-place-init
reach-loop-place-init t c =
    reaching_first c.args.program.now c.args.function c.args.reached.now (omega (arith, c.requires.inside, c.requires.program.in_range.1, c.told-reached))

pub reach-reach_callee-requires : goal.reach-reach_callee-requires
reach-reach_callee-requires t c =
    let start = c.args.reached.now in
    let now = c.loop-place.reached in
    let inside : c.args.function < length start = omega (arith, c.requires.inside, c.requires.program.in_range.1, c.told-reached) in
    let more = more_marked c.args.program.now c.args.function c.loop-place.place start now inside c.requires.fresh c.loop-place.invariant in
    let most : marked now < MAX_SLOTS + 1 = omega (arith, marked_at_most now, c.loop-place.invariant.whole, c.told-reached) in
    (omega (arith, c.decreases), (c.requires.program, (c.requires.functions, c.requires.found)))

pub reach-loop-place-preserved : goal.reach-loop-place-preserved
reach-loop-place-preserved t c =
    let own = c.function_end-place-end.ensures.own c.loop-place.place (omega arith) (omega arith) in
    reaching_more c.args.program.now c.args.function c.loop-place.place c.args.reached.now c.loop-place.reached c.reach_callee.new.reached
    (omega (arith, c.requires.inside, c.requires.program.in_range.1, c.told-reached)) own c.loop-place.invariant c.reach_callee.ensures

pub reach-returns : goal.reach-returns
reach-returns t c =
    reaching_last c.args.program.now c.args.function c.loop-place.place c.args.reached.now c.loop-place.reached
    (omega (arith, c.requires.inside, c.requires.program.in_range.1, c.told-reached))
    (λ k lt of. omega (arith, c.function_end-place-end.ensures.others k lt of)) c.loop-place.invariant

pub reach_callee-reach-requires : goal.reach_callee-reach-requires
reach_callee-reach-requires t c =
    let program = c.args.program.now in
    let callee = c.in-Some.callee in
    let there = calls_insn program c.args.place callee c.requires.found (sym c.in-Some.ensures) in (
      omega (arith, c.decreases),
      (
        c.requires.program,
        (
          c.requires.functions,
          (
            c.requires.found,
            (callee_starts program c.args.place callee there (sym c.in-Some.ensures), (begins_inside program callee there, c.if-not-reached-callee.true)),
          ),
        ),
      ),
    )
