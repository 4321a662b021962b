use Rattle.std.proofs.Common.{◌≡◌, ℕ, ◌↔◌, IsTrue, subst, sym, ◌∙◌, arith}
use Rattle.call_shape.specs.Calls.{function_of, IsOnCycle}
use Rattle.call_shape.specs.Walk.{is_marked}
use Rattle.call_shape.proofs.Places.{begins_inside}
use Rattle.call_shape.proofs.SlotFunctions.{callee_starts, function_before}
use Rattle.call_shape.proofs.Contained.{calls_insn}
use Rattle.call_shape.proofs.Marks.{none_marked}
use Rattle.call_shape.proofs.ReachSteps.{comes_back}
use Rattle.call_shape.proofs.cycle.is_on_cycle.Goals as goal

pub reach-requires-clause-starts : goal.reach-requires-clause-starts
reach-requires-clause-starts c =
    callee_starts c.args.program.now c.args.place c.in-Some.callee (calls_insn c.args.program.now c.args.place c.in-Some.callee c.requires.found (sym c.in-Some.ensures)) (sym c.in-Some.ensures)

pub reach-requires-clause-inside : goal.reach-requires-clause-inside
reach-requires-clause-inside c =
    begins_inside c.args.program.now c.in-Some.callee (calls_insn c.args.program.now c.args.place c.in-Some.callee c.requires.found (sym c.in-Some.ensures))

pub reach-requires-clause-fresh : goal.reach-requires-clause-fresh
reach-requires-clause-fresh c = none_marked 4096 c.in-Some.callee

pub bounds-reached-from : goal.bounds-reached-from
bounds-reached-from c =
    omega (arith, c.from.ensures, c.requires.functions.each c.args.place c.requires.inside, function_before c.args.program.now c.args.place, c.requires.program.in_range.1)

pub returns : goal.returns
returns c =
    let program = c.args.program.now in
    let at : c.from.result ≡ function_of program c.args.place = c.from.ensures ∙ c.requires.functions.each c.args.place c.requires.inside in
    subst (λ (k : ℕ). IsTrue (is_marked c.reach.new.reached k) ↔ IsOnCycle program c.args.place) (sym at)
    (comes_back program c.args.place c.in-Some.callee _ c.reach.new.reached (sym c.in-Some.ensures) (λ slot. none_marked 4096 slot) c.reach.ensures)
