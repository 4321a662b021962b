use Rattle.std.proofs.Common.{◌≡◌, ◌+◌, ◌-◌, ◌<◌, true, is_some, ap, sym, subst, ◌∙◌, arith}
use Rattle.bpf_insn.specs.declared.program.TheConstants.{MAX_SLOTS}
use Rattle.call_shape.specs.Calls.{begins, function_of}
use Rattle.call_shape.specs.Walk.{OpenComeTo, marked}
use Rattle.call_shape.proofs.Places.{begins_inside}
use Rattle.call_shape.proofs.SlotFunctions.{own_function, callee_starts, start_begins}
use Rattle.call_shape.proofs.Contained.{calls_insn}
use Rattle.call_shape.proofs.Marks.{marked_at_most}
use Rattle.call_shape.proofs.Walks.Steps.{visiting_first, visiting_more, still_left, open_still, open_at_callee, visited_on, room, fewer_left}
use Rattle.call_shape.proofs.walk.Walk.+walk.Goals as goal

pub visit-function_end-place-requires-clause-function : goal.visit-function_end-place-requires-clause-function
visit-function_end-place-requires-clause-function t c = own_function c.args.program.now c.args.function c.requires.starts

pub visit-loop-place-init : goal.visit-loop-place-init
visit-loop-place-init t c =
    visiting_first c.args.program.now c.args.function c.function_end-place.result c.args.self.now c.requires.walk
    (omega (arith, c.requires.inside, c.requires.program.in_range.1)) c.requires.fresh c.function_end-place.ensures.others

pub visit-visit_callee-requires : goal.visit-visit_callee-requires
visit-visit_callee-requires t c =
    let program = c.args.program.now in
    let function = c.args.function in
    let now = c.loop-place.self in
    let inside : function < MAX_SLOTS = omega (arith, c.requires.inside, c.requires.program.in_range.1) in
    let of : function_of program (c.loop-place.place - 1) ≡ function = c.function_end-place.ensures.own (c.loop-place.place - 1) (omega arith) (omega arith) in
    let entered = fewer_left program function c.loop-place.place c.args.self.now now c.loop-place.invariant c.requires.walk inside c.requires.fresh in
    let fits : marked now.entered < MAX_SLOTS + 1 = omega (arith, marked_at_most now.entered, c.loop-place.invariant.walk.entered_whole) in (
      omega (arith, c.decreases),
      (
        c.requires.program,
        (
          c.requires.functions,
          (
            c.requires.found,
            (
              c.loop-place.invariant.walk,
              subst (OpenComeTo program now) (sym of) (open_still program c.args.self.now now function c.requires.open_ones c.loop-place.invariant.goes_on),
            ),
          ),
        ),
      ),
    )

pub visit-settle-requires-clause-room : goal.visit-settle-requires-clause-room
visit-settle-requires-clause-room t c =
    let program = c.args.program.now in
    let function = c.args.function in
    let inside : function < MAX_SLOTS = omega (arith, c.requires.inside, c.requires.program.in_range.1) in
    let of : function_of program (c.loop-place.place - 1) ≡ function = c.function_end-place.ensures.own (c.loop-place.place - 1) (omega arith) (omega arith) in
    room program c.visit_callee.new.self (c.loop-place.place - 1) c.in_ok-visit_callee.ensures.walk (omega (arith, c.requires.program.in_range.1))
    (still_left program function c.loop-place.place c.args.self.now c.loop-place.self c.visit_callee.new.self c.loop-place.invariant
    (omega (arith, inside, c.requires.walk.entered_whole)) (omega arith) of c.in_ok-visit_callee.ensures.goes_on)

pub visit-loop-place-preserved-then-is_some : goal.visit-loop-place-preserved-then-is_some
visit-loop-place-preserved-then-is_some t c =
    let program = c.args.program.now in
    let function = c.args.function in
    let inside : function < MAX_SLOTS = omega (arith, c.requires.inside, c.requires.program.in_range.1) in
    let of : function_of program (c.loop-place.place - 1) ≡ function = c.function_end-place.ensures.own (c.loop-place.place - 1) (omega arith) (omega arith) in
    let there : begins program (c.loop-place.place - 1) ≡ true = ap is_some (sym c.fetch.ensures.value) ∙ sym c.if-is_some.ensures in
    rw c.settle.ensures
    (visiting_more program function c.loop-place.place c.args.self.now c.loop-place.self c.visit_callee.new.self c.loop-place.invariant c.requires.walk
    inside (omega arith) (omega (arith, c.requires.program.in_range.1)) there of c.in_ok-visit_callee.ensures.walk c.in_ok-visit_callee.ensures.goes_on c.in_ok-visit_callee.ensures.settled)

pub visit-returns-clause-settled : goal.visit-returns-clause-settled
visit-returns-clause-settled t c =
    c.loop-place.invariant.done c.args.function (omega arith) (start_begins c.args.program.now c.args.function c.requires.program c.requires.starts)
    (own_function c.args.program.now c.args.function c.requires.starts)

pub visit-returns-clause-goes_on : goal.visit-returns-clause-goes_on
visit-returns-clause-goes_on t c =
    let program = c.args.program.now in
    let function = c.args.function in
    let settled = c.loop-place.invariant.done function (omega arith) (start_begins program function c.requires.program c.requires.starts) (own_function program function c.requires.starts) in
    visited_on program c.args.self.now c.loop-place.self function (omega (arith, c.requires.inside, c.requires.program.in_range.1, c.requires.walk.entered_whole))
    c.requires.fresh settled c.loop-place.invariant.goes_on

pub visit_callee-visit-requires : goal.visit_callee-visit-requires
visit_callee-visit-requires t c =
    let program = c.args.program.now in
    let callee = c.in-Some.callee in
    let there = calls_insn program c.args.place callee c.requires.found (sym c.in-Some.ensures) in (
      omega (arith, c.decreases),
      (
        c.requires.program,
        (
          c.requires.functions,
          (
            c.requires.found,
            (
              callee_starts program c.args.place callee there (sym c.in-Some.ensures),
              (begins_inside program callee there, (c.if-self-callee-2.false, (c.requires.walk, open_at_callee program c.args.self.now c.args.place callee c.requires.open_ones (sym c.in-Some.ensures)))),
            ),
          ),
        ),
      ),
    )
