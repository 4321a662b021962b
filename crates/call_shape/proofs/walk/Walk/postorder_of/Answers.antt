use Rattle.std.proofs.Common.{◌≡◌, ◌+◌, subst, sym, ◌∙◌, arith, length}
use Rattle.call_shape.specs.Calls.{function_of}
use Rattle.call_shape.specs.declared.walk.Walk.{Walk}
use Rattle.call_shape.proofs.SlotFunctions.{own_function}
use Rattle.call_shape.proofs.Walks.Whole.{IsSettling, starts_itself, settling_first, settling_more, settling_past, settles_all}
use Rattle.call_shape.proofs.walk.Walk.postorder_of.Goals as goal
use Rattle.call_shape.proofs.walk.Walk.postorder_of.Goals.{then-from-function+then-not-walk-function+in_ok-visit, else-from-function, else-from-function-via-then-from-function+else-not-walk-function, else-from-function-via-else-from-function}

pub loop-function-init : goal.loop-function-init
loop-function-init c = settling_first c.args.program.now c.new-walk.result c.new-walk.ensures.entered c.new-walk.ensures.settled c.new-walk.ensures.places c.new-walk.ensures.empty

pub visit-requires-clause-starts : goal.visit-requires-clause-starts
visit-requires-clause-starts c =
    let read = c.requires.functions.each c.loop-function.function (omega (arith, c.len-function-end.ensures.slots)) in
    starts_itself c.args.program.now c.loop-function.function (sym read ∙ sym c.from.ensures ∙ c.if-from-function.true)

pub loop-function-preserved : goal.loop-function-preserved
loop-function-preserved c =
    let program = c.args.program.now in
    let function = c.loop-function.function in
    let read : c.from.result ≡ function_of program function = c.from.ensures ∙ c.requires.functions.each function (omega (arith, c.len-function-end.ensures.slots)) in
    elim c.if-from-function.branch [
      | then-from-function+then-not-walk-function+in_ok-visit w ↦
          subst (λ (walk : Walk). IsSettling program walk (function + 1)) (sym w.walk-is)
          (settling_more program c.loop-function.walk w.visit.new.self function c.loop-function.invariant w.in_ok-visit.ensures.walk w.in_ok-visit.ensures.settled w.in_ok-visit.ensures.goes_on)
      | else-from-function w ↦
          subst (λ (walk : Walk). IsSettling program walk (function + 1)) (sym w.walk-is)
          (settling_past program c.loop-function.walk function c.loop-function.invariant (λ starts. elim w.else-from-function.branch [
            | else-from-function-via-then-from-function+else-not-walk-function w' ↦ c.loop-function.invariant.closed function w'.if-not-walk-function.false
            | else-from-function-via-else-from-function w' ↦ absurd (w'.if-from-function.false (read ∙ own_function program function starts))
          ]))
    ]

pub returns-clause-order : goal.returns-clause-order
returns-clause-order c = settles_all c.args.program.now c.loop-function.walk
    (subst (IsSettling c.args.program.now c.loop-function.walk) (let e : c.loop-function.function ≡ length c.args.program.now = omega (arith, c.len-function-end.ensures.slots) in e) c.loop-function.invariant)
