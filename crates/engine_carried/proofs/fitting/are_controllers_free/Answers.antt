use Rattle.std.proofs.Common.{◌≡◌, below_more, sym, ◌∙◌, arith}
use Rattle.engine_carried.proofs.fitting.are_controllers_free.Goals as goal

pub loop-controller-preserved : goal.loop-controller-preserved
loop-controller-preserved c =
    below_more _ _ c.loop-controller.invariant (λ from.
    let none : c.controller_frozen.result ≡ 0 = omega (arith, c.if-controller_frozen-gt0.false) in
    sym c.controller_frozen.ensures ∙ none)
