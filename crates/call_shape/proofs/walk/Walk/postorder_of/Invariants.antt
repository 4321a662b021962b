use Rattle.call_shape.proofs.Walks.Whole.{IsSettling}
use Rattle.call_shape.proofs.walk.Walk.postorder_of.Given as goal

abbrev pub invariant-loop-function : goal.invariant-loop-function
invariant-loop-function l = IsSettling l.program l.walk l.function
