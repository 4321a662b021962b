use Rattle.engine_carried.specs.Left.{ControllersAreFree}
use Rattle.engine_carried.proofs.fitting.are_controllers_free.Given as goal

-- the controllers so far are not frozen
abbrev pub invariant-loop-controller : goal.invariant-loop-controller
invariant-loop-controller l = ControllersAreFree l.transport l.from l.controller
