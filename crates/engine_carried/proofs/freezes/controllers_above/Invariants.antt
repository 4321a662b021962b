use Rattle.std.proofs.Common.{◌≡◌}
use Rattle.engine_carried.specs.FreezeAbove.{controllers_above}
use Rattle.engine_carried.proofs.freezes.controllers_above.Given as goal

-- of the controllers so far
abbrev pub invariant-loop-controller : goal.invariant-loop-controller
invariant-loop-controller l = l.least ≡ controllers_above l.controller l.after l.transport.freezes
