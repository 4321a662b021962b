use Rattle.std.proofs.Common.{◌+◌, ◌-◌, ◌*◌}
use Rattle.bpf_insn.specs.declared.program.TheConstants.{MAX_SLOTS}
use Rattle.call_shape.specs.Walk.{marked}
use Rattle.call_shape.proofs.ReachSteps.{IsReaching}
use Rattle.call_shape.proofs.cycle.+reach.Given as goal

-- each step marks a function
abbrev pub decreases-reach : goal.decreases-reach
decreases-reach l = 2 * (MAX_SLOTS - marked l.reached.now)

abbrev pub decreases-reach_callee : goal.decreases-reach_callee
decreases-reach_callee l = 2 * (MAX_SLOTS - marked l.reached.now) + 1

abbrev pub invariant-reach-loop-place : goal.invariant-reach-loop-place
invariant-reach-loop-place l = IsReaching l.program l.function l.fn.reached l.reached l.place
