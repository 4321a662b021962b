use Rattle.std.proofs.Common.{◌+◌, ◌-◌, ◌*◌}
use Rattle.bpf_insn.specs.declared.program.TheConstants.{MAX_SLOTS}
use Rattle.call_shape.specs.Walk.{marked}
use Rattle.call_shape.proofs.Walks.Steps.{IsVisiting}
use Rattle.call_shape.proofs.walk.Walk.+walk.Given as goal

-- each visit enters a function
abbrev pub decreases-visit : goal.decreases-visit
decreases-visit l = 2 * (MAX_SLOTS - marked l.self.now.entered)

abbrev pub decreases-visit_callee : goal.decreases-visit_callee
decreases-visit_callee l = 2 * (MAX_SLOTS - marked l.self.now.entered) + 1

abbrev pub invariant-visit-loop-place : goal.invariant-visit-loop-place
invariant-visit-loop-place l = IsVisiting l.program l.function l.fn.self l.self l.place
