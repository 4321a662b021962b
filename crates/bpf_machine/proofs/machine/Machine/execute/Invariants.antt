use Rattle.std.proofs.Common.{◌-◌, ◌<◌}
use Rattle.bpf_semantics.specs.Reached.{PrivateSteps}
use Rattle.bpf_machine.proofs.machine.Machine.execute.Given as goal

-- so many private instructions lead here, and there is room for one more
abbrev pub invariant-loop-budget : goal.invariant-loop-budget
invariant-loop-budget l = record {
  there : PrivateSteps l.program l.steps l.fn.self l.self;
  room : l.steps < l.budget;
}

abbrev pub decreases-loop-budget : goal.decreases-loop-budget
decreases-loop-budget l = l.budget - l.steps
