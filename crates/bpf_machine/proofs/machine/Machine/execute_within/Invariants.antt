use Rattle.std.proofs.Common.{◌≡◌, ◌+◌, ◌-◌, length}
use Rattle.bpf_semantics.specs.Reached.{PrivateSteps}
use Rattle.bpf_machine.specs.Unchecked.{standing}
use Rattle.bpf_machine.proofs.machine.Machine.execute_within.Given as goal

-- so many private instructions lead to this place, these registers and these frames
abbrev pub invariant-loop-next : goal.invariant-loop-next
invariant-loop-next l = record {
  there : PrivateSteps l.program l.steps l.fn.self (standing l.fn.self l.place l.registers l.self-inside.frames);
  each : length l.self-inside.frames ≡ length l.self-inside.open_calls + 1;
  context : l.self-inside.context ≡ l.fn.self.context;
  open_calls : l.self-inside.open_calls ≡ l.fn.self.open_calls;
  held : l.self-inside.held ≡ l.fn.self.held;
  disposed : l.self-inside.disposed ≡ l.fn.self.disposed;
}

abbrev pub decreases-loop-next : goal.decreases-loop-next
decreases-loop-next l = l.budget - l.steps
