use Rattle.std.proofs.Common.{refl}
use Rattle.bpf_machine.proofs.machine.first_registers.Goals as goal

pub returns : goal.returns
returns c = rw (c.set-3.ensures, c.set-2.ensures, c.set.ensures, c.unwritten-registers.ensures, c.from.ensures) refl
