-- Where control may go from an instruction, whatever the machine.
use Rattle.std.specs.Prelude.{ℕ, ◌+◌}
use Rattle.bpf_insn.specs.declared.insn.Insn.{Insn}
use Rattle.bpf_insn.specs.declared.insn.Insn.TheVariants.{Alu, InPlace, SignExtend, JumpIf, Jump, LoadImmediate, Load, Store, Call, Exit}
use Rattle.bpf_insn.specs.declared.insn.Callee.TheVariants.{Helper, Local}
use Rattle.bpf_insn.specs.Target.{target, distance_of}
use Rattle.call_shape.specs.declared.onward.Onward.{Onward}
use Rattle.call_shape.specs.declared.onward.Onward.TheVariants.{Leaves, Continues, Branches, Enters}

abbrev pub onward : ℕ → Insn → Onward
onward place Exit = Leaves
onward place (Jump distance) = Continues (target place (distance_of distance))
onward place (JumpIf width condition dst src offset) = Branches (place + 1) (target place offset)
onward place (Call (Local distance)) = Enters (target place distance) (place + 1)
onward place (Call (Helper number)) = Continues (place + 1)
onward place (LoadImmediate dst value) = Continues (place + 2)
onward place (Alu width op dst src) = Continues (place + 1)
onward place (InPlace op dst) = Continues (place + 1)
onward place (SignExtend extension dst src) = Continues (place + 1)
onward place (Load form dst src offset) = Continues (place + 1)
onward place (Store size dst src offset) = Continues (place + 1)
