-- Which ways an instruction has, and whether it stays in its function.
use Rattle.std.specs.Prelude.{◌≡◌, List, [], Bool, true, false}
use Rattle.bpf_insn.specs.declared.insn.Callee.TheVariants.{Helper, Local}
use Rattle.bpf_insn.specs.declared.insn.Insn.{Insn}
use Rattle.bpf_insn.specs.declared.insn.Insn.TheVariants.{Alu, InPlace, SignExtend, JumpIf, Jump, LoadImmediate, Load, Store, Call, Exit}
use Rattle.check_description.specs.declared.saved.SavedRegisters.{SavedRegisters}
use Rattle.check_private_insns.specs.declared.way.Way.{Way}
use Rattle.check_private_insns.specs.declared.way.Way.TheVariants.{FallThrough, Taken}

-- the instruction stays in its function: it is no local call, and no exit where a function waits
abbrev pub Stays : List SavedRegisters → Insn → Type 0
Stays callers (Alu width op dst src) = Unit {0}
Stays callers (InPlace op dst) = Unit {0}
Stays callers (SignExtend extension dst src) = Unit {0}
Stays callers (JumpIf width condition dst src offset) = Unit {0}
Stays callers (Jump distance) = Unit {0}
Stays callers (LoadImmediate dst value) = Unit {0}
Stays callers (Load form dst src offset) = Unit {0}
Stays callers (Store size dst src offset) = Unit {0}
Stays callers (Call (Helper number)) = Unit {0}
Stays callers (Call (Local distance)) = ⊥
Stays callers Exit = callers ≡ []

-- it stores to memory
abbrev pub IsStore : Insn → Type 0
IsStore (Alu width op dst src) = ⊥
IsStore (InPlace op dst) = ⊥
IsStore (SignExtend extension dst src) = ⊥
IsStore (JumpIf width condition dst src offset) = ⊥
IsStore (Jump distance) = ⊥
IsStore (LoadImmediate dst value) = ⊥
IsStore (Load form dst src offset) = ⊥
IsStore (Store size dst src offset) = Unit {0}
IsStore (Call callee) = ⊥
IsStore Exit = ⊥

-- whether it leads to the next instruction
abbrev pub falls_through : Insn → Bool
falls_through (Alu width op dst src) = true
falls_through (InPlace op dst) = true
falls_through (SignExtend extension dst src) = true
falls_through (JumpIf width condition dst src offset) = true
falls_through (Jump distance) = false
falls_through (LoadImmediate dst value) = true
falls_through (Load form dst src offset) = true
falls_through (Store size dst src offset) = true
falls_through (Call callee) = true
falls_through Exit = false

abbrev pub is_jump : Insn → Bool
is_jump (Alu width op dst src) = false
is_jump (InPlace op dst) = false
is_jump (SignExtend extension dst src) = false
is_jump (JumpIf width condition dst src offset) = true
is_jump (Jump distance) = true
is_jump (LoadImmediate dst value) = false
is_jump (Load form dst src offset) = false
is_jump (Store size dst src offset) = false
is_jump (Call callee) = false
is_jump Exit = false

-- the instruction may lead that way
abbrev pub HasWay : Insn → Way → Type 0
HasWay insn FallThrough = falls_through insn ≡ true
HasWay insn Taken = is_jump insn ≡ true
