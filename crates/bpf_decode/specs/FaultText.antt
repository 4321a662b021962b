-- How a fault is printed: its number, and after the faults of an instruction the slot in decimal.
use Rattle.std.specs.Prelude.{ℕ, List, ◌++◌, codes, decimal}
use Rattle.bpf_decode.specs.declared.fault.InsnFault.{InsnFault}
use Rattle.bpf_decode.specs.declared.fault.InsnFault.TheVariants.{UnknownOpcode, OutsideProfile, NoSuchRegister, UnusedField, NoSuchForm, CutShort, FramePointer}
use Rattle.bpf_decode.specs.declared.fault.DecodeFault.{DecodeFault}
use Rattle.bpf_decode.specs.declared.fault.DecodeFault.TheVariants.{Empty, PartialSlot, TooManySlots, At}

abbrev pub insn_fault_text : InsnFault → List ℕ
insn_fault_text UnknownOpcode = codes "E4"
insn_fault_text OutsideProfile = codes "E5"
insn_fault_text NoSuchRegister = codes "E6"
insn_fault_text UnusedField = codes "E7"
insn_fault_text NoSuchForm = codes "E8"
insn_fault_text CutShort = codes "E9"
insn_fault_text FramePointer = codes "E10"

abbrev pub fault_text : DecodeFault → List ℕ
fault_text Empty = codes "E1"
fault_text PartialSlot = codes "E2"
fault_text TooManySlots = codes "E3"
fault_text (At slot fault) = insn_fault_text fault ++ (codes " at " ++ decimal slot)
