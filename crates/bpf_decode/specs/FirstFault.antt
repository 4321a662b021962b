-- Which fault is named of bytes that spell no program.
use Rattle.std.specs.Prelude.{◌≡◌, ◌≢◌, ◌<◌, ◌≤◌, ℕ, ◌*◌, ◌%◌, List, length, Option, Some}
use Rattle.bpf_insn.specs.declared.insn.Insn.{Insn}
use Rattle.bpf_insn.specs.declared.program.TheConstants.{MAX_SLOTS}
use Rattle.bpf_insn.specs.Program.{layout, SparesFramePointer}
use Rattle.bpf_decode.specs.declared.fault.DecodeFault.{DecodeFault}
use Rattle.bpf_decode.specs.declared.fault.DecodeFault.TheVariants.{Empty, PartialSlot, TooManySlots, At}
use Rattle.bpf_decode.specs.declared.fault.InsnFault.{InsnFault}
use Rattle.bpf_decode.specs.Fields.{fields_of, fields_behind}
use Rattle.bpf_decode.specs.FieldTests.{fault_of}
use Rattle.bpf_decode.specs.Spells.{SpellsThen}

-- 1 to MAX_SLOTS whole slots
abbrev pub IsWhole : List ℕ → Type 0
IsWhole bytes = (0 < length bytes) × (length bytes % 8 ≡ 0) × (length bytes ≤ 8 * MAX_SLOTS)

-- the fault of the instruction with which bytes begin
abbrev pub fault_at : List ℕ → Option InsnFault
fault_at bytes = fault_of (fields_of bytes) (fields_behind bytes)

-- Instructions without a fault are spelled up to a slot, and the one that begins there has the fault.
pub record FaultAt (bytes : List ℕ) (slot : ℕ) (fault : InsnFault) : Type 0 where
  pub insns : List Insn
  pub rest : List ℕ
  pub before : SpellsThen bytes insns rest
  pub spares : SparesFramePointer insns
  pub slots : length (layout insns) ≡ slot
  pub here : 8 ≤ length rest
  pub has : fault_at rest ≡ Some fault

-- E1, E2 and E3 in this order, and then the first faulty instruction
abbrev pub HasFault : List ℕ → DecodeFault → Type 0
HasFault bytes Empty = length bytes ≡ 0
HasFault bytes PartialSlot = length bytes % 8 ≢ 0
HasFault bytes TooManySlots = (length bytes % 8 ≡ 0) × (8 * MAX_SLOTS < length bytes)
HasFault bytes (At slot fault) = IsWhole bytes × FaultAt bytes slot fault
