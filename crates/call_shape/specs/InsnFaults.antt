-- Which instruction has which fault that an instruction has by itself.
use Rattle.std.specs.Prelude.{ℕ, Bool, List}
use Rattle.bpf_insn.specs.declared.program.Slot.{Slot}
use Rattle.call_shape.specs.declared.insn_faults.InsnFault.{InsnFault}
use Rattle.call_shape.specs.declared.insn_faults.InsnFault.TheVariants.{OpenEnd, TargetOutside, TargetSecondSlot, TargetBackward, NoSuchFunction, LeavesFunction}
use Rattle.call_shape.specs.Shape.{is_open_end, is_outside, is_split, is_backward, is_lost_call, is_leaving}

abbrev pub has_fault : InsnFault → List Slot → ℕ → Bool
has_fault OpenEnd program place = is_open_end program place
has_fault TargetOutside program place = is_outside program place
has_fault TargetSecondSlot program place = is_split program place
has_fault TargetBackward program place = is_backward program place
has_fault NoSuchFunction program place = is_lost_call program place
has_fault LeavesFunction program place = is_leaving program place
