-- How a fault is printed: its number, and after the faults of a line the line's number in decimal.
use Rattle.std.specs.Prelude.{ℕ, List, ◌++◌, codes, decimal}
use Rattle.bpf_asm.specs.declared.fault.LineFault.{LineFault}
use Rattle.bpf_asm.specs.declared.fault.LineFault.TheVariants.{NoToken, NoMnemonic, WrongForm, OutOfRange, LabelDefinedBefore, MissingLabel}
use Rattle.bpf_asm.specs.declared.fault.AsmFault.{AsmFault}
use Rattle.bpf_asm.specs.declared.fault.AsmFault.TheVariants.{At, NoProgram}

abbrev pub line_fault_text : LineFault → List ℕ
line_fault_text NoToken = codes "A1"
line_fault_text NoMnemonic = codes "A2"
line_fault_text WrongForm = codes "A3"
line_fault_text OutOfRange = codes "A4"
line_fault_text LabelDefinedBefore = codes "A5"
line_fault_text MissingLabel = codes "A6"

abbrev pub fault_text : AsmFault → List ℕ
fault_text (At line fault) = line_fault_text fault ++ (codes " at line " ++ decimal line)
fault_text NoProgram = codes "A7"
