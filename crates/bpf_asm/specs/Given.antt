-- How what calls give meets what the definitions give.
use Rattle.std.specs.Prelude.{◌≡◌, false, Option, Some, None, Result, Ok, Err}
use Rattle.bpf_insn.specs.Program.{writes_frame_pointer}
use Rattle.bpf_insn.specs.declared.insn.Insn.{Insn}
use Rattle.base.specs.declared.or_memory.OrMemory.{OrMemory}
use Rattle.base.specs.declared.or_memory.OrMemory.TheVariants.{OutOfMemory, Fault}
use Rattle.bpf_asm.specs.declared.fault.LineFault.{LineFault}
use Rattle.bpf_asm.specs.declared.fault.AsmFault.{AsmFault}

-- what a call read, seen by view, is what reading gives
abbrev pub ReadsAs : {X Y : Type 0} → (X → Y) → Option X → Option Y → Type 0
ReadsAs view None read = read ≡ None
ReadsAs view (Some x) read = read ≡ Some (view x)

-- an instruction that is made does not write R10
abbrev pub SparesMade : Result Insn LineFault → Type 0
SparesMade (Ok insn) = writes_frame_pointer insn ≡ false
SparesMade (Err fault) = Unit {0}

abbrev pub Spares : Option (Result Insn LineFault) → Type 0
Spares None = Unit {0}
Spares (Some made) = SparesMade made

-- an instruction that a line says does not write R10
abbrev pub SparesSaid : Result (Option Insn) LineFault → Type 0
SparesSaid (Ok (Some insn)) = writes_frame_pointer insn ≡ false
SparesSaid (Ok None) = Unit {0}
SparesSaid (Err fault) = Unit {0}

-- What a call gave, seen by view, is what the definition gives, unless memory was refused.
abbrev pub Fails : {Y : Type 0} → OrMemory AsmFault → Result Y AsmFault → Type 0
Fails OutOfMemory given = Unit {0}
Fails (Fault fault) given = given ≡ Err fault

-- P of the fault, if the error is one
abbrev pub IfFault : (AsmFault → Type 0) → OrMemory AsmFault → Type 0
IfFault P OutOfMemory = Unit {0}
IfFault P (Fault fault) = P fault

abbrev pub HasResult : {X Y : Type 0} → (X → Y) → Result X (OrMemory AsmFault) → Result Y AsmFault → Type 0
HasResult view (Ok x) given = given ≡ Ok (view x)
HasResult view (Err error) given = Fails error given
