-- What each fault says.
use Rattle.std.specs.Prelude.{Result, Ok, Err}
use Rattle.ccb.specs.declared.call_refusal.CallRefusal.{CallRefusal}
use Rattle.engine_core.specs.declared.answers.CallFault.{CallFault}
use Rattle.engine_core.specs.declared.answers.CallFault.TheVariants.{OutOfMemory, Refused}
use Rattle.engine_core.specs.declared.answers.ReleaseFault.{ReleaseFault}
use Rattle.engine_core.specs.declared.answers.ReleaseFault.TheVariants.{NotHeld, OutOfMemory as release_memory}
use Rattle.engine_core.specs.declared.answers.AdvanceFault.{AdvanceFault}
use Rattle.engine_core.specs.declared.answers.AdvanceFault.TheVariants.{NotOut, OutOfMemory as advance_memory}

-- want of memory, or the refusal that is recorded
abbrev pub FaultIs : CallFault → Type 0 → (CallRefusal → Type 0) → Type 0
FaultIs OutOfMemory memory recorded = memory
FaultIs (Refused refusal) memory recorded = recorded refusal

-- the fact holds, unless the fault tells that it does not
abbrev pub HoldsUnlessTold : ReleaseFault → Type 0 → Type 0
HoldsUnlessTold NotHeld fact = fact → ⊥
HoldsUnlessTold release_memory fact = fact

-- the same of an advance
abbrev pub AdmitsUnlessTold : AdvanceFault → Type 0 → Type 0
AdmitsUnlessTold NotOut fact = fact → ⊥
AdmitsUnlessTold advance_memory fact = fact

-- what a call gives, or its refusal as a fault
abbrev pub given : {T : Type 0} → Result T CallRefusal → Result T CallFault
given (Ok it) = Ok it
given (Err refusal) = Err (Refused refusal)
