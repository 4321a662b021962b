-- Which shapes are lawful, and which fault is named of one that is not: the lowest number that holds, with the lowest
-- slot that has it.
use Rattle.std.specs.Prelude.{◌≡◌, ℕ, ◌+◌, ◌<◌, ◌≤◌, Bool, true, false, not, ◌&&◌, ◌||◌, ◌==◌, nat_le, nat_lt, List, length, Option, Some, None}
use Rattle.std.specs.Option.{option_and_then, option_map_or}
use Rattle.bpf_insn.specs.declared.insn.Insn.{Insn}
use Rattle.bpf_insn.specs.declared.insn.Insn.TheVariants.{Alu, InPlace, SignExtend, JumpIf, Jump, LoadImmediate, Load, Store, Call, Exit}
use Rattle.bpf_insn.specs.declared.program.Slot.{Slot}
use Rattle.bpf_insn.specs.Program.{insn_at, slots_of}
use Rattle.bpf_insn.specs.Target.{target, distance_of}
use Rattle.call_shape.specs.Calls.{callee_at, begins, is_start, function_of, IsOnCycle, IsCallingOrder}
use Rattle.call_shape.specs.StaticPath.{StaticPath, outermost, depth}
use Rattle.call_shape.specs.WrittenOut.{IsWrittenOut}
use Rattle.call_shape.specs.declared.fault.ShapeFault.{ShapeFault}
use Rattle.call_shape.specs.declared.fault.ShapeFault.TheVariants.{OpenEnd, TargetOutside, TargetSecondSlot, TargetBackward, NoSuchFunction, LeavesFunction, CallCycle, TooManyFrames, TooLong}
use Rattle.bpf_stack_frame.specs.declared.frames.TheConstants.{MAX_FRAMES}
use Rattle.call_shape.specs.declared.lawful_shape.TheConstants.{MAX_WRITTEN_OUT}

-- where an instruction jumps to, if it is a jump
abbrev pub target_in : ℕ → Insn → Option ℕ
target_in place (JumpIf width condition dst src offset) = Some (target place offset)
target_in place (Jump distance) = Some (target place (distance_of distance))
target_in place (Alu width op dst src) = None
target_in place (InPlace op dst) = None
target_in place (SignExtend extension dst src) = None
target_in place (LoadImmediate dst value) = None
target_in place (Load form dst src offset) = None
target_in place (Store size dst src offset) = None
target_in place (Call callee) = None
target_in place Exit = None

abbrev pub target_at : List Slot → ℕ → Option ℕ
target_at program place = option_and_then (target_in place) (insn_at program place)

-- nothing goes on after an exit and after an unconditional jump
abbrev pub goes_on_behind : Insn → Bool
goes_on_behind Exit = false
goes_on_behind (Jump distance) = false
goes_on_behind (Alu width op dst src) = true
goes_on_behind (InPlace op dst) = true
goes_on_behind (SignExtend extension dst src) = true
goes_on_behind (JumpIf width condition dst src offset) = true
goes_on_behind (LoadImmediate dst value) = true
goes_on_behind (Load form dst src offset) = true
goes_on_behind (Store size dst src offset) = true
goes_on_behind (Call callee) = true

-- the slot after an instruction
abbrev pub behind : ℕ → Insn → ℕ
behind place insn = place + length (slots_of insn)

-- a function does not go on at the slot
abbrev pub is_function_end : List Slot → ℕ → Bool
is_function_end program slot = nat_le (length program) slot || is_start program slot

-- S1: the last instruction of a function, which is neither an exit nor an unconditional jump
abbrev pub is_open_end : List Slot → ℕ → Bool
is_open_end program place = option_map_or (λ insn. goes_on_behind insn && is_function_end program (behind place insn)) (insn_at program place) false

-- S2: a jump whose target is outside the program
abbrev pub is_outside : List Slot → ℕ → Bool
is_outside program place = option_map_or (λ to. nat_le (length program) to) (target_at program place) false

-- S3: a jump into the second slot of an instruction
abbrev pub is_split : List Slot → ℕ → Bool
is_split program place = option_map_or (λ to. nat_lt to (length program) && not (begins program to)) (target_at program place) false

-- S4: a jump whose target is not after it
abbrev pub is_backward : List Slot → ℕ → Bool
is_backward program place = option_map_or (λ to. nat_le to place) (target_at program place) false

-- S5: a local call to where no instruction of the program begins
abbrev pub is_lost_call : List Slot → ℕ → Bool
is_lost_call program place = option_map_or (λ to. not (begins program to)) (callee_at program place) false

-- S6: a jump out of its function
abbrev pub is_leaving : List Slot → ℕ → Bool
is_leaving program place = option_map_or (λ to. not (function_of program to == function_of program place)) (target_at program place) false

-- S8: a static path with more frames than a machine has
pub record IsTooDeep (program : List Slot) : Type 0 where
  pub instructions : ℕ
  pub path : StaticPath program (outermost 0) instructions
  pub deep : MAX_FRAMES < depth program (outermost 0) instructions path

-- a place that passes a test, and none before it does
pub record IsFirst (test : ℕ → Bool) (place : ℕ) : Type 0 where
  pub here : test place ≡ true
  pub before : (k : ℕ) → k < place → test k ≡ false

-- no place passes a test
abbrev pub IsNowhere : (ℕ → Bool) → Type 0
IsNowhere test = (k : ℕ) → test k ≡ false

-- What the first six faults ask of a program, each together with those before it. In such a program control never leaves
-- a function but by calls and exits.
pub record AreEnded (program : List Slot) : Type 0 where
  pub ended : IsNowhere (is_open_end program)

pub record AreInside (program : List Slot) : Type 0 where
  pub ends : AreEnded program
  pub inside : IsNowhere (is_outside program)

pub record AreWhole (program : List Slot) : Type 0 where
  pub targets : AreInside program
  pub whole : IsNowhere (is_split program)

pub record AreForward (program : List Slot) : Type 0 where
  pub targets : AreWhole program
  pub forward : IsNowhere (is_backward program)

pub record AreFound (program : List Slot) : Type 0 where
  pub jumps : AreForward program
  pub found : IsNowhere (is_lost_call program)

pub record AreContained (program : List Slot) : Type 0 where
  pub calls : AreFound program
  pub contained : IsNowhere (is_leaving program)

-- and no chain of calls comes back
pub record AreOrdered (program : List Slot) : Type 0 where
  pub functions : AreContained program
  pub order : List ℕ
  pub ordered : IsCallingOrder program order

-- and no static path has too many frames
pub record AreShallow (program : List Slot) : Type 0 where
  pub calls : AreOrdered program
  pub shallow : (n : ℕ) (path : StaticPath program (outermost 0) n) → depth program (outermost 0) n path ≤ MAX_FRAMES

-- and the program is not too long when it is written out
pub record IsLawful (program : List Slot) : Type 0 where
  pub frames : AreShallow program
  pub count : ℕ
  pub written_out : IsWrittenOut program 0 count
  pub short : count ≤ MAX_WRITTEN_OUT

-- S9: more instructions than that, with all local calls written out
pub record IsTooLong (program : List Slot) : Type 0 where
  pub count : ℕ
  pub written_out : IsWrittenOut program 0 count
  pub long : MAX_WRITTEN_OUT < count

abbrev pub FaultIs : List Slot → ShapeFault → Type 0
FaultIs program (OpenEnd slot) = IsFirst (is_open_end program) slot
FaultIs program (TargetOutside slot) = AreEnded program × IsFirst (is_outside program) slot
FaultIs program (TargetSecondSlot slot) = AreInside program × IsFirst (is_split program) slot
FaultIs program (TargetBackward slot) = AreWhole program × IsFirst (is_backward program) slot
FaultIs program (NoSuchFunction slot) = AreForward program × IsFirst (is_lost_call program) slot
FaultIs program (LeavesFunction slot) = AreFound program × IsFirst (is_leaving program) slot
FaultIs program (CallCycle slot) = AreContained program × IsOnCycle program slot × ((k : ℕ) → k < slot → IsOnCycle program k → ⊥)
FaultIs program TooManyFrames = AreOrdered program × IsTooDeep program
FaultIs program TooLong = AreShallow program × IsTooLong program
