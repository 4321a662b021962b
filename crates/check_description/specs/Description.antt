-- What a description says of a machine. The freezes that the run gets are numbers that only the run knows: a machine is
-- described where all holds of it for some such numbers. Functions that wait for one that they called are described apart
-- from that, by what is known of their registers: `callers`, the outermost first.
use Rattle.std.specs.Prelude.{◌≡◌, ℕ, ◌+◌, ◌<◌, List, [], Option, length, Some, None, All, slice_index_or, false}
use Rattle.bpf_insn.specs.declared.reg.Reg.{Reg}
use Rattle.bpf_insn.specs.Reg.{number_of}
use Rattle.bpf_semantics.specs.MachineState.{MachineState, register}
use Rattle.bpf_semantics.specs.Reached.{IsEntry}
use Rattle.stack_domain.specs.Numbers.{AreStanding, number_in}
use Rattle.stack_domain.specs.Stack.{MarksCover as CoversFrames}
use Rattle.check_description.specs.declared.description.Description.{Description}
use Rattle.check_description.specs.declared.description.Loaded.{Loaded}
use Rattle.check_register_kinds.specs.declared.kind.Kind.{Kind}
use Rattle.check_register_kinds.specs.declared.kind.Kind.TheVariants.{Unwritten}
use Rattle.check_description.specs.declared.saved.SavedRegisters.{SavedRegisters}
use Rattle.check_register_kinds.specs.Freezes.{AreHeld, FreezeNumbers}
use Rattle.check_register_kinds.specs.Kinds.{HoldsKind}
use Rattle.check_description.specs.OpenCalls.{AreOpen}
use Rattle.check_description.specs.Spills.{AreSpilled}
use Rattle.bpf_insn.specs.declared.insn.Insn.{Insn}
use Rattle.helpers.specs.declared.limits.HelperLimits.{HelperLimits}
use Rattle.bpf_semantics.specs.Stuck.{insn_is_stuck}

-- what a description says of a register
abbrev pub kind_at : Description → Reg → Kind
kind_at d reg = slice_index_or d.registers (number_of reg) Unwritten

-- the register holds the number that stands there
pub record HoldsLoaded (registers : List (Option ℕ)) (frames : List (List (Option ℕ))) (loaded : Loaded) : Type 0 where
  pub live : loaded.place.frame < length frames
  pub word : ℕ
  pub stands : number_in loaded.place.bytes loaded.place.offset (slice_index_or frames loaded.place.frame []) ≡ Some word
  pub holds : slice_index_or registers (number_of loaded.reg) None ≡ Some word

abbrev pub IsStillLoaded : List (Option ℕ) → List (List (Option ℕ)) → Option Loaded → Type 0
IsStillLoaded registers frames None = Unit {0}
IsStillLoaded registers frames (Some loaded) = HoldsLoaded registers frames loaded

-- all that is said holds of the machine, where the names of its freezes stand for these numbers
pub record DescribesWith (numbers : FreezeNumbers) (callers : List SavedRegisters) (d : Description) (m : MachineState) : Type 0 where
  pub registers : (reg : Reg) → HoldsKind numbers (kind_at d reg) (register m reg)
  pub count : length m.registers ≡ 11
  pub frames : CoversFrames d.stack m.frames
  -- addresses and freezes stand on the stack
  pub spills : AreSpilled numbers d.spills m.frames
  -- and numbers, as far as they are kept
  pub standing : AreStanding m.frames d.numbers
  -- and the register that was loaded last holds what stands there
  pub loaded : IsStillLoaded m.registers m.frames d.loaded
  -- what is in a stack byte is one
  pub bytes : (k offset byte : ℕ) → slice_index_or (slice_index_or m.frames k []) offset None ≡ Some byte → byte < 256
  pub context : (length m.context ≡ 96) × All (λ byte. byte < 256) m.context
  pub held : AreHeld numbers d.held m.held
  pub disposal : m.disposed ≡ d.disposed
  pub calls : AreOpen numbers callers m.open_calls
  -- each function has a frame
  pub depth : length m.frames ≡ length m.open_calls + 1

abbrev pub Describes : List SavedRegisters → Description → MachineState → Type 0
Describes callers d m = (numbers : FreezeNumbers) × DescribesWith numbers callers d m

-- it describes each machine that the first one does
abbrev pub Covers : Description → Description → Type 0
Covers d wider = (callers : List SavedRegisters) (m : MachineState) → Describes callers d m → Describes callers wider m

-- it describes each run's first machine
abbrev pub DescribesEntries : Description → Type 0
DescribesEntries d = (m : MachineState) → IsEntry m → Describes [] d m

-- no machine that is described is stuck there
abbrev pub NeverStuck : HelperLimits → List SavedRegisters → Insn → Description → Type 0
NeverStuck limits callers insn d = (m : MachineState) → Describes callers d m → insn_is_stuck limits m insn ≡ false
