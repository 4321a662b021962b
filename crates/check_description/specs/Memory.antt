-- What becomes of a machine that is described, and of what is known of it, where bytes are written in a frame.
use Rattle.std.specs.Prelude.{◌≡◌, ℕ, ◌+◌, ◌<◌, ◌≤◌, length, List, [], Option, Some, All}
use Rattle.std.specs.Option.{option_map, option_and_then}
use Rattle.byteorder.specs.Endian.{little_bytes, little_number}
use Rattle.bpf_stack_frame.specs.Frame.{all_written}
use Rattle.bpf_semantics.specs.Frames.{frame_bytes, frame_start}
use Rattle.stack_domain.specs.Stack.{Knows}
use Rattle.check_description.specs.declared.description.Description.{Description}
use Rattle.bpf_semantics.specs.MachineState.{MachineState}
use Rattle.bpf_semantics.specs.Memory.{with_memory}
use Rattle.check_register_kinds.specs.declared.kind.Kind.{Kind}
use Rattle.check_register_kinds.specs.declared.region.Offsets.{Offsets}
use Rattle.check_register_kinds.specs.declared.region.Region.TheVariants.{Frame}
use Rattle.check_description.specs.declared.saved.SavedRegisters.{SavedRegisters}
use Rattle.scalar_domain.specs.declared.scalars.Scalar.{Scalar}
use Rattle.scalar_domain.specs.Scalar.{Has}
use Rattle.check_description.specs.Description.{DescribesWith}
use Rattle.check_register_kinds.specs.Freezes.{FreezeNumbers}
use Rattle.check_register_kinds.specs.Kinds.{HoldsKind, LiesAt}

-- so many bytes of a frame are known to be written
abbrev pub AreKnown : Description → ℕ → ℕ → ℕ → Type 0
AreKnown d frame from bytes = (at : ℕ) → from ≤ at → at < from + bytes → Knows d.stack frame at

-- what was known to be written still is, and nothing else is changed, but that spills may have ended
pub record ChangesStack (d there : Description) : Type 0 where
  pub registers : there.registers ≡ d.registers
  pub unspilled : d.spills ≡ [] → there.spills ≡ []
  pub depth : length there.stack ≡ length d.stack
  pub known : (k at : ℕ) → Knows d.stack k at → Knows there.stack k at
  pub held : there.held ≡ d.held
  pub disposal : there.disposed ≡ d.disposed

-- there is room for bytes, and the machine with them is described
pub record AreWritten (numbers : FreezeNumbers) (callers : List SavedRegisters) (m : MachineState) (address : ℕ) (bytes : List ℕ) (there : Description) : Type 0 where
  pub with_bytes : MachineState
  pub does : with_memory m address bytes ≡ Some with_bytes
  pub describes : DescribesWith numbers callers there with_bytes

-- wherever in the frame they begin
abbrev pub Writes : Description → ℕ → Offsets → ℕ → Description → Type 0
Writes d frame offsets count there =
    (numbers : FreezeNumbers) (callers : List SavedRegisters) (m : MachineState) (address : ℕ) (bytes : List ℕ) → DescribesWith numbers callers d m → LiesAt (Frame frame) offsets address →
    length bytes ≡ count → All (λ byte. byte < 256) bytes → AreWritten numbers callers m address bytes there

-- the number that stands in eight bytes of one frame, little-endian, where all are written
abbrev pub word_there : MachineState → ℕ → Option ℕ
word_there m address = option_map (little_number 8) (option_and_then all_written (frame_bytes 0 m.frames address 8))

-- a word of that kind, from an offset of the frame on
abbrev pub WritesWord : Description → ℕ → ℕ → Kind → Description → Type 0
WritesWord d frame offset kind there =
    (numbers : FreezeNumbers) (callers : List SavedRegisters) (m : MachineState) (word : ℕ) → DescribesWith numbers callers d m → HoldsKind numbers kind (Some word) →
    AreWritten numbers callers m (frame_start frame + offset) (little_bytes 8 word) there

-- one of these numbers is stored, wherever in the frame its bytes begin
abbrev pub StoresNumber : Description → ℕ → Offsets → ℕ → Scalar → Description → Type 0
StoresNumber d frame offsets count number there =
    (numbers : FreezeNumbers) (callers : List SavedRegisters) (m : MachineState) (address word : ℕ) → DescribesWith numbers callers d m → LiesAt (Frame frame) offsets address → Has number word →
    AreWritten numbers callers m address (little_bytes count word) there

-- the number that stands in so many bytes of one frame, little-endian, is one of these
abbrev pub HasThere : Description → ℕ → Offsets → ℕ → Scalar → Type 0
HasThere d frame offsets count number =
    (numbers : FreezeNumbers) (callers : List SavedRegisters) (m : MachineState) (address word : ℕ) → DescribesWith numbers callers d m → LiesAt (Frame frame) offsets address →
    option_map (little_number count) (option_and_then all_written (frame_bytes 0 m.frames address count)) ≡ Some word → Has number word

-- bytes at a known offset of a frame are known to be written, and nothing else is changed, but that spills may have ended
pub record LeavesMarked (d : Description) (frame from bytes : ℕ) (there : Description) : Type 0 where
  pub registers : there.registers ≡ d.registers
  pub unspilled : d.spills ≡ [] → there.spills ≡ []
  pub depth : length there.stack ≡ length d.stack
  pub written : AreKnown there frame from bytes
  pub known : (k at : ℕ) → Knows d.stack k at → Knows there.stack k at
  pub held : there.held ≡ d.held
  pub disposal : there.disposed ≡ d.disposed
