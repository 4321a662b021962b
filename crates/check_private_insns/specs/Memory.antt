-- What a load or a store makes of the machines that are described, and that none of them is stuck there.
use Rattle.std.specs.Prelude.{◌≡◌, ℕ, ℤ, ◌<◌, ◌^◌, List, [], Option, Some, All, length, slice_index_or}
use Rattle.std.specs.Int.{byte_len}
use Rattle.byteorder.specs.Endian.{little_bytes}
use Rattle.bpf_insn.specs.declared.insn.LoadForm.{LoadForm}
use Rattle.bpf_insn.specs.declared.insn.StoreSize.{StoreSize}
use Rattle.bpf_insn.specs.declared.reg.Reg.{Reg}
use Rattle.bpf_semantics.specs.MachineState.{MachineState}
use Rattle.bpf_semantics.specs.Memory.{address_of, load_width, loaded, read, store_width, with_word_at, word_from}
use Rattle.scalar_domain.specs.declared.scalars.Scalar.{Scalar}
use Rattle.scalar_domain.specs.Scalar.{Has}
use Rattle.stack_domain.specs.declared.numbers.NumberPlace.{NumberPlace}
use Rattle.stack_domain.specs.Numbers.{number_in}
use Rattle.check_register_kinds.specs.declared.access.Access.{Access}
use Rattle.check_description.specs.declared.description.Description.{Description}
use Rattle.check_register_kinds.specs.declared.kind.Kind.{Kind}
use Rattle.check_register_kinds.specs.declared.region.Offsets.{Offsets}
use Rattle.check_register_kinds.specs.declared.region.Region.{Region}
use Rattle.check_register_kinds.specs.declared.region.Region.TheVariants.{Frame}
use Rattle.check_description.specs.declared.saved.SavedRegisters.{SavedRegisters}
use Rattle.check_description.specs.Description.{DescribesWith}
use Rattle.check_description.specs.Memory.{AreWritten}
use Rattle.check_register_kinds.specs.Freezes.{FreezeNumbers}
use Rattle.check_register_kinds.specs.Kinds.{HoldsKind, LiesAt}

-- the bytes from an address on can be read
pub record AreThere (m : MachineState) (address bytes : ℕ) : Type 0 where
  pub found : List ℕ
  pub are : read m address bytes ≡ Some found
  pub each : All (λ byte. byte < 256) found

-- wherever in its region an access begins
abbrev pub AccessReads : Description → Access → ℕ → Type 0
AccessReads d access bytes = (numbers : FreezeNumbers) (callers : List SavedRegisters) (m : MachineState) (address : ℕ) → DescribesWith numbers callers d m → LiesAt access.region access.offsets address → AreThere m address bytes

abbrev pub ReadsFrame : Description → ℕ → Offsets → ℕ → Type 0
ReadsFrame d frame offsets bytes = (numbers : FreezeNumbers) (callers : List SavedRegisters) (m : MachineState) (address : ℕ) → DescribesWith numbers callers d m → LiesAt (Frame frame) offsets address → AreThere m address bytes

-- the kind holds of what the load makes of the word that stands there
abbrev pub LoadGives : Description → LoadForm → Region → Offsets → Kind → Type 0
LoadGives d form region offsets kind =
    (numbers : FreezeNumbers) (callers : List SavedRegisters) (m : MachineState) (address word : ℕ) → DescribesWith numbers callers d m → LiesAt region offsets address →
    word_from (load_width form) m address ≡ Some word → word < 256 ^ byte_len (load_width form) → HoldsKind numbers kind (Some (loaded form word))

-- what the load makes of the word that stands there is one of these numbers
abbrev pub HasLoaded : Description → LoadForm → ℕ → Offsets → Scalar → Type 0
HasLoaded d form frame offsets number =
    (numbers : FreezeNumbers) (callers : List SavedRegisters) (m : MachineState) (address word : ℕ) → DescribesWith numbers callers d m → LiesAt (Frame frame) offsets address →
    word_from (load_width form) m address ≡ Some word → word < 256 ^ byte_len (load_width form) → Has number (loaded form word)

-- what the load gives is the number that stands there
abbrev pub ReadsPlace : Description → LoadForm → Reg → ℤ → NumberPlace → Type 0
ReadsPlace d form src offset place =
    (numbers : FreezeNumbers) (callers : List SavedRegisters) (m : MachineState) (address word : ℕ) → DescribesWith numbers callers d m → address_of m src offset ≡ Some address → word_from (load_width form) m address ≡ Some word →
    (place.frame < length m.frames) × (number_in place.bytes place.offset (slice_index_or m.frames place.frame []) ≡ Some (loaded form word))

-- so many bytes of a live frame from one offset on
pub record IsPlaceOf (depth : ℕ) (access : Access) (bytes : ℕ) (place : NumberPlace) : Type 0 where
  pub region : access.region ≡ Frame place.frame
  pub least : access.offsets.least ≡ place.offset
  pub most : access.offsets.most ≡ place.offset
  pub count : place.bytes ≡ bytes
  pub live : place.frame < depth

-- the word is there, and the kind holds of what the load makes of it
pub record IsLoaded (numbers : FreezeNumbers) (m : MachineState) (form : LoadForm) (src : Reg) (offset : ℤ) (kind : Kind) : Type 0 where
  pub address : ℕ
  pub word : ℕ
  pub lies : address_of m src offset ≡ Some address
  pub is : word_from (load_width form) m address ≡ Some word
  pub holds : HoldsKind numbers kind (Some (loaded form word))

abbrev pub Loads : Description → LoadForm → Reg → ℤ → Kind → Type 0
Loads d form src offset kind = (numbers : FreezeNumbers) (callers : List SavedRegisters) (m : MachineState) → DescribesWith numbers callers d m → IsLoaded numbers m form src offset kind

-- a word of that kind, wherever in the frame its bytes begin
abbrev pub StoreLeaves : Description → ℕ → Offsets → ℕ → Kind → Description → Type 0
StoreLeaves d frame offsets count kind there =
    (numbers : FreezeNumbers) (callers : List SavedRegisters) (m : MachineState) (address word : ℕ) → DescribesWith numbers callers d m → LiesAt (Frame frame) offsets address → HoldsKind numbers kind (Some word) →
    AreWritten numbers callers m address (little_bytes count word) there

-- the word is there, and there is room for it; the machine with it is described
pub record IsStored (numbers : FreezeNumbers) (callers : List SavedRegisters) (m : MachineState) (size : StoreSize) (dst : Reg) (offset : ℤ) (stored : Option ℕ) (there : Description) : Type 0 where
  pub address : ℕ
  pub word : ℕ
  pub with_word : MachineState
  pub lies : address_of m dst offset ≡ Some address
  pub is : stored ≡ Some word
  pub does : with_word_at (store_width size) m address word ≡ Some with_word
  pub describes : DescribesWith numbers callers there with_word

abbrev pub Stores : Description → StoreSize → Reg → ℤ → Kind → Description → Type 0
Stores d size dst offset kind there =
    (numbers : FreezeNumbers) (callers : List SavedRegisters) (m : MachineState) (stored : Option ℕ) → DescribesWith numbers callers d m → HoldsKind numbers kind stored →
    IsStored numbers callers m size dst offset stored there
