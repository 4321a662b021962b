-- What a kind says of a register, where the names of freezes stand for these numbers.
use Rattle.std.specs.Prelude.{◌≡◌, ℕ, ◌+◌, ◌<◌, ◌≤◌, Option, Some, None, ⊤, ◌^◌}
use Rattle.scalar_domain.specs.declared.scalars.Scalar.{Scalar}
use Rattle.scalar_domain.specs.Scalar.{Has}
use Rattle.bpf_semantics.specs.MachineState.{context_address}
use Rattle.bpf_semantics.specs.Frames.{frame_start}
use Rattle.check_register_kinds.specs.declared.region.Region.{Region}
use Rattle.check_register_kinds.specs.declared.region.Region.TheVariants.{Context, Frame}
use Rattle.check_register_kinds.specs.declared.region.Offsets.{Offsets}
use Rattle.check_register_kinds.specs.declared.kind.Kind.{Kind}
use Rattle.check_register_kinds.specs.declared.kind.Kind.TheVariants.{Unwritten, Number, Address, Freeze}
use Rattle.check_register_kinds.specs.declared.freeze_name.FreezeName.{FreezeName}
use Rattle.check_register_kinds.specs.Freezes.{FreezeNumbers, renumbered}

-- where a region begins
abbrev pub start_of : Region → ℕ
start_of Context = context_address
start_of (Frame k) = frame_start k

-- how many bytes it has
abbrev pub size_of : Region → ℕ
size_of Context = 96
size_of (Frame k) = 512

-- an address in the region, at one of these offsets
abbrev pub LiesAt : Region → Offsets → ℕ → Type 0
LiesAt region offsets address =
    (offset : ℕ) × (address ≡ start_of region + offset) × (offsets.least ≤ offset) × (offset ≤ offsets.most) × (offset ≤ size_of region)

-- what a kind says of a register
abbrev pub HoldsKind : FreezeNumbers → Kind → Option ℕ → Type 0
HoldsKind numbers Unwritten o = ⊤
HoldsKind numbers (Number scalar) o = (word : ℕ) × (o ≡ Some word) × Has scalar word
HoldsKind numbers (Address region offsets) o = (address : ℕ) × (o ≡ Some address) × LiesAt region offsets address
HoldsKind numbers (Freeze name) o = (number : ℕ) × (o ≡ Some number) × (numbers name ≡ Some number)

-- what it is lies from `least` to `most`
abbrev pub LiesWithin : ℕ → ℕ → Kind → Type 0
LiesWithin least most kind = (numbers : FreezeNumbers) (value : ℕ) → HoldsKind numbers kind (Some value) → (least ≤ value) × (value ≤ most)

-- what it is lies below a bound
abbrev pub LiesBelow : ℕ → Kind → Type 0
LiesBelow bound kind = (numbers : FreezeNumbers) (value : ℕ) → HoldsKind numbers kind (Some value) → value < bound

abbrev pub IsNumber : Kind → Type 0
IsNumber Unwritten = ⊥
IsNumber (Number scalar) = ⊤
IsNumber (Address region offsets) = ⊥
IsNumber (Freeze name) = ⊥

-- the address of one byte of a region
abbrev pub IsAt : Region → ℕ → Kind → Type 0
IsAt region at kind = kind ≡ Address region (record { least = at; most = at })

-- an address in that region
abbrev pub LiesIn : Region → Kind → Type 0
LiesIn region Unwritten = ⊥
LiesIn region (Number scalar) = ⊥
LiesIn region (Address other offsets) = other ≡ region
LiesIn region (Freeze name) = ⊥

abbrev pub IsWritten : Kind → Type 0
IsWritten Unwritten = ⊥
IsWritten (Number scalar) = ⊤
IsWritten (Address region offsets) = ⊤
IsWritten (Freeze name) = ⊤

-- a number, and whatever it is lies from `least` to `most`
abbrev pub IsNumberWithin : ℕ → ℕ → Kind → Type 0
IsNumberWithin least most kind = IsNumber kind × LiesWithin least most kind

-- a number of which just that one is possible
abbrev pub IsKnown : ℕ → Kind → Type 0
IsKnown n Unwritten = ⊥
IsKnown n (Number scalar) = (scalar.unsigned.least ≡ n) × (scalar.unsigned.most ≡ n)
IsKnown n (Address region offsets) = ⊥
IsKnown n (Freeze name) = ⊥

-- a number, and none above that one is possible
abbrev pub IsAtMost : ℕ → Kind → Type 0
IsAtMost n Unwritten = ⊥
IsAtMost n (Number scalar) = scalar.unsigned.most ≤ n
IsAtMost n (Address region offsets) = ⊥
IsAtMost n (Freeze name) = ⊥

-- a number, and none from that one on is possible
abbrev pub IsBelow : ℕ → Kind → Type 0
IsBelow n Unwritten = ⊥
IsBelow n (Number scalar) = scalar.unsigned.most < n
IsBelow n (Address region offsets) = ⊥
IsBelow n (Freeze name) = ⊥

-- a number, and none below the one or above the other is possible
abbrev pub IsBetween : ℕ → ℕ → Kind → Type 0
IsBetween least most Unwritten = ⊥
IsBetween least most (Number scalar) = (least ≤ scalar.unsigned.least) × (scalar.unsigned.most ≤ most)
IsBetween least most (Address region offsets) = ⊥
IsBetween least most (Freeze name) = ⊥

-- an address at these offsets is in its region, or after its last byte, where one of these numbers is added; the ends
-- of a signed range are places in the order of signed words, where 0 is at 2 ^ 63
pub record StaysAhead (region : Region) (offsets : Offsets) (by : Scalar) : Type 0 where
  pub least_from : 2 ^ 63 ≤ offsets.least + by.signed.least
  pub least_to : offsets.least + by.signed.least ≤ 2 ^ 63 + size_of region
  pub most_from : 2 ^ 63 ≤ offsets.most + by.signed.most
  pub most_to : offsets.most + by.signed.most ≤ 2 ^ 63 + size_of region

-- and where one is taken from it
pub record StaysBehind (region : Region) (offsets : Offsets) (by : Scalar) : Type 0 where
  pub least_from : by.signed.most ≤ offsets.least + 2 ^ 63
  pub least_to : offsets.least + 2 ^ 63 ≤ by.signed.most + size_of region
  pub most_from : by.signed.least ≤ offsets.most + 2 ^ 63
  pub most_to : offsets.most + 2 ^ 63 ≤ by.signed.least + size_of region

-- where that freeze is held no more, and was one of these numbers
pub record GivesUpKind (name : FreezeName) (scalar : Scalar) (before after : Kind) : Type 0 where
  pub kept : (numbers : FreezeNumbers) (number : ℕ) (o : Option ℕ) → numbers name ≡ Some number → Has scalar number →
      HoldsKind numbers before o → HoldsKind (renumbered numbers name None) after o
  pub copies : before ≡ Freeze name → after ≡ Number scalar
  pub others : (before ≡ Freeze name → ⊥) → after ≡ before
