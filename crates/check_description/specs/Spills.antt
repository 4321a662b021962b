-- Addresses and freezes that stand on the stack: each in eight bytes of a frame, from a multiple of 8 on. They are listed by
-- their places, 64 in a frame, the outermost frame first; where the list ends nothing more is spilled.
use Rattle.std.specs.Prelude.{◌≡◌, ℕ, ◌+◌, ◌*◌, ◌<◌, ◌≤◌, ◌⊎◌, List, Option, slice_get, slice_index_or, take, drop, if◌then◌else◌}
use Rattle.std.specs.Option.{option_map, option_and_then}
use Rattle.byteorder.specs.Endian.{little_number}
use Rattle.bpf_stack_frame.specs.Frame.{all_written}
use Rattle.check_register_kinds.specs.declared.freeze_name.FreezeName.{FreezeName}
use Rattle.check_register_kinds.specs.declared.kind.Kind.{Kind}
use Rattle.check_register_kinds.specs.declared.kind.Kind.TheVariants as kinds
use Rattle.check_register_kinds.specs.declared.region.Region.TheVariants.{Context, Frame}
use Rattle.check_register_kinds.specs.Freezes.{FreezeNumbers, is_name}
use Rattle.check_register_kinds.specs.Kinds.{HoldsKind}
use Rattle.check_description.specs.declared.spill.Spill.{Spill}
use Rattle.check_description.specs.declared.spill.Spill.TheVariants.{Nothing, Address, Freeze}

-- what a register is to which it is loaded
abbrev pub kind_of : Spill → Kind
kind_of Nothing = kinds.Unwritten
kind_of (Address region offsets) = kinds.Address region offsets
kind_of (Freeze name) = kinds.Freeze name

-- what a word of that kind is where it stands in memory: a number is kept as written bytes alone
abbrev pub spill_of : Kind → Spill
spill_of kinds.Unwritten = Nothing
spill_of (kinds.Number scalar) = Nothing
spill_of (kinds.Address region offsets) = Address region offsets
spill_of (kinds.Freeze name) = Freeze name

-- what is left where the freeze of that name is held no more
abbrev pub spill_without : FreezeName → Spill → Spill
spill_without name Nothing = Nothing
spill_without name (Address region offsets) = Address region offsets
spill_without name (Freeze other) = if is_name other name then Nothing else Freeze other

-- an address of a frame that is gone, where so many are live
abbrev pub IsGone : ℕ → Spill → Type 0
IsGone live Nothing = ⊥
IsGone live (Address Context offsets) = ⊥
IsGone live (Address (Frame frame) offsets) = live ≤ frame
IsGone live (Freeze name) = ⊥

-- what is spilled at a place
abbrev pub at_place : List Spill → ℕ → Spill
at_place spills place = slice_index_or spills place Nothing

-- and in the eight bytes of a frame from 8 * word on
abbrev pub spill_at : List Spill → ℕ → ℕ → Spill
spill_at spills frame word = at_place spills (64 * frame + word)

-- the number that stands in those bytes, little-endian, where there is such a frame and all are written
abbrev pub word_in : ℕ → List (Option ℕ) → Option ℕ
word_in word frame = option_map (little_number 8) (all_written (take 8 (drop (8 * word) frame)))

abbrev pub word_at : List (List (Option ℕ)) → ℕ → ℕ → Option ℕ
word_at frames frame word = option_and_then (word_in word) (slice_get frames frame)

-- what is spilled stands there, where the names of freezes stand for these numbers
abbrev pub AreSpilled : FreezeNumbers → List Spill → List (List (Option ℕ)) → Type 0
AreSpilled numbers spills frames = (frame word : ℕ) → word < 64 → HoldsKind numbers (kind_of (spill_at spills frame word)) (word_at frames frame word)

-- nothing is spilled in the bytes of a frame from an offset up to another
abbrev pub AreUnspilled : List Spill → ℕ → ℕ → ℕ → Type 0
AreUnspilled spills frame from end = (word : ℕ) → word < 64 → from < 8 * word + 8 → 8 * word < end → spill_at spills frame word ≡ Nothing

-- what is spilled is what was, or nothing
abbrev pub IsFewer : List Spill → List Spill → Type 0
IsFewer before after = (place : ℕ) → (at_place after place ≡ Nothing) ⊎ (at_place after place ≡ at_place before place)
