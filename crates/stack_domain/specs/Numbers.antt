-- Numbers that stand on the stack, each little-endian in so many bytes of a live frame, as far as they are known.
use Rattle.std.specs.Prelude.{◌≡◌, ℕ, ◌+◌, ◌<◌, ◌≤◌, ◌⊎◌, List, [], Option, None, Some, length, slice_index_or, take, drop}
use Rattle.std.specs.Option.{option_map}
use Rattle.byteorder.specs.Endian.{little_number}
use Rattle.bpf_stack_frame.specs.Frame.{all_written}
use Rattle.scalar_domain.specs.declared.scalars.Scalar.{Scalar}
use Rattle.scalar_domain.specs.Scalar.{Has}
use Rattle.stack_domain.specs.declared.numbers.NumberPlace.{NumberPlace}
use Rattle.stack_domain.specs.declared.numbers.StackNumber.{StackNumber}

-- the number that stands in so many bytes of a frame from an offset on, where all are written
abbrev pub number_in : ℕ → ℕ → List (Option ℕ) → Option ℕ
number_in bytes offset frame = option_map (little_number bytes) (all_written (take bytes (drop offset frame)))

-- the frame is live, and one of these numbers stands there
pub record StandsAt (frames : List (List (Option ℕ))) (place : NumberPlace) (number : Scalar) : Type 0 where
  pub live : place.frame < length frames
  pub word : ℕ
  pub is : number_in place.bytes place.offset (slice_index_or frames place.frame []) ≡ Some word
  pub has : Has number word

-- what a slot says of the frames of a machine
abbrev pub StandsIn : List (List (Option ℕ)) → Option StackNumber → Type 0
StandsIn frames None = Unit {0}
StandsIn frames (Some kept) = StandsAt frames kept.place kept.number

-- and what all say
abbrev pub AreStanding : List (List (Option ℕ)) → List (Option StackNumber) → Type 0
AreStanding frames slots = (slot : ℕ) → StandsIn frames (slice_index_or slots slot None)

-- none of the place's bytes is one of the frame from an offset up to another
abbrev pub IsApart : NumberPlace → ℕ → ℕ → ℕ → Type 0
IsApart place frame from end = (place.frame ≡ frame → ⊥) ⊎ (place.offset + place.bytes ≤ from) ⊎ (end ≤ place.offset)
