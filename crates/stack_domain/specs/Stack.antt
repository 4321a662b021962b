-- What is known of a program's stack: a set of bytes for each live frame, the outermost first, and which stacks of a
-- machine it covers.
use Rattle.std.specs.Prelude.{◌≡◌, ℕ, ◌<◌, ◌≤◌, Bool, true, List, [], Option, None, is_some, length, slice_index_or}
use Rattle.bpf_stack_frame.specs.ByteSet.{Has}

-- a byte of frame k is in its set
abbrev pub Marked : List (List Bool) → ℕ → ℕ → Type 0
Marked stack k offset = Has (slice_index_or stack k []) offset

-- a byte of frame k is written
abbrev pub IsWritten : List (List (Option ℕ)) → ℕ → ℕ → Type 0
IsWritten frames k offset = is_some (slice_index_or (slice_index_or frames k []) offset None) ≡ true

-- as many frames, of 512 bytes each, and each byte that is marked is written
pub record MarksCover (stack : List (List Bool)) (frames : List (List (Option ℕ))) : Type 0 where
  pub depth : length frames ≡ length stack
  pub whole : (k : ℕ) → k < length frames → length (slice_index_or frames k []) ≡ 512
  pub written : (k offset : ℕ) → Marked stack k offset → IsWritten frames k offset

-- the bytes of frame k from an offset up to another are written
abbrev pub AreWritten : List (List (Option ℕ)) → ℕ → ℕ → ℕ → Type 0
AreWritten frames k from end = (offset : ℕ) → from ≤ offset → offset < end → IsWritten frames k offset

-- a byte of frame k is written in all stacks that are covered
abbrev pub Knows : List (List Bool) → ℕ → ℕ → Type 0
Knows stack k offset = (frames : List (List (Option ℕ))) → MarksCover stack frames → IsWritten frames k offset
