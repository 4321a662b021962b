-- A stack frame as it is kept: its bytes, 0 where one is unwritten, and the set of those that are written.
use Rattle.std.specs.Prelude.{◌≡◌, ℕ, Bool, true, false, List, [], ◌∷◌, Option, Some, None, map, length, is_some}
use Rattle.bpf_stack_frame.specs.Frame.{byte_of}

abbrev pub written_byte : Bool → ℕ → Option ℕ
written_byte true byte = Some byte
written_byte false byte = None

-- the bytes, one by one
abbrev pub frame_of : List ℕ → List Bool → List (Option ℕ)
frame_of [] written = []
frame_of (byte ∷ bytes) [] = []
frame_of (byte ∷ bytes) (is_written ∷ written) = written_byte is_written byte ∷ frame_of bytes written

abbrev pub bytes_of : List (Option ℕ) → List ℕ
bytes_of frame = map byte_of frame

abbrev pub written_of : List (Option ℕ) → List Bool
written_of frame = map is_some frame

-- 512 of each, with 0 where nothing is written: so a frame is kept in one way
pub record AreFrame (bytes : List ℕ) (written : List Bool) : Type 0 where
  pub count : (length bytes ≡ 512) × (length written ≡ 512)
  pub same_bytes : bytes_of (frame_of bytes written) ≡ bytes
  pub same_written : written_of (frame_of bytes written) ≡ written
