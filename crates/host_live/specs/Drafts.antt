-- What is kept of a line that comes.
use Rattle.std.specs.Prelude.{◌≡◌, ◌<◌, ℕ, Bool, MatchBool, List, length}
use Rattle.host_live.specs.declared.draft.TheConstants.{MOST_BYTES}

-- the bytes that came, or that they are too many
pub record DraftState : Type 0 where
  pub bytes : List ℕ
  pub is_long : Bool

-- that is kept of a line: all of it, or that it is too long
abbrev pub IsDraftOf : List ℕ → DraftState → Type 0
IsDraftOf line draft = MatchBool draft.is_long (MOST_BYTES < length line) (draft.bytes ≡ line)
