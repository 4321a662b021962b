-- The bytes of an input that came.
use Rattle.std.specs.Prelude.{◌≡◌, ℕ, Bool, true, false, Option, Some, None, List, [], ◌++◌}
use Rattle.host_live.specs.declared.input.Came.{Came}
use Rattle.host_live.specs.declared.input.Came.TheVariants as came

-- those that came before the last piece, that piece, and whether the input said that it is at its end
pub record CameState : Type 0 where
  pub before : List ℕ
  pub piece : List ℕ
  pub is_over : Bool

-- all of them
abbrev pub all_of : CameState → List ℕ
all_of state = state.before ++ state.piece

-- all that are known
abbrev pub known_of : Option CameState → List ℕ
known_of None = []
known_of (Some state) = all_of state

-- Where they are known: a piece more came, or nothing, or the end.
abbrev pub Comes : Option CameState → Came → Option CameState → Type 0
Comes None said new = new ≡ None
Comes (Some old) came.Bytes new = (piece : List ℕ) × (new ≡ Some (record { before = all_of old; piece = piece; is_over = false }))
Comes (Some old) (came.Due reading) new = new ≡ Some old
Comes (Some old) came.End new = new ≡ Some (record old { is_over = true })
Comes (Some old) came.Failed new = new ≡ Some old
