-- Sense data of a key and a code.
use Rattle.std.specs.Prelude.{◌≤◌, ℕ, List, [], ◌∷◌, bit_and, nat_lt, if◌then◌else◌}

-- the response code is one of a format that is known
abbrev pub IsKnown : ℕ → Type 0
IsKnown response = (0x70 ≤ bit_and response 0x7f) × (bit_and response 0x7f ≤ 0x73)

-- what reports just that key and code: of the fixed format 18 bytes, of descriptors 8, with none of them
abbrev pub sense_bytes : (response key asc ascq : ℕ) → List ℕ
sense_bytes response key asc ascq =
    if nat_lt (bit_and response 0x7f) 0x72
    then response ∷ 0 ∷ key ∷ 0 ∷ 0 ∷ 0 ∷ 0 ∷ 10 ∷ 0 ∷ 0 ∷ 0 ∷ 0 ∷ asc ∷ ascq ∷ 0 ∷ 0 ∷ 0 ∷ 0 ∷ []
    else response ∷ key ∷ asc ∷ ascq ∷ 0 ∷ 0 ∷ 0 ∷ 0 ∷ []
