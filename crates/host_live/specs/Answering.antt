-- What was answered to lines.
use Rattle.std.specs.Prelude.{◌≡◌, ℕ, length, Option, Some, None, IfSome, List, [], ◌∷◌, ◌++◌, Result, Ok, Err, ⊤}
use Rattle.host_live.specs.declared.reports.LineFault.{LineFault}

-- the number of a line, why it was not carried out, if it was not, and how many bytes had been taken before it was answered
pub record Answer : Type 0 where
  pub line : ℕ
  pub fault : Option LineFault
  pub behind : ℕ

-- where the answers are known, these were given after them
abbrev pub with_answers : Option (List Answer) → List Answer → Option (List Answer)
with_answers None more = None
with_answers (Some given) more = Some (given ++ more)

-- these are so many bytes, if they are known
abbrev pub IsLong : Option (List ℕ) → ℕ → Type 0
IsLong bytes count = IfSome bytes (λ its. count ≡ length its)

-- after these bytes the answer was given, or none was
abbrev pub Answers : {T E : Type 0} → Option (List Answer) → ℕ → Option LineFault → Option (List ℕ) → Result T E → Option (List Answer) → Type 0
Answers old line fault bytes (Ok done) new = (behind : ℕ) × IsLong bytes behind × (new ≡ with_answers old (record { line = line; fault = fault; behind = behind } ∷ []))
Answers old line fault bytes (Err failed) new = new ≡ old

-- that holds of how many bytes were before each of these answers
abbrev pub AreBehind : (ℕ → Type 0) → List Answer → Type 0
AreBehind Holds [] = ⊤
AreBehind Holds (answer ∷ answers) = Holds answer.behind × AreBehind Holds answers
