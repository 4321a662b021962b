-- What a source gives.
use Rattle.std.specs.Prelude.{◌≡◌, ◌≤◌, ℕ, Option, Some, None, List, length, take, Result, Ok, Err, ⊤}
use Rattle.std.specs.Io.KnownBytes.{Consumes, IsAtEnd, Keeps}
use Rattle.trace.specs.Sinks.{HasFailed}

-- so many bytes were given, none only at the end; or the read failed, and gave none
abbrev pub Gives : {E : Type 0} → Option (List ℕ) → ℕ → Result ℕ E → List ℕ → Option (List ℕ) → ℕ → Type 0
Gives old failed (Ok count) piece new fails = (count ≤ length piece) × Consumes old new (take count piece) × (count ≡ 0 → IsAtEnd new) × (fails ≡ failed)
Gives old failed (Err fault) piece new fails = Keeps old new × HasFailed failed fails

-- this is all that the source was to give, if that is known
abbrev pub IsAll : Option (List ℕ) → List ℕ → Type 0
IsAll None text = ⊤
IsAll (Some bytes) text = text ≡ bytes
