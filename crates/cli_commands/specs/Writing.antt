-- What a writer is told where it may be interrupted.
use Rattle.std.specs.Prelude.{◌≤◌, ℕ, Option, Result, Ok, Err, List, length, take}
use Rattle.std.specs.Io.KnownBytes.{Appends, Keeps}

-- so many bytes were taken, one at least; or none
abbrev pub Writes : {E : Type 0} → List ℕ → Option (List ℕ) → Result ℕ E → Option (List ℕ) → Type 0
Writes text old (Ok count) new = (1 ≤ count) × (count ≤ length text) × Appends old new (take count text)
Writes text old (Err failed) new = Keeps old new
