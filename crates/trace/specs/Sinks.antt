-- What a sink takes, and what of a text is handed on to it.
use Rattle.std.specs.Prelude.{◌≡◌, ℕ, ◌-◌, ◌^◌, ◌<◌, ◌≤◌, Option, List, Result, Ok, Err, length, take}
use Rattle.std.specs.Io.KnownBytes.{Appends, Keeps}

-- one failure more, of those that are counted
abbrev pub HasFailed : ℕ → ℕ → Type 0
HasFailed old new = old < 2 ^ 64 - 1 → old < new

-- so many bytes were taken, one at least; or none, and the write failed
abbrev pub Takes : {E : Type 0} → List ℕ → Option (List ℕ) → ℕ → Result ℕ E → Option (List ℕ) → ℕ → Type 0
Takes text old failed (Ok count) new fails =
    (1 ≤ count) × (count ≤ length text) × Appends old new (take count text) × (fails ≡ failed)
Takes text old failed (Err none) new fails = Keeps old new × HasFailed failed fails

-- all of the text was taken; or so many bytes of it, and then a write failed
abbrev pub HandsOn : {T : Type 0} → List ℕ → Option (List ℕ) → ℕ → Result T ℕ → Option (List ℕ) → ℕ → Type 0
HandsOn text old failed (Ok done) new fails = Appends old new text × (fails ≡ failed)
HandsOn text old failed (Err taken) new fails =
    (taken ≤ length text) × Appends old new (take taken text) × HasFailed failed fails
