-- Numbers that rise, as those of CCBs, freezes and runs do.
use Rattle.std.specs.Prelude.{ℕ, ◌<◌, ◌≤◌, List, [], ◌∷◌}

-- each number is above `low` and above the one before, so no two are the same, and none is above `high`
abbrev pub AreRising : ℕ → List ℕ → ℕ → Type 0
AreRising low [] high = low ≤ high
AreRising low (number ∷ numbers) high = (low < number) × AreRising number numbers high
