-- Bytes that are a manifest.
use Rattle.std.specs.Prelude.{ℕ, List}
use Rattle.manifest.specs.Meaning.{Means}
use Rattle.world.specs.World.{Setup}

-- the bytes are a manifest of that configuration
abbrev pub IsConfigured : List ℕ → Setup → Type 0
IsConfigured bytes config = (programs : _) × Means bytes config programs
