-- At most 64 bytes.
use Rattle.std.specs.Prelude.{ℕ, List}
use Rattle.base.specs.Padded.{padded}

-- the most bytes that are kept
abbrev pub most_bytes : ℕ
most_bytes = 64

-- the bytes, padded with zeros to 64
abbrev pub padded_bytes : List ℕ → List ℕ
padded_bytes bytes = padded 0 most_bytes bytes
