-- The two flags of a CCB's status word, above the six bits of the code.
use Rattle.std.specs.Prelude.{ℕ}

-- the device queue was frozen
abbrev pub dev_qfrzn : ℕ
dev_qfrzn = 0x40

-- sense bytes came
abbrev pub autosns_valid : ℕ
autosns_valid = 0x80
