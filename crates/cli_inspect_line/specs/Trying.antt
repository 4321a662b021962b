-- What is found after `try`.
use Rattle.std.specs.Prelude.{◌≡◌, ◌⊎◌, ℕ, List, Option, Some, None, String, codes, string_bytes}
use Rattle.std.specs.Global.{Global}
use Rattle.clap.specs.Words.{Row, Text, first_of}
use Rattle.trace_lines.specs.Texts.{long_number_text}
use Rattle.cli_inspect_line.specs.Deciding.{IsSpelled}

-- the seed is the number that was found, or none was
abbrev pub HasSeed : List Row → Option ℕ → Type 0
HasSeed rows None = first_of (codes "seed") rows ≡ None
HasSeed rows (Some seed) = IsSpelled long_number_text (codes "seed") rows seed

-- what was found is no number
abbrev pub LacksSeed : List Row → Type 0
LacksSeed rows = (seed : Option ℕ) → HasSeed rows seed → ⊥

-- the file for the trace is the one that was found, or none was
abbrev pub HasTrace : List Row → Option (String Global) → Type 0
HasTrace rows None = first_of (codes "trace") rows ≡ None
HasTrace rows (Some path) = first_of (codes "trace") rows ≡ Some (string_bytes path)

-- both paths are found, and a seed that is a number, or none
abbrev pub MakesTrial : List Row → Type 0
MakesTrial rows = ((manifest : Text) × (first_of (codes "MANIFEST") rows ≡ Some manifest)) × ((disks : Text) × (first_of (codes "DISKS") rows ≡ Some disks))
    × ((seed : Option ℕ) × HasSeed rows seed)
