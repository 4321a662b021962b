-- Where an access begins, where that is known.
use Rattle.std.specs.Prelude.{◌≡◌, ℕ}
use Rattle.check_register_kinds.specs.declared.access.Access.{Access}
use Rattle.check_register_kinds.specs.declared.region.Region.{Region}

-- at that byte of the region
abbrev pub BeginsAt : Region → ℕ → Access → Type 0
BeginsAt region from access = access ≡ record { region = region; offsets = record { least = from; most = from } }
