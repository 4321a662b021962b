-- The lines that ask for something other than a run: a word, flags, and the paths of the files; and what each of them asks for.
use Rattle.std.specs.Prelude.{◌≡◌, Bool, List, [], ◌∷◌, None, Some, codes, if◌then◌else◌, option_map, string_bytes}
use Rattle.clap.specs.Words.{Text}
use Rattle.cli_line.specs.RunLine.{IsPlain}
use Rattle.cli_line.specs.declared.plans.LaterVersion.{LaterVersion}
use Rattle.cli_line.specs.declared.plans.LaterVersion.TheVariants.{Two, Three}
use Rattle.cli_line.specs.declared.plans.Manner.{Manner}
use Rattle.cli_line.specs.declared.plans.Plan.{Plan}
use Rattle.cli_line.specs.declared.plans.Plan.TheVariants as plans

-- what such a line asks for, in its own words: the paths as they stand there
pub data Asked : Type 0 where
  Asm : (text program : Text) → Asked
  Dis : (program : Text) → Asked
  Check : (manifest : Text) → Asked
  Migrate : (to : LaterVersion) (manifest migrated : Text) → Asked
  Live : (is_clocked is_stepped is_told : Bool) (manifest : Text) → Asked
  -- a journal, without the manifest or with it
  Reopen : (is_synced is_clocked is_stepped is_told : Bool) (folder : Text) → Asked
  Journal : (is_synced is_clocked is_stepped is_told : Bool) (folder manifest : Text) → Asked
  Audit : (folder : Text) → Asked
  Replay : (manifest trace : Text) → Asked

-- the flag, if it is given, and the words after it
abbrev pub flagged : Bool → Text → List Text → List Text
flagged is_given flag words = if is_given then flag ∷ words else words

-- the flags that say how lines are carried out, and the words after them
abbrev pub live_words : (is_clocked is_stepped is_told : Bool) → List Text → List Text
live_words is_clocked is_stepped is_told words = flagged is_clocked (codes "--clock") (flagged is_stepped (codes "--step") (flagged is_told (codes "--ack") words))

-- the option that says the version, which is 2 without it, and the words after it
abbrev pub to_words : LaterVersion → List Text → List Text
to_words Two words = words
to_words Three words = codes "--to" ∷ codes "3" ∷ words

abbrev pub line_of : Asked → List Text
line_of (Asm text program) = codes "asm" ∷ text ∷ program ∷ []
line_of (Dis program) = codes "dis" ∷ program ∷ []
line_of (Check manifest) = codes "check" ∷ manifest ∷ []
line_of (Migrate to manifest migrated) = codes "migrate" ∷ to_words to (manifest ∷ migrated ∷ [])
line_of (Live is_clocked is_stepped is_told manifest) = codes "live" ∷ live_words is_clocked is_stepped is_told (manifest ∷ [])
line_of (Reopen is_synced is_clocked is_stepped is_told folder) =
    codes "live" ∷ codes "--journal" ∷ folder ∷ flagged is_synced (codes "--sync") (live_words is_clocked is_stepped is_told [])
line_of (Journal is_synced is_clocked is_stepped is_told folder manifest) =
    codes "live" ∷ codes "--journal" ∷ folder ∷ flagged is_synced (codes "--sync") (live_words is_clocked is_stepped is_told (manifest ∷ []))
line_of (Audit folder) = codes "audit" ∷ folder ∷ []
line_of (Replay manifest trace) = codes "replay" ∷ manifest ∷ trace ∷ []

-- none of its paths begins with a hyphen
abbrev pub ArePlain : Asked → Type 0
ArePlain (Asm text program) = IsPlain text × IsPlain program
ArePlain (Dis program) = IsPlain program
ArePlain (Check manifest) = IsPlain manifest
ArePlain (Migrate to manifest migrated) = IsPlain manifest × IsPlain migrated
ArePlain (Live is_clocked is_stepped is_told manifest) = IsPlain manifest
ArePlain (Reopen is_synced is_clocked is_stepped is_told folder) = IsPlain folder
ArePlain (Journal is_synced is_clocked is_stepped is_told folder manifest) = IsPlain folder × IsPlain manifest
ArePlain (Audit folder) = IsPlain folder
ArePlain (Replay manifest trace) = IsPlain manifest × IsPlain trace

-- lines are carried out so, and what is counted goes nowhere
abbrev pub IsManner : (is_clocked is_stepped is_told : Bool) → Manner → Type 0
IsManner is_clocked is_stepped is_told manner = (manner.is_clocked ≡ is_clocked) × (manner.is_stepped ≡ is_stepped) × (manner.is_told ≡ is_told) × (option_map string_bytes manner.metrics ≡ None)

-- the plan is that, of the files at these paths
abbrev pub IsAsked : Asked → Plan → Type 0
IsAsked (Asm text program) (plans.Asm a b) = (string_bytes a ≡ text) × (string_bytes b ≡ program)
IsAsked (Dis program) (plans.Dis a) = string_bytes a ≡ program
IsAsked (Check manifest) (plans.Check a) = string_bytes a ≡ manifest
IsAsked (Migrate to manifest migrated) (plans.Migrate later a b) = (later ≡ to) × (string_bytes a ≡ manifest) × (string_bytes b ≡ migrated)
IsAsked (Live is_clocked is_stepped is_told manifest) (plans.Live manner a) = IsManner is_clocked is_stepped is_told manner × (string_bytes a ≡ manifest)
IsAsked (Reopen is_synced is_clocked is_stepped is_told folder) (plans.Journal manner synced a b) =
    IsManner is_clocked is_stepped is_told manner × (synced ≡ is_synced) × (string_bytes a ≡ folder) × (option_map string_bytes b ≡ None)
IsAsked (Journal is_synced is_clocked is_stepped is_told folder manifest) (plans.Journal manner synced a b) =
    IsManner is_clocked is_stepped is_told manner × (synced ≡ is_synced) × (string_bytes a ≡ folder) × (option_map string_bytes b ≡ Some manifest)
IsAsked (Audit folder) (plans.Audit a) = string_bytes a ≡ folder
IsAsked (Replay manifest trace) (plans.Replay a b) = (string_bytes a ≡ manifest) × (string_bytes b ≡ trace)
IsAsked asked plan = ⊥
