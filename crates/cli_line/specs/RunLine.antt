-- The lines that ask for a run, and what each of them asks for.
use Rattle.std.specs.Prelude.{◌≡◌, ◌≤◌, ◌⊎◌, ◌==◌, if◌then◌else◌, ℕ, Bool, List, [], ◌∷◌, ◌++◌, Result}
use Rattle.std.specs.Prelude.{MatchResult, false, codes, string_bytes}
use Rattle.std.specs.Str.{bytes_eq}
use Rattle.std.specs.Str.Parse.{IsNumeral, digits_value}
use Rattle.clap.specs.Words.{Text, kind_of}
use Rattle.clap.specs.declared.error.Error.{Error}
use Rattle.clap.specs.declared.error.kind.ErrorKind.TheVariants as kind
use Rattle.cli_line.specs.declared.plans.LaterVersion.{LaterVersion}
use Rattle.cli_line.specs.declared.plans.LaterVersion.TheVariants.{Two, Three}
use Rattle.cli_line.specs.declared.plans.Plan.{Plan}
use Rattle.cli_line.specs.declared.plans.Plan.TheVariants.{Run, Strict}
use Rattle.cli_line.specs.declared.plans.Watch.{Watch}
use Rattle.cli_line.specs.declared.plans.Watch.TheVariants.{Never, Terminal, Lines}
use Rattle.cli_line.specs.declared.plans.TheConstants.{MAX_WORKERS, MIN_WORKERS}

-- a word that does not begin with a hyphen
abbrev pub begins_with_hyphen : Text → Bool
begins_with_hyphen [] = false
begins_with_hyphen (x ∷ rest) = x == 45

abbrev pub IsPlain : Text → Type 0
IsPlain word = begins_with_hyphen word ≡ false

-- the option and its number in one word
abbrev pub joined : Text → Text
joined number = codes "--workers=" ++ number

-- The word `--watch` by itself stands for `--watch=terminal`.
abbrev pub spelled_out : Text → Text
spelled_out word = if bytes_eq word (codes "--watch") then codes "--watch=terminal" else word

-- the words by which the option says when sums are told
abbrev pub watch_word : Watch → Text
watch_word Never = codes "never"
watch_word Terminal = codes "terminal"
watch_word Lines = codes "lines"

-- the words by which the option says in which version a manifest is written anew
abbrev pub version_word : LaterVersion → Text
version_word Two = codes "2"
version_word Three = codes "3"

-- the lines that ask for a run with this number of workers, this manifest and this scenario; the
-- number stands before, between or after the paths, and is 1 where there is none
pub data RunLine : List Text → Text → Text → Text → Type 0 where
  unnumbered : (m s : Text) → RunLine (codes "run" ∷ m ∷ s ∷ []) (codes "1") m s
  before : (n m s : Text) → RunLine (codes "run" ∷ codes "--workers" ∷ n ∷ m ∷ s ∷ []) n m s
  between : (n m s : Text) → RunLine (codes "run" ∷ m ∷ codes "--workers" ∷ n ∷ s ∷ []) n m s
  behind : (n m s : Text) → RunLine (codes "run" ∷ m ∷ s ∷ codes "--workers" ∷ n ∷ []) n m s
  joined_before : (n m s : Text) → RunLine (codes "run" ∷ joined n ∷ m ∷ s ∷ []) n m s
  joined_between : (n m s : Text) → RunLine (codes "run" ∷ m ∷ joined n ∷ s ∷ []) n m s
  joined_behind : (n m s : Text) → RunLine (codes "run" ∷ m ∷ s ∷ joined n ∷ []) n m s

-- the word spells the number in decimal digits, and has nothing but these: no sign stands before
-- them, and zeros may
abbrev pub Spells : Text → ℕ → Type 0
Spells word n = IsNumeral 10 word × (n ≡ digits_value 10 word)

-- there can be so many workers
abbrev pub IsLawfulNumber : ℕ → Type 0
IsLawfulNumber workers = (MIN_WORKERS ≤ workers) × (workers ≤ MAX_WORKERS)

-- the plan is a run with this number of workers, sums told when that word says, this manifest and this scenario
abbrev pub IsRun : Text → Text → Text → Text → Plan → Type 0
IsRun number when manifest scenario (Run workers watch a b) = Spells number workers
    × (watch_word watch ≡ when) × (string_bytes a ≡ manifest) × (string_bytes b ≡ scenario)
IsRun number when manifest scenario plan = ⊥

-- the same of a run that is strict
abbrev pub IsStrictRun : Text → Text → Text → Text → Plan → Type 0
IsStrictRun number when manifest scenario (Strict workers watch a b) = Spells number workers
    × (watch_word watch ≡ when) × (string_bytes a ≡ manifest) × (string_bytes b ≡ scenario)
IsStrictRun number when manifest scenario plan = ⊥

-- a run has a number of workers that there can be
abbrev pub HasLawfulNumber : Plan → Type 0
HasLawfulNumber (Run workers watch a b) = IsLawfulNumber workers
HasLawfulNumber (Strict workers watch a b) = IsLawfulNumber workers
HasLawfulNumber plan = Unit {0}

-- no number of workers that there can be is spelled so
abbrev pub SpellsNoLawfulNumber : Text → Type 0
SpellsNoLawfulNumber word = (n : ℕ) → Spells word n → IsLawfulNumber n → ⊥

-- that run, of which no sums are told; or memory was refused, or the number is none from 1 to 16
abbrev pub GivesRun : Text → Text → Text → Result Plan Error → Type 0
GivesRun number manifest scenario r = MatchResult r (IsRun number (codes "never") manifest scenario) (λ e.
    (kind_of e ≡ kind.OutOfMemory)
    ⊎ ((kind_of e ≡ kind.ValueValidation) × SpellsNoLawfulNumber number))
