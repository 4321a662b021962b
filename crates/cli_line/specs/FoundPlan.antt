-- The plan of what `clap` found.
use Rattle.std.specs.Prelude.{◌≡◌, ◌≤◌, ◌⊎◌, ℕ, Bool, List, [], ◌∷◌, MatchBool, Option, Some, None, codes, if◌then◌else◌, option_map, string_bytes}
use Rattle.std.specs.Str.{bytes_eq}
use Rattle.clap.specs.Words.{HasKind, Row, Text, fault_of, first_of, subcommand_of}
use Rattle.clap.specs.declared.error.Error.{Error}
use Rattle.cli_line.specs.Files.{stdin_reads}
use Rattle.cli_line.specs.RunCommand.{camr_command}
use Rattle.cli_line.specs.UsageFault.{IsValueFault}
use Rattle.cli_line.specs.RunLine.{HasLawfulNumber, IsLawfulNumber, IsRun, IsStrictRun, Spells, version_word, watch_word}
use Rattle.cli_line.specs.RunLine.{SpellsNoLawfulNumber}
use Rattle.cli_line.specs.declared.plans.LaterVersion.{LaterVersion}
use Rattle.cli_line.specs.declared.plans.Manner.{Manner}
use Rattle.cli_line.specs.declared.plans.Plan.{Plan}
use Rattle.cli_line.specs.declared.plans.Watch.{Watch}
use Rattle.cli_line.specs.declared.plans.Plan.TheVariants.{Asm, Migrate, Dis, Check, Run, Strict, Live, Journal, Audit, Replay}

-- these are what `clap` found after `run` under the arguments' names, and the plan has them
pub record HasFoundIn (Has : Text → Text → Text → Text → Plan → Type 0) (rows : List Row) (plan : Plan) : Type 0 where
  pub number : Text
  pub when : Text
  pub manifest : Text
  pub scenario : Text
  pub workers_found : first_of (codes "workers") rows ≡ Some number
  pub watch_found : first_of (codes "watch") rows ≡ Some when
  pub manifest_found : first_of (codes "MANIFEST") rows ≡ Some manifest
  pub scenario_found : first_of (codes "SCENARIO") rows ≡ Some scenario
  pub same : Has number when manifest scenario plan

-- a flag is given
abbrev pub IsGiven : Text → List Row → Type 0
IsGiven name rows = first_of name rows ≡ Some (codes "true")

-- the flag is given exactly if that is true
abbrev pub Tells : Text → List Row → Bool → Type 0
Tells name rows told = MatchBool told (IsGiven name rows) (IsGiven name rows → ⊥)

-- lines are carried out as the flags say, and what is counted goes into the file that was found, if one was
abbrev pub HasManner : List Row → Manner → Type 0
HasManner rows manner = Tells (codes "clock") rows manner.is_clocked × Tells (codes "step") rows manner.is_stepped × Tells (codes "ack") rows manner.is_told × (first_of (codes "metrics") rows ≡ option_map string_bytes manner.metrics)

-- the plan is what was asked for by that word, with what `clap` found after it
abbrev pub HasFoundBehind : Text → List Row → Plan → Type 0
HasFoundBehind name rows (Run workers watch a b) = (name ≡ codes "run") × (IsGiven (codes "strict") rows → ⊥) × HasFoundIn IsRun rows (Run workers watch a b)
HasFoundBehind name rows (Strict workers watch a b) = (name ≡ codes "run") × IsGiven (codes "strict") rows × HasFoundIn IsStrictRun rows (Strict workers watch a b)
HasFoundBehind name rows (Asm text program) =
    (name ≡ codes "asm") × (first_of (codes "IN") rows ≡ Some (string_bytes text)) × (first_of (codes "OUT") rows ≡ Some (string_bytes program))
HasFoundBehind name rows (Migrate to manifest migrated) =
    (name ≡ codes "migrate") × (first_of (codes "to") rows ≡ Some (version_word to)) × (first_of (codes "IN") rows ≡ Some (string_bytes manifest)) × (first_of (codes "OUT") rows ≡ Some (string_bytes migrated))
HasFoundBehind name rows (Dis program) =
    (name ≡ codes "dis") × (first_of (codes "FILE") rows ≡ Some (string_bytes program))
HasFoundBehind name rows (Check path) =
    (name ≡ codes "check") × (first_of (codes "MANIFEST") rows ≡ Some (string_bytes path))
HasFoundBehind name rows (Live manner manifest) =
    (name ≡ codes "live") × (first_of (codes "MANIFEST") rows ≡ Some (string_bytes manifest)) × HasManner rows manner
    × (first_of (codes "journal") rows ≡ None) × (IsGiven (codes "sync") rows → ⊥)
HasFoundBehind name rows (Journal manner is_synced folder manifest) =
    (name ≡ codes "live") × (first_of (codes "journal") rows ≡ Some (string_bytes folder)) × (first_of (codes "MANIFEST") rows ≡ option_map string_bytes manifest)
    × HasManner rows manner × Tells (codes "sync") rows is_synced
HasFoundBehind name rows (Audit folder) =
    (name ≡ codes "audit") × (first_of (codes "DIR") rows ≡ Some (string_bytes folder))
HasFoundBehind name rows (Replay manifest trace) =
    (name ≡ codes "replay") × (first_of (codes "MANIFEST") rows ≡ Some (string_bytes manifest)) × (first_of (codes "TRACE") rows ≡ Some (string_bytes trace))

-- the words asked for something, and the plan is that
abbrev pub HasFound : Option (Text × List Row) → Plan → Type 0
HasFound None plan = ⊥
HasFound (Some p) plan = HasFoundBehind p.0 p.1 plan

-- the number of workers that those rows give, and none only where they give no lawful one
abbrev pub ReadsWorkers : List Row → Option ℕ → Type 0
ReadsWorkers rows (Some n) = IsLawfulNumber n
    × ((word : Text) × (first_of (codes "workers") rows ≡ Some word) × Spells word n)
ReadsWorkers rows None = (word : Text) → first_of (codes "workers") rows ≡ Some word
    → SpellsNoLawfulNumber word

-- when those rows say that sums are told, and none only where they say it by no such word
abbrev pub ReadsWatch : List Row → Option Watch → Type 0
ReadsWatch rows (Some watch) = first_of (codes "watch") rows ≡ Some (watch_word watch)
ReadsWatch rows None = (watch : Watch) → first_of (codes "watch") rows ≡ Some (watch_word watch) → ⊥

-- the version that those rows give, and none only if they give it by no such word
abbrev pub ReadsVersion : List Row → Option LaterVersion → Type 0
ReadsVersion rows (Some to) = first_of (codes "to") rows ≡ Some (version_word to)
ReadsVersion rows None = (to : LaterVersion) → first_of (codes "to") rows ≡ Some (version_word to) → ⊥

-- a part of the run is missing from those rows
abbrev pub MakesNoRun : List Row → Type 0
MakesNoRun rows = (number manifest scenario : Text) (watch : Watch)
    → first_of (codes "workers") rows ≡ Some number
    → first_of (codes "watch") rows ≡ Some (watch_word watch)
    → first_of (codes "MANIFEST") rows ≡ Some manifest
    → first_of (codes "SCENARIO") rows ≡ Some scenario
    → SpellsNoLawfulNumber number

abbrev pub AreFound : List Text → List Row → Type 0
AreFound [] rows = Unit {0}
AreFound (id ∷ ids) rows = ((word : Text) × (first_of id rows ≡ Some word)) × AreFound ids rows

-- what has to be found after a word, where nothing else is tested
abbrev pub paths_of : Text → Option (List Text)
paths_of name =
    if bytes_eq name (codes "asm") then Some (codes "IN" ∷ codes "OUT" ∷ [])
    else (if bytes_eq name (codes "dis") then Some (codes "FILE" ∷ [])
    else (if bytes_eq name (codes "check") then Some (codes "MANIFEST" ∷ [])
    else (if bytes_eq name (codes "audit") then Some (codes "DIR" ∷ [])
    else (if bytes_eq name (codes "replay") then Some (codes "MANIFEST" ∷ codes "TRACE" ∷ [])
    else None))))

-- these are found, where it is known which have to be
abbrev pub AllFound : Option (List Text) → List Row → Type 0
AllFound None rows = ⊥
AllFound (Some ids) rows = AreFound ids rows

-- those rows are enough after `live`: there is a journal; or there is none that would be synced, and a manifest
abbrev pub MakesLive : Option Text → List Row → Type 0
MakesLive None rows = (IsGiven (codes "sync") rows → ⊥) × AreFound (codes "MANIFEST" ∷ []) rows
MakesLive (Some folder) rows = Unit {0}

-- those rows are enough after `migrate`: there are both paths, and the version is one that there is
abbrev pub MakesMigration : List Row → Type 0
MakesMigration rows = AreFound (codes "IN" ∷ codes "OUT" ∷ []) rows × ((to : LaterVersion) × (first_of (codes "to") rows ≡ Some (version_word to)))

-- those rows are enough for a plan after that word
abbrev pub Suffices : Text → List Row → Type 0
Suffices name rows = MatchBool (bytes_eq name (codes "live")) (MakesLive (first_of (codes "journal") rows) rows)
    (MatchBool (bytes_eq name (codes "migrate")) (MakesMigration rows) (AllFound (paths_of name) rows))

-- they are none after it
abbrev pub MakesNone : Text → List Row → Type 0
MakesNone name rows = MatchBool (bytes_eq name (codes "run")) (MakesNoRun rows) (Suffices name rows → ⊥)

-- what those rows ask for after that word, and none only where they are no plan
abbrev pub PlansBehind : Text → List Row → Option Plan → Type 0
PlansBehind name rows (Some plan) = HasFoundBehind name rows plan × HasLawfulNumber plan
PlansBehind name rows None = MakesNone name rows

-- the same of an engine without a journal: what those rows ask for, in that manner, and none only where they are no plan
abbrev pub PlansAlone : List Row → Manner → Option Plan → Type 0
PlansAlone rows manner (Some plan) = first_of (codes "journal") rows ≡ None → HasManner rows manner → HasFoundBehind (codes "live") rows plan × HasLawfulNumber plan
PlansAlone rows manner None = first_of (codes "journal") rows ≡ None → MakesNone (codes "live") rows

-- the same of the subcommand that `clap` found
abbrev pub PlansFound : Option (Text × List Row) → Option Plan → Type 0
PlansFound found (Some plan) = HasFound found plan × HasLawfulNumber plan
PlansFound found None = (name : Text) (rows : List Row) → found ≡ Some (name, rows) → MakesNone name rows

-- why words ask for nothing: `clap` refuses them so, or memory was refused; or `clap` finds no fault, but what it found is no plan, which
-- is the fault of a value
abbrev pub IsUnplanned : List Text → Error → Type 0
IsUnplanned words e =
    HasKind (fault_of camr_command words) e
    ⊎ ((fault_of camr_command words ≡ []) × IsValueFault e × PlansFound (subcommand_of camr_command words) None)

-- why words are refused: they ask for nothing, or, where `clap` finds no fault, for a plan that reads standard input more than once, which
-- is the fault of a value too
abbrev pub IsRefused : List Text → Error → Type 0
IsRefused words e = IsUnplanned words e ⊎ ((fault_of camr_command words ≡ []) × IsValueFault e × (plan : Plan) × HasFound (subcommand_of camr_command words) plan × (2 ≤ stdin_reads plan))
