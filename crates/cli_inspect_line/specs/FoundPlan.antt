-- The plan of what `clap` found.
use Rattle.std.specs.Prelude.{◌≡◌, ◌≤◌, ◌⊎◌, ℕ, IfSome, List, [], ◌∷◌, MatchBool, Option, Some, None, codes, string_bytes}
use Rattle.std.specs.Str.{bytes_eq}
use Rattle.clap.specs.Words.{HasKind, Row, Text, fault_of, first_of, subcommand_of}
use Rattle.clap.specs.declared.error.Error.{Error}
use Rattle.cli_line.specs.FoundPlan.{AreFound}
use Rattle.cli_line.specs.RunCommand.{camr_command}
use Rattle.cli_line.specs.UsageFault.{IsValueFault}
use Rattle.cli_line.specs.RunLine.{Spells}
use Rattle.base.specs.Hexadecimal.{byte_in}
use Rattle.cli_inspect_line.specs.Deciding.{HasExtent, HasQuestion}
use Rattle.cli_inspect_line.specs.Files.{stdin_reads}
use Rattle.cli_inspect_line.specs.InspectLines.{everything}
use Rattle.cli_inspect_line.specs.ReportedWords.{refused_in, sense_in}
use Rattle.cli_inspect_line.specs.declared.plans.Drawing.{Drawing}
use Rattle.cli_inspect_line.specs.declared.plans.Drawing.TheVariants.{Svg, Perfetto}
use Rattle.cli_inspect_line.specs.declared.plans.Form.{Form}
use Rattle.cli_inspect_line.specs.declared.plans.Form.TheVariants.{Words, Json}
use Rattle.cli_inspect_line.specs.declared.plans.Plan.{Plan}
use Rattle.cli_inspect_line.specs.declared.plans.Plan.TheVariants.{ExplainCode, Explain, ExplainFile, Show, Summarise, Draw, Decide, Try}
use Rattle.cli_inspect_line.specs.declared.showing.TheConstants.{LAST_NUMBER, LAST_QUEUE, LAST_READING}
use Rattle.cli_inspect_line.specs.Trying.{HasSeed, HasTrace, MakesTrial}
use Rattle.explain_codes.specs.Names.{code_named}
use Rattle.show_events.specs.declared.filter.Filter.{Filter}
use Rattle.show_question.specs.declared.Question.{Question}

-- the number that `clap` found under that name, in decimal digits alone
abbrev pub FindsNumber : Text → List Row → Option ℕ → Type 0
FindsNumber name rows None = first_of name rows ≡ None
FindsNumber name rows (Some n) = (word : Text) × (first_of name rows ≡ Some word) × Spells word n

-- what a word says that `clap` found under that name, as it is read
abbrev pub Finds : {X : Type 0} → (Text → Option X) → Text → List Row → Option X → Type 0
Finds read name rows None = first_of name rows ≡ None
Finds read name rows (Some x) = (word : Text) × (first_of name rows ≡ Some word) × (read word ≡ Some x)

-- the filter has the numbers that `clap` found, and what other words say
pub record HasFilter (rows : List Row) (filter : Filter) : Type 0 where
  pub ccb : FindsNumber (codes "ccb") rows filter.ccb
  pub queue : FindsNumber (codes "queue") rows filter.queue
  pub run : FindsNumber (codes "run") rows filter.run
  pub freeze : FindsNumber (codes "freeze") rows filter.freeze
  pub from : FindsNumber (codes "from") rows filter.from
  pub to : FindsNumber (codes "to") rows filter.to
  pub status : Finds byte_in (codes "status") rows filter.status
  pub sense : Finds sense_in (codes "sense") rows filter.sense
  pub refused : Finds refused_in (codes "refused") rows filter.refused

-- a number, if there is one, is at most that
abbrev pub IsUpTo : ℕ → Option ℕ → Type 0
IsUpTo greatest number = IfSome number (λ n. n ≤ greatest)

-- each of its numbers is one that there can be
pub record IsWithin (filter : Filter) : Type 0 where
  pub ccb : IsUpTo LAST_NUMBER filter.ccb
  pub queue : IsUpTo LAST_QUEUE filter.queue
  pub run : IsUpTo LAST_NUMBER filter.run
  pub freeze : IsUpTo LAST_NUMBER filter.freeze
  pub from : IsUpTo LAST_READING filter.from
  pub to : IsUpTo LAST_READING filter.to

-- `clap` found a manifest and a trace
abbrev pub HasBoth : List Row → Text → Text → Type 0
HasBoth rows manifest trace = (first_of (codes "MANIFEST") rows ≡ Some manifest) × (first_of (codes "TRACE") rows ≡ Some trace)

-- it found what stands in place of the account: a flag is found as the word `true`
abbrev pub AsksSummary : List Row → Type 0
AsksSummary rows = first_of (codes "summary") rows ≡ Some (codes "true")

-- of what is drawn into a file of its own it found that alone, with the file's path
abbrev pub AsksDrawing : List Row → Drawing → Text → Type 0
AsksDrawing rows Svg output = (first_of (codes "svg") rows ≡ Some output) × (first_of (codes "perfetto") rows ≡ None)
AsksDrawing rows Perfetto output = (first_of (codes "svg") rows ≡ None) × (first_of (codes "perfetto") rows ≡ Some output)

-- it found nothing that is drawn
abbrev pub AsksNoDrawing : List Row → Type 0
AsksNoDrawing rows = (first_of (codes "svg") rows ≡ None) × (first_of (codes "perfetto") rows ≡ None)

-- it found that JSON is asked for
abbrev pub AsksJson : List Row → Type 0
AsksJson rows = first_of (codes "json") rows ≡ Some (codes "true")

-- the form is that which is asked for
abbrev pub HasForm : List Row → Form → Type 0
HasForm rows Words = AsksJson rows → ⊥
HasForm rows Json = AsksJson rows

-- the plan is that of a word alone: a code, or the manifest of that path
abbrev pub IsOfWord : Text → Plan → Type 0
IsOfWord word (ExplainCode code) = code_named word ≡ Some code
IsOfWord word (Explain path) = (string_bytes path ≡ word) × (code_named word ≡ None)
IsOfWord word plan = ⊥

-- the plan is that of a manifest and of another file
abbrev pub IsOfFiles : Text → Text → Plan → Type 0
IsOfFiles manifest file (ExplainFile a b) = (string_bytes a ≡ manifest) × (string_bytes b ≡ file)
IsOfFiles manifest file plan = ⊥

-- the plan is what was asked for by that word, with what `clap` found after it
abbrev pub HasFoundBehind : Text → List Row → Plan → Type 0
HasFoundBehind name rows (ExplainCode code) =
    (name ≡ codes "explain") × ((word : Text) × (first_of (codes "WORD") rows ≡ Some word) × (code_named word ≡ Some code)) × (first_of (codes "FILE") rows ≡ None)
HasFoundBehind name rows (Explain path) =
    (name ≡ codes "explain") × (first_of (codes "WORD") rows ≡ Some (string_bytes path)) × (code_named (string_bytes path) ≡ None) × (first_of (codes "FILE") rows ≡ None)
HasFoundBehind name rows (ExplainFile manifest file) =
    (name ≡ codes "explain") × (first_of (codes "WORD") rows ≡ Some (string_bytes manifest)) × (first_of (codes "FILE") rows ≡ Some (string_bytes file))
HasFoundBehind name rows (Show form filter manifest trace) =
    (name ≡ codes "show") × HasBoth rows (string_bytes manifest) (string_bytes trace) × HasFilter rows filter
    × (AsksSummary rows → ⊥) × AsksNoDrawing rows × IsWithin filter × HasForm rows form
HasFoundBehind name rows (Summarise form manifest trace) =
    (name ≡ codes "show") × HasBoth rows (string_bytes manifest) (string_bytes trace) × HasFilter rows everything × AsksSummary rows
    × AsksNoDrawing rows × HasForm rows form
HasFoundBehind name rows (Draw drawing manifest trace output) =
    (name ≡ codes "show") × HasBoth rows (string_bytes manifest) (string_bytes trace) × HasFilter rows everything
    × (AsksSummary rows → ⊥) × AsksDrawing rows drawing (string_bytes output) × HasForm rows Words
HasFoundBehind name rows (Decide extent question manifest) =
    (name ≡ codes "decide") × (first_of (codes "MANIFEST") rows ≡ Some (string_bytes manifest)) × HasQuestion rows question × HasExtent rows extent
HasFoundBehind name rows (Try seed trace manifest disks) =
    (name ≡ codes "try") × (first_of (codes "MANIFEST") rows ≡ Some (string_bytes manifest)) × (first_of (codes "DISKS") rows ≡ Some (string_bytes disks))
    × HasSeed rows seed × HasTrace rows trace

-- the words asked for something, and the plan is that
abbrev pub HasFound : Option (Text × List Row) → Plan → Type 0
HasFound None plan = ⊥
HasFound (Some p) plan = HasFoundBehind p.0 p.1 plan

-- one drawing at most is asked for
abbrev pub AsksOneDrawing : List Row → Type 0
AsksOneDrawing rows = (first_of (codes "svg") rows ≡ None) ⊎ (first_of (codes "perfetto") rows ≡ None)

-- which of the three is asked for: the account of some events, or of all events the counts or a drawing, which has no other form
abbrev pub AsksOne : List Row → Filter → Type 0
AsksOne rows filter = ((AsksSummary rows → ⊥) × AsksNoDrawing rows)
    ⊎ ((filter ≡ everything) × (AsksSummary rows → AsksNoDrawing rows) × (AsksJson rows → AsksNoDrawing rows) × AsksOneDrawing rows)

-- after `show` both paths are found, numbers that there can be, and one thing that is asked for
abbrev pub MakesAccount : List Row → Type 0
MakesAccount rows = AreFound (codes "MANIFEST" ∷ codes "TRACE" ∷ []) rows
    × ((filter : Filter) × IsWithin filter × HasFilter rows filter × AsksOne rows filter)

-- after `decide` a manifest is found, and words that are spelled as they have to be
abbrev pub MakesQuestion : List Row → Type 0
MakesQuestion rows = AreFound (codes "MANIFEST" ∷ []) rows × ((question : Question) × HasQuestion rows question)

-- those rows are enough for a plan after that word
abbrev pub Suffices : Text → List Row → Type 0
Suffices name rows = MatchBool (bytes_eq name (codes "show")) (MakesAccount rows)
    (MatchBool (bytes_eq name (codes "explain")) (AreFound (codes "WORD" ∷ []) rows)
    (MatchBool (bytes_eq name (codes "decide")) (MakesQuestion rows)
    (MatchBool (bytes_eq name (codes "try")) (MakesTrial rows) ⊥)))

-- what those rows ask for after that word, and none only where they are not enough for a plan
abbrev pub PlansBehind : Text → List Row → Option Plan → Type 0
PlansBehind name rows (Some plan) = HasFoundBehind name rows plan
PlansBehind name rows None = Suffices name rows → ⊥

-- the same after `show`, if both paths and that filter are found
abbrev pub PlansShow : List Row → Filter → Text → Text → Option Plan → Type 0
PlansShow rows filter manifest trace planned = HasBoth rows manifest trace → HasFilter rows filter → IsWithin filter → PlansBehind (codes "show") rows planned

-- the same of the subcommand that `clap` found
abbrev pub PlansFound : Option (Text × List Row) → Option Plan → Type 0
PlansFound found (Some plan) = HasFound found plan
PlansFound found None = (name : Text) (rows : List Row) → found ≡ Some (name, rows) → Suffices name rows → ⊥

-- why words ask for nothing: `clap` refuses them so, or memory was refused; or `clap` finds no fault, but what it found is no plan, which
-- is the fault of a value
abbrev pub IsUnplanned : List Text → Error → Type 0
IsUnplanned words e =
    HasKind (fault_of camr_command words) e
    ⊎ ((fault_of camr_command words ≡ []) × IsValueFault e × PlansFound (subcommand_of camr_command words) None)

-- why words are refused: they ask for nothing, or, where `clap` finds no fault, for a plan that reads standard input more than once, which
-- is the fault of a value too
abbrev pub IsRefused : List Text → Error → Type 0
IsRefused words e = IsUnplanned words e ⊎ ((fault_of camr_command words ≡ []) × IsValueFault e × (plan : Plan) × HasFound (subcommand_of camr_command words) plan × (2 ≤ stdin_reads plan))
