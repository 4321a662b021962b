-- The lines that ask to explain or to show: a word, an option, and the paths of the files; and what each of them asks for.
use Rattle.std.specs.Prelude.{◌≡◌, List, [], ◌∷◌, None, Some, codes, string_bytes}
use Rattle.clap.specs.Words.{Text}
use Rattle.cli_line.specs.RunLine.{IsPlain}
use Rattle.cli_inspect_line.specs.declared.plans.Drawing.{Drawing}
use Rattle.cli_inspect_line.specs.declared.plans.Drawing.TheVariants.{Svg, Perfetto}
use Rattle.cli_inspect_line.specs.declared.plans.Form.TheVariants.{Words, Json}
use Rattle.cli_inspect_line.specs.declared.plans.Plan.{Plan}
use Rattle.cli_inspect_line.specs.declared.plans.Plan.TheVariants as plans
use Rattle.explain_codes.specs.Names.{code_named}
use Rattle.show_events.specs.declared.filter.Filter.{Filter}

-- what such a line asks for, in its own words: the paths as they stand there
pub data Asked : Type 0 where
  Explain : (word : Text) → Asked
  ExplainFile : (manifest file : Text) → Asked
  Show : (manifest trace : Text) → Asked
  ShowAsJson : (manifest trace : Text) → Asked
  Summarise : (manifest trace : Text) → Asked
  SummariseAsJson : (manifest trace : Text) → Asked
  Draw : (drawing : Drawing) (output manifest trace : Text) → Asked

-- the option that asks for a drawing
abbrev pub option_of : Drawing → Text
option_of Svg = codes "--svg"
option_of Perfetto = codes "--perfetto"

abbrev pub line_of : Asked → List Text
line_of (Explain word) = codes "explain" ∷ word ∷ []
line_of (ExplainFile manifest file) = codes "explain" ∷ manifest ∷ file ∷ []
line_of (Show manifest trace) = codes "show" ∷ manifest ∷ trace ∷ []
line_of (ShowAsJson manifest trace) = codes "show" ∷ codes "--json" ∷ manifest ∷ trace ∷ []
line_of (SummariseAsJson manifest trace) = codes "show" ∷ codes "--summary" ∷ codes "--json" ∷ manifest ∷ trace ∷ []
line_of (Summarise manifest trace) = codes "show" ∷ codes "--summary" ∷ manifest ∷ trace ∷ []
line_of (Draw drawing output manifest trace) = codes "show" ∷ option_of drawing ∷ output ∷ manifest ∷ trace ∷ []

-- none of its paths begins with a hyphen
abbrev pub ArePlain : Asked → Type 0
ArePlain (Explain word) = IsPlain word
ArePlain (ExplainFile manifest file) = IsPlain manifest × IsPlain file
ArePlain (Show manifest trace) = IsPlain manifest × IsPlain trace
ArePlain (ShowAsJson manifest trace) = IsPlain manifest × IsPlain trace
ArePlain (SummariseAsJson manifest trace) = IsPlain manifest × IsPlain trace
ArePlain (Summarise manifest trace) = IsPlain manifest × IsPlain trace
ArePlain (Draw drawing output manifest trace) = IsPlain output × IsPlain manifest × IsPlain trace

-- all events are wanted
abbrev pub everything : Filter
everything = record { ccb = None; queue = None; run = None; freeze = None; from = None; to = None; status = None; sense = None; refused = None }

-- the plan is that, of the files at these paths; `explain` explains the code that its word is if that stands alone, and if it is none, the
-- manifest of that path
abbrev pub IsAsked : Asked → Plan → Type 0
IsAsked (Explain word) (plans.ExplainCode code) = code_named word ≡ Some code
IsAsked (Explain word) (plans.Explain a) = (code_named word ≡ None) × (string_bytes a ≡ word)
IsAsked (ExplainFile manifest file) (plans.ExplainFile a b) = (string_bytes a ≡ manifest) × (string_bytes b ≡ file)
IsAsked (Show manifest trace) (plans.Show form filter a b) = (filter ≡ everything) × (string_bytes a ≡ manifest) × (string_bytes b ≡ trace) × (form ≡ Words)
IsAsked (ShowAsJson manifest trace) (plans.Show form filter a b) = (filter ≡ everything) × (string_bytes a ≡ manifest) × (string_bytes b ≡ trace) × (form ≡ Json)
IsAsked (Summarise manifest trace) (plans.Summarise form a b) = (string_bytes a ≡ manifest) × (string_bytes b ≡ trace) × (form ≡ Words)
IsAsked (SummariseAsJson manifest trace) (plans.Summarise form a b) = (string_bytes a ≡ manifest) × (string_bytes b ≡ trace) × (form ≡ Json)
IsAsked (Draw drawing output manifest trace) (plans.Draw d a b c) = (string_bytes a ≡ manifest) × (string_bytes b ≡ trace) × (string_bytes c ≡ output) × (d ≡ drawing)
IsAsked asked plan = ⊥
