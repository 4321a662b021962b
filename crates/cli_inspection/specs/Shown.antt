-- What the status of a plan says of the files that it reads.
use Rattle.std.specs.Prelude.{◌≡◌, ◌≢◌, ◌++◌, ◌∷◌, ◌⊎◌, [], ℕ, Bool, true, false, Contains, List, Option, None, codes}
use Rattle.std.specs.Io.{StartsWith}
use Rattle.std.specs.Io.KnownBytes.{Appends}
use Rattle.world_calls.specs.declared.trace.Trace.{Trace}
use Rattle.cli_commands.specs.FaultText.{report_of}
use Rattle.cli_commands.specs.Told.{IsAcceptedTrace, IsFaultyManifest, IsManifest, IsManifestFault, IsOfManifest, IsOfScenarioText, IsFaultyScenario, IsRejectedTrace, IsScenarioFault, IsTraceFault, PutsOut}
use Rattle.cli_commands.specs.declared.fault.Fault.{Fault}
use Rattle.cli_commands.specs.declared.fault.Fault.TheVariants as faults
use Rattle.trace.specs.declared.fault.TraceFault.TheVariants.{Header}
use Rattle.world.specs.World.{Setup}
use Rattle.show_question.specs.declared.Question.{Question}
use Rattle.host_decision.specs.declared.undecided.Undecided.{Undecided}
use Rattle.show_decision.specs.Table.{IsTabled}
use Rattle.show_decision.specs.Told.{IsAnswered}
use Rattle.cli_inspection.specs.Configured.{IsConfigured}
use Rattle.cli_inspection.specs.Trials.{IsLeft, IsTriedOut}
use Rattle.cli_inspect_line.specs.Files.{kept_path}
use Rattle.cli_inspect_line.specs.declared.plans.Extent.{Extent}
use Rattle.cli_inspect_line.specs.declared.plans.Extent.TheVariants.{One, AllSense}
use Rattle.cli_inspect_line.specs.declared.plans.Plan.{Plan}
use Rattle.cli_inspect_line.specs.declared.plans.Plan.TheVariants.{ExplainCode, Explain, ExplainFile, Show, Summarise, Draw, Decide, Try}

-- a plan's first file is what the plan asks for; for a code nothing is read
abbrev pub IsAsAsked : Plan → List ℕ → Type 0
IsAsAsked (ExplainCode code) bytes = Unit {0}
IsAsAsked (Explain manifest) bytes = IsManifest bytes
IsAsAsked (ExplainFile manifest file) bytes = IsManifest bytes
IsAsAsked (Show form filter manifest trace) bytes = IsManifest bytes
IsAsAsked (Summarise form manifest trace) bytes = IsManifest bytes
IsAsAsked (Draw drawing manifest trace output) bytes = IsManifest bytes
IsAsAsked (Decide extent question manifest) bytes = IsManifest bytes
IsAsAsked (Try seed trace manifest disks) bytes = IsManifest bytes

-- it has a fault; where a trace is read too, the fault may be there
abbrev pub IsFaulty : Plan → List ℕ → Type 0
IsFaulty (ExplainCode code) bytes = Unit {0}
IsFaulty (Explain manifest) bytes = IsFaultyManifest bytes
IsFaulty (ExplainFile manifest file) bytes = Unit {0}
IsFaulty (Show form filter manifest trace) bytes = Unit {0}
IsFaulty (Summarise form manifest trace) bytes = Unit {0}
IsFaulty (Draw drawing manifest trace output) bytes = Unit {0}
IsFaulty (Decide extent question manifest) bytes = IsFaultyManifest bytes
IsFaulty (Try seed trace manifest disks) bytes = Unit {0}

-- the plan may have put something out although its status is 1: it explains why, or tells what a trial leaves
abbrev pub may_put : Plan → Bool
may_put (ExplainCode code) = true
may_put (Explain manifest) = true
may_put (ExplainFile manifest file) = true
may_put (Try seed trace manifest disks) = true
may_put plan = false

-- the plan explains, so that it is on the output that it says why a file is refused
abbrev pub explains : Plan → Bool
explains (ExplainCode code) = true
explains (Explain manifest) = true
explains (ExplainFile manifest file) = true
explains plan = false

-- what went out of a plan that was carried out; of texts that tell people something nothing is said
abbrev pub IsOutput : Plan → Option (List ℕ) → Option (List ℕ) → Type 0
IsOutput (ExplainFile manifest file) old new = PutsOut (λ output. output ≡ codes "accepted" ++ 10 ∷ []) old new
IsOutput plan old new = Unit {0}

-- what was printed of a question: what engines of the configuration decide of the one failure, or of all sense data
abbrev pub IsPrinted : Extent → Setup → Question → (old new : Option (List ℕ)) → Option Undecided → Type 0
IsPrinted One config question old new undecided = IsAnswered config question old new undecided
IsPrinted AllSense config question old new undecided = IsTabled config question old new undecided

abbrev pub IsDecided : Extent → Question → List ℕ → Option (List ℕ) → Option (List ℕ) → Type 0
IsDecided extent question bytes old new = (config : Setup) × IsConfigured bytes config × IsPrinted extent config question old new None

-- what went out of a plan that asks a policy of a manifest, whose bytes these are
abbrev pub IsPlanDecided : Plan → List ℕ → Option (List ℕ) → Option (List ℕ) → Type 0
IsPlanDecided (Decide extent question manifest) bytes old new = IsDecided extent question bytes old new
IsPlanDecided plan bytes old new = Unit {0}

-- what was tried of a plan that tries the policies of a manifest on devices, and what was kept of it
abbrev pub IsPlanTried : Plan → (first second : List ℕ) → (out-old out-new kept-old kept-new : Option (List ℕ)) → Type 0
IsPlanTried (Try seed trace manifest disks) first second out-old out-new kept-old kept-new =
    IsTriedOut (kept_path (Try seed trace manifest disks)) first second out-old out-new kept-old kept-new
IsPlanTried plan first second out-old out-new kept-old kept-new = Unit {0}

-- and what was kept where the trial is not finished
abbrev pub IsPlanLeft : Plan → (first second : List ℕ) → (out-old out-new kept-old kept-new : Option (List ℕ)) → Type 0
IsPlanLeft (Try seed trace manifest disks) first second out-old out-new kept-old kept-new =
    IsLeft (kept_path (Try seed trace manifest disks)) first second out-old out-new kept-old kept-new
IsPlanLeft plan first second out-old out-new kept-old kept-new = Unit {0}

-- whether nothing is read
abbrev pub is_of_code : Plan → Bool
is_of_code (ExplainCode code) = true
is_of_code plan = false

-- these stand before the last line feed of a text, and after it
abbrev pub IsLastFeed : List ℕ → List ℕ → List ℕ → Type 0
IsLastFeed text lines rest = (text ≡ lines ++ 10 ∷ rest) × (Contains rest 10 → ⊥)

-- the text has the whole lines of a trace, and a last line after them
abbrev pub Closes : List ℕ → List ℕ → Type 0
Closes trace text = (lines : List ℕ) × (rest : List ℕ) × (last : List ℕ) × IsLastFeed trace lines rest × (text ≡ lines ++ 10 ∷ last) × (last ≢ [])

-- the trace is open: its whole lines, none of which is the last one, are with a last line an accepted trace
abbrev pub IsOpenTrace : List ℕ → List ℕ → Type 0
IsOpenTrace manifest trace = (text : List ℕ) × Closes trace text × IsAcceptedTrace manifest text

abbrev pub IsWholeOrOpen : List ℕ → List ℕ → Type 0
IsWholeOrOpen manifest trace = IsAcceptedTrace manifest trace ⊎ IsOpenTrace manifest trace

-- The one text is a manifest, and the other a scenario that was carried out to its end on an engine of it.
abbrev pub IsCarriedOut : List ℕ → List ℕ → Type 0
IsCarriedOut manifest scenario = IsManifest manifest × ((trace : Trace) × IsOfManifest manifest trace × IsOfScenarioText scenario trace)

-- the one text is a manifest, and the other a trace that is accepted over it, or such a scenario
abbrev pub IsAcceptedFile : List ℕ → List ℕ → Type 0
IsAcceptedFile manifest file = IsAcceptedTrace manifest file ⊎ IsCarriedOut manifest file

-- the text begins as that of a trace does
abbrev pub BeginsTrace : List ℕ → Type 0
BeginsTrace text = StartsWith text (codes "camr-trace ")

-- Why a file is not accepted over a manifest. What begins as a trace does is judged as one, and all else as a scenario; of what is none
-- because of a line, it may be told that it does not begin as a trace.
abbrev pub IsFileFault : List ℕ → List ℕ → Fault → Type 0
IsFileFault manifest file fault =
    (BeginsTrace file × IsTraceFault manifest file fault)
    ⊎ ((BeginsTrace file → ⊥) × (IsScenarioFault manifest file fault ⊎ ((fault ≡ faults.Trace Header) × IsManifest manifest × IsFaultyScenario manifest file)))

-- a text went out that begins with the line of a fault of this kind
abbrev pub PutsFault : (Fault → Type 0) → Option (List ℕ) → Option (List ℕ) → Type 0
PutsFault Is old new = (fault : Fault) × (rest : List ℕ) × Is fault × Appends old new (report_of fault ++ rest)

-- what a plan's second file is, beside the first, where the plan was carried out
abbrev pub IsAccepted : Plan → List ℕ → List ℕ → Type 0
IsAccepted (ExplainFile manifest file) first second = IsAcceptedFile first second
IsAccepted (Show form filter manifest trace) first second = IsWholeOrOpen first second
IsAccepted (Summarise form manifest trace) first second = IsWholeOrOpen first second
IsAccepted (Draw drawing manifest trace output) first second = IsWholeOrOpen first second
IsAccepted plan first second = Unit {0}

-- what is wrong with a plan's first file, or with its second beside the first, where the plan was refused
abbrev pub IsRejected : Plan → List ℕ → List ℕ → Type 0
IsRejected (ExplainFile manifest file) first second = (fault : Fault) × IsFileFault first second fault
IsRejected (Show form filter manifest trace) first second = IsRejectedTrace first second
IsRejected (Summarise form manifest trace) first second = IsRejectedTrace first second
IsRejected (Draw drawing manifest trace output) first second = IsRejectedTrace first second
IsRejected plan first second = Unit {0}

-- what went out of a plan that explains why its first file is refused, or its second beside the first: it begins with the fault
abbrev pub IsReported : Plan → List ℕ → Option (List ℕ) → Option (List ℕ) → Type 0
IsReported (Explain manifest) first old new = PutsFault (IsManifestFault first) old new
IsReported plan first old new = Unit {0}

abbrev pub AreReported : Plan → List ℕ → List ℕ → Option (List ℕ) → Option (List ℕ) → Type 0
AreReported (ExplainFile manifest file) first second old new = PutsFault (IsFileFault first second) old new
AreReported plan first second old new = Unit {0}
