-- The files that a plan reads, and the one that it writes; and how often it reads standard input.
use Rattle.std.specs.Prelude.{ℕ, List, [], ◌∷◌, Option, Some, None, string_bytes}
use Rattle.std.specs.Option.{option_map}
use Rattle.cli_line.specs.Files.{stream_count}
use Rattle.cli_inspect_line.specs.declared.plans.Plan.{Plan}
use Rattle.cli_inspect_line.specs.declared.plans.Plan.TheVariants.{ExplainCode, Explain, ExplainFile, Show, Summarise, Draw, Decide, Try}

-- the paths of those that are read, in the order of the line
abbrev pub input_paths : Plan → List (List ℕ)
input_paths (ExplainCode code) = []
input_paths (Explain manifest) = string_bytes manifest ∷ []
input_paths (ExplainFile manifest file) = string_bytes manifest ∷ string_bytes file ∷ []
input_paths (Show form filter manifest trace) = string_bytes manifest ∷ string_bytes trace ∷ []
input_paths (Summarise form manifest trace) = string_bytes manifest ∷ string_bytes trace ∷ []
input_paths (Draw drawing manifest trace output) = string_bytes manifest ∷ string_bytes trace ∷ []
input_paths (Decide extent question manifest) = string_bytes manifest ∷ []
input_paths (Try seed trace manifest disks) = string_bytes manifest ∷ string_bytes disks ∷ []

-- the path of the one that is written, if there is one
abbrev pub output_path : Plan → Option (List ℕ)
output_path (ExplainCode code) = None
output_path (Explain manifest) = None
output_path (ExplainFile manifest file) = None
output_path (Show form filter manifest trace) = None
output_path (Summarise form manifest trace) = None
output_path (Draw drawing manifest trace output) = Some (string_bytes output)
output_path (Decide extent question manifest) = None
output_path (Try seed trace manifest disks) = None

-- the path of the one that gets a trace beside what is printed, if there is one
abbrev pub kept_path : Plan → Option (List ℕ)
kept_path (Try seed trace manifest disks) = option_map (λ path. string_bytes path) trace
kept_path plan = None

-- the seed that is given, if one is
abbrev pub seed_of : Plan → Option ℕ
seed_of (Try seed trace manifest disks) = seed
seed_of plan = None

-- how often the plan reads standard input: for each file that it stands for
abbrev pub stdin_reads : Plan → ℕ
stdin_reads plan = stream_count (input_paths plan)
