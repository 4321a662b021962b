-- The files that a plan reads, and the one that it writes; and how often it reads standard input.
use Rattle.std.specs.Prelude.{ℕ, ◌+◌, Bool, true, false, List, [], ◌∷◌, Option, Some, None, String, codes, if◌then◌else◌, string_bytes}
use Rattle.std.specs.Str.{bytes_eq}
use Rattle.cli_line.specs.declared.plans.Plan.{Plan}
use Rattle.cli_line.specs.declared.plans.Plan.TheVariants.{Asm, Migrate, Dis, Check, Run, Strict, Live, Journal, Audit, Replay}

-- that path, where it is given
abbrev pub given_paths : {A : Type 0} → Option (String A) → List (List ℕ)
given_paths None = []
given_paths (Some path) = string_bytes path ∷ []

-- the paths of those that are read, in the order of the line; of a journal, those outside its folder
abbrev pub input_paths : Plan → List (List ℕ)
input_paths (Asm text program) = string_bytes text ∷ []
input_paths (Migrate to manifest migrated) = string_bytes manifest ∷ []
input_paths (Dis program) = string_bytes program ∷ []
input_paths (Check manifest) = string_bytes manifest ∷ []
input_paths (Run workers watch manifest scenario) = string_bytes manifest ∷ string_bytes scenario ∷ []
input_paths (Strict workers watch manifest scenario) = string_bytes manifest ∷ string_bytes scenario ∷ []
input_paths (Live manner manifest) = string_bytes manifest ∷ []
input_paths (Journal manner is_synced folder manifest) = given_paths manifest
input_paths (Audit folder) = []
input_paths (Replay manifest trace) = string_bytes manifest ∷ string_bytes trace ∷ []

-- they are text, but for a program's bytes
abbrev pub reads_text : Plan → Bool
reads_text (Asm text program) = true
reads_text (Migrate to manifest migrated) = true
reads_text (Dis program) = false
reads_text (Check manifest) = true
reads_text (Run workers watch manifest scenario) = true
reads_text (Strict workers watch manifest scenario) = true
reads_text (Live manner manifest) = true
reads_text (Journal manner is_synced folder manifest) = true
reads_text (Audit folder) = true
reads_text (Replay manifest trace) = true

-- the path of the one that is written, if there is one
abbrev pub output_path : Plan → Option (List ℕ)
output_path (Asm text program) = Some (string_bytes program)
output_path (Migrate to manifest migrated) = Some (string_bytes migrated)
output_path (Dis program) = None
output_path (Check manifest) = None
output_path (Run workers watch manifest scenario) = None
output_path (Strict workers watch manifest scenario) = None
output_path (Live manner manifest) = None
output_path (Journal manner is_synced folder manifest) = None
output_path (Audit folder) = None
output_path (Replay manifest trace) = None

-- the path stands for standard input, or for standard output
abbrev pub is_stream : List ℕ → Bool
is_stream path = bytes_eq path (codes "-")

-- how many of these paths are standard input
abbrev pub stream_count : List (List ℕ) → ℕ
stream_count [] = 0
stream_count (path ∷ paths) = (if is_stream path then 1 else 0) + stream_count paths

-- how often standard input is read for the lines of a live engine
abbrev pub line_reads : Plan → ℕ
line_reads (Live manner manifest) = 1
line_reads (Journal manner is_synced folder manifest) = 1
line_reads plan = 0

-- how often the plan reads standard input: for its lines, and for each file that it stands for
abbrev pub stdin_reads : Plan → ℕ
stdin_reads plan = line_reads plan + stream_count (input_paths plan)
