-- What a manifest means, and which fault is answered of a text that is none.
use Rattle.std.specs.Prelude.{◌≡◌, ◌≤◌, ◌⊎◌, ℕ, All, Bool, true, false, List, [], ◌∷◌, Option, Some, None, unwrap_or, string_bytes, length, map, find, option_map, bytes_eq}
use Rattle.std.specs.List.{AllByRecursion, AllZip}
use Rattle.toml.specs.Data.{Data, table, Members}
use Rattle.toml.specs.Parse.{parse_document}
use Rattle.bpf_insn.specs.declared.program.Slot.{Slot}
use Rattle.bpf_decode.specs.Spells.{Spells}
use Rattle.bpf_decode.specs.FirstFault.{HasFault as HasDecodeFault}
use Rattle.bpf_decode.specs.declared.fault.DecodeFault.{DecodeFault}
use Rattle.bpf_asm.specs.Assembly.{Says, HasFault as HasAsmFault}
use Rattle.bpf_asm.specs.declared.fault.AsmFault.{AsmFault}
use Rattle.helpers.specs.declared.limits.HelperLimits.{HelperLimits}
use Rattle.helpers.specs.declared.limits.HelperSet.{HelperSet}
use Rattle.helpers.specs.declared.limits.HelperSet.TheVariants.{Classes, Controllers, Queues}
use Rattle.table_store.specs.Tables.{tables_with}
use Rattle.world_calls.specs.declared.trace.Version.{Version}
use Rattle.world_calls.specs.declared.trace.Version.TheVariants.{One, Three, Two}
use Rattle.base.specs.declared.or_memory.OrMemory.TheVariants.{Fault}
use Rattle.bpf_accepted.specs.Verdict.{Verdict}
use Rattle.call_shape.specs.declared.lawful_shape.TheConstants.{MAX_WRITTEN_OUT}
use Rattle.verifier.specs.Verdict.{IsVerdictOn, ToldOfChecks, ToldOfShape}
use Rattle.verifier.specs.Plain.{IsPlain}
use Rattle.verifier.specs.declared.refusal.Refusal.{Refusal}
use Rattle.world.specs.World.{Setup, QueueSetup}
use Rattle.manifest.specs.declared.fault.ManifestFault.{ManifestFault}
use Rattle.manifest.specs.declared.fault.ManifestFault.TheVariants.{Text, Key, Form, Range, Number, Name, Undecoded, Unassembled, Unaccepted}
use Rattle.manifest_form.specs.Entries.{Source, code, asm, QueueLine, ProgramLine, Plan, plan_of}
use Rattle.manifest_form.specs.Faults.{has_lawful_keys, has_lawful_form, has_lawful_ranges}
use Rattle.manifest_form.specs.Names.{has_lawful_numbers, has_lawful_names}

-- the lowest of M2 to M6, by whether keys, form, ranges, numbers and names are lawful
abbrev pub lowest : Bool → Bool → Bool → Bool → Bool → Option ManifestFault
lowest false form ranges numbers names = Some Key
lowest true false ranges numbers names = Some Form
lowest true true false numbers names = Some Range
lowest true true true false names = Some Number
lowest true true true true false = Some Name
lowest true true true true true = None

abbrev pub lowest_fault : Data → Option ManifestFault
lowest_fault manifest =
    lowest (has_lawful_keys manifest) (has_lawful_form manifest) (has_lawful_ranges manifest)
    (has_lawful_numbers (plan_of manifest)) (has_lawful_names (plan_of manifest))

-- The text is TOML that has none of these faults, and says that plan.
pub record Writes (text : List ℕ) (plan : Plan) : Type 0 where
  pub document : Members
  pub parsed : parse_document text ≡ Some document
  pub lawful : lowest_fault (table document) ≡ None
  pub says : plan ≡ plan_of (table document)

-- the helpers that its programs may call, by the version by whose rules it is judged
abbrev pub helpers_with : Version → HelperSet
helpers_with One = Queues
helpers_with Two = Controllers
helpers_with Three = Classes

-- there are as many queues as are written, and tables of the lengths that are
abbrev pub limits_of : Plan → HelperLimits
limits_of plan = record { helpers = helpers_with plan.version; queues = length plan.queues; table_lengths = map (λ table. table.size) plan.tables }

-- the program that a source spells, or that it says
abbrev pub IsReadAs : Source → List Slot → Type 0
IsReadAs (code bytes) program = Spells bytes program
IsReadAs (asm text) program = Says text program

abbrev pub IsReadable : ProgramLine → Type 0
IsReadable line = (program : List Slot) × IsReadAs line.source program

-- M7 of one program, with the decoder's fault, or with the assembler's
abbrev pub IsFaultyCode : DecodeFault → Source → Type 0
IsFaultyCode fault (code bytes) = HasDecodeFault bytes fault
IsFaultyCode fault (asm text) = ⊥

abbrev pub IsFaultyText : AsmFault → Source → Type 0
IsFaultyText fault (code bytes) = ⊥
IsFaultyText fault (asm text) = HasAsmFault text fault

-- an accepted program, with its name
abbrev pub Named : Type 0
Named = List ℕ × Verdict

-- the program as it is written, and the verdict on it
pub record IsAccepted (limits : HelperLimits) (line : ProgramLine) (named : Named) : Type 0 where
  pub name : named.0 ≡ line.name
  pub program : IsReadAs line.source named.1.program
  pub verdict : IsVerdictOn named.1.program limits named.1

abbrev pub IsAcceptable : HelperLimits → ProgramLine → Type 0
IsAcceptable limits line = (named : Named) × IsAccepted limits line named

-- M8 of one program: what is told of it, which no plain program is, nor one of which what is known is always enough
pub record IsRefused (refusal : Refusal) (line : ProgramLine) : Type 0 where
  pub program : List Slot
  pub read : IsReadAs line.source program
  pub told : ToldOfShape program (Fault refusal)
  pub checked : ToldOfChecks program (Fault refusal)
  pub not_plain : ¬ IsPlain program

-- The first that is not good is bad.
abbrev pub FirstIs : {X : Type 0} → (X → Type 0) → (X → Type 0) → List X → Type 0
FirstIs Good Bad [] = ⊥
FirstIs Good Bad (x ∷ xs) = Bad x ⊎ (Good x × FirstIs Good Bad xs)

-- M7: the first program that is not read has this name and fault.
abbrev pub IsUnread : List ProgramLine → ManifestFault → Type 0
IsUnread programs (Undecoded name fault) = FirstIs IsReadable (λ line. (line.name ≡ string_bytes name) × IsFaultyCode fault line.source) programs
IsUnread programs (Unassembled name fault) = FirstIs IsReadable (λ line. (line.name ≡ string_bytes name) × IsFaultyText fault line.source) programs
IsUnread programs _ = ⊥

-- M8: all are read, and the first that is not accepted has this name and is refused so.
abbrev pub IsUnaccepted : HelperLimits → List ProgramLine → ManifestFault → Type 0
IsUnaccepted limits programs (Unaccepted name refusal) =
    AllByRecursion IsReadable programs
    × FirstIs (IsAcceptable limits) (λ line. (line.name ≡ string_bytes name) × IsRefused refusal line) programs
IsUnaccepted limits programs _ = ⊥

abbrev pub is_named : List ℕ → Named → Bool
is_named name named = bytes_eq named.0 name

-- what a queue of the plan is set up with, by the program of its name
abbrev pub setup_with : QueueLine → Named → QueueSetup
setup_with queue named = record { openings = queue.openings; controller = queue.controller; program = named.1.program; budget = named.1.budget }

abbrev pub setup_of : List Named → QueueLine → Option QueueSetup
setup_of programs queue = option_map (setup_with queue) (find (is_named queue.program) programs)

-- What a plan is set up as: its controllers, its programs, in the text's order, each accepted under its limits, its queues with
-- theirs, and its tables, which begin with the words that are written. The engine follows no other.
pub record IsSetUp (plan : Plan) (setup : Setup) (programs : List Named) : Type 0 where
  pub limits : setup.limits ≡ limits_of plan
  pub controllers : setup.controllers ≡ unwrap_or plan.controllers 0
  pub accepted : AllZip (IsAccepted (limits_of plan)) plan.programs programs
  pub queues : map (setup_of programs) plan.queues ≡ map Some setup.queues
  pub tables : setup.tables ≡ tables_with (limits_of plan).table_lengths (map (λ table. table.words) plan.tables)
  pub alone : setup.carried ≡ None

-- The text means this setup and these programs.
abbrev pub Means : List ℕ → Setup → List Named → Type 0
Means text setup programs = (plan : Plan) × Writes text plan × IsSetUp plan setup programs

-- no budget is greater than the most instructions that a program may have, with its local calls written out
abbrev pub AreShort : List QueueSetup → Type 0
AreShort queues = All (λ queue. queue.budget ≤ MAX_WRITTEN_OUT) queues

-- a fault of the programs of a plan, and of one that the text writes
abbrev pub HasProgramFault : Plan → ManifestFault → Type 0
HasProgramFault plan fault = IsUnread plan.programs fault ⊎ IsUnaccepted (limits_of plan) plan.programs fault

abbrev pub IsOfPrograms : List ℕ → ManifestFault → Type 0
IsOfPrograms text fault = (plan : Plan) × Writes text plan × HasProgramFault plan fault

-- a fault of what the text says as TOML
abbrev pub IsOfDocument : List ℕ → ManifestFault → Type 0
IsOfDocument text fault = (document : Members) × (parse_document text ≡ Some document) × (lowest_fault (table document) ≡ Some fault)

-- The fault of a text. The lowest is answered: M1 of what is no TOML, M2 to M6 of what it says, and M7 and M8 of its programs.
abbrev pub HasFault : List ℕ → ManifestFault → Type 0
HasFault text fault = ((fault ≡ Text) × (parse_document text ≡ None)) ⊎ (IsOfDocument text fault ⊎ IsOfPrograms text fault)
