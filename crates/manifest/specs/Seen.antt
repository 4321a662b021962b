-- How what a call gives meets what the definitions give.
use Rattle.std.specs.Arc.{arc_value}
use Rattle.bpf_insn.specs.declared.program.Slot.{Slot}
use Rattle.bpf_accepted.specs.Verdict.{Verdict}
use Rattle.helpers.specs.declared.limits.HelperLimits.{HelperLimits}
use Rattle.verifier.specs.Verdict.{IsVerdictOn, ToldOfChecks, ToldOfShape}
use Rattle.verifier.specs.Plain.{IsPlain}
use Rattle.verifier.specs.declared.refusal.Refusal.{Refusal}
use Rattle.manifest.specs.declared.fault.ManifestFault.{ManifestFault}
use Rattle.manifest.specs.declared.fault.ManifestFault.TheVariants.{Key, Form, Range, Undecoded, Unassembled, Unaccepted}
use Rattle.manifest_form.specs.declared.form_fault.FormFault.{FormFault}
use Rattle.manifest_form.specs.declared.form_fault.FormFault.TheVariants as form
use Rattle.manifest.specs.declared.programs.ReadProgram.{ReadProgram}
use Rattle.manifest.specs.declared.programs.NamedProgram.{NamedProgram}
use Rattle.manifest.specs.Meaning.{Named, is_named, helpers_with, lowest_fault, IsReadAs, IsFaultyCode, IsFaultyText, FirstIs}
use Rattle.std.specs.Prelude.{◌≡◌, ◌<◌, ◌≤◌, ℕ, Option, Some, None, IsSome, length, find, map, string_bytes, List, []}
use Rattle.std.specs.List.{AllByRecursion}
use Rattle.engine_config.specs.Configured.{Given}
use Rattle.base.specs.declared.or_memory.OrMemory.TheVariants.{Fault}
use Rattle.world_calls.specs.declared.trace.Version.{Version}
use Rattle.world_calls.specs.declared.trace.Version.TheVariants.{One, Three, Two}
use Rattle.manifest_form.specs.Entries.{QueueLine, ProgramLine, Plan, TableLine, plan_of}
use Rattle.toml.specs.Data.{Data}

-- a program that was read, and one that was accepted, with its name
pub record ReadLine : Type 0 where
  pub name : List ℕ
  pub program : List Slot

abbrev pub read_seen : ReadProgram → ReadLine
read_seen read = record { name = read.name.now; program = read.program }

abbrev pub named_seen : NamedProgram → Named
named_seen named = (string_bytes named.name, arc_value named.accepted)

pub record IsReadLine (line : ProgramLine) (read : ReadLine) : Type 0 where
  pub name : read.name ≡ line.name
  pub program : IsReadAs line.source read.program

pub record IsAcceptedLine (limits : HelperLimits) (read : ReadLine) (named : Named) : Type 0 where
  pub name : named.0 ≡ read.name
  pub verdict : IsVerdictOn read.program limits named.1

-- M7 and M8 of one program
abbrev pub IsUnreadLine : ProgramLine → ManifestFault → Type 0
IsUnreadLine line (Undecoded name fault) = (line.name ≡ string_bytes name) × IsFaultyCode fault line.source
IsUnreadLine line (Unassembled name fault) = (line.name ≡ string_bytes name) × IsFaultyText fault line.source
IsUnreadLine line _ = ⊥

pub record IsRefusedLine (name : List ℕ) (refusal : Refusal) (read : ReadLine) : Type 0 where
  pub named : read.name ≡ name
  pub told : ToldOfShape read.program (Fault refusal)
  pub checked : ToldOfChecks read.program (Fault refusal)
  pub not_plain : ¬ IsPlain read.program

abbrev pub IsUnacceptedLine : ReadLine → ManifestFault → Type 0
IsUnacceptedLine read (Unaccepted name refusal) = IsRefusedLine (string_bytes name) refusal read
IsUnacceptedLine read _ = ⊥

-- the first of those that were read that is not accepted
abbrev pub IsUnacceptedAmong : HelperLimits → List ReadLine → ManifestFault → Type 0
IsUnacceptedAmong limits reads fault = FirstIs (λ read. (named : Named) × IsAcceptedLine limits read named) (λ read. IsUnacceptedLine read fault) reads

-- a fault of the form, as it is told
abbrev pub named : FormFault → ManifestFault
named form.Key = Key
named form.Form = Form
named form.Range = Range

-- the verdict on the program that a queue names
pub record IsItsVerdict (programs : List Named) (queue : QueueLine) (verdict : Verdict) : Type 0 where
  pub program : Named
  pub found : find (is_named queue.program) programs ≡ Some program
  pub is : program.1 ≡ verdict

-- a queue as it is given to the configuration
pub record IsGivenFor (programs : List Named) (queue : QueueLine) (given : Given) : Type 0 where
  pub verdict : IsItsVerdict programs queue given.verdict
  pub openings : given.openings ≡ queue.openings
  pub controller : given.controller ≡ queue.controller

-- where there are controllers there are 1 to 8, and each queue is under one of them; else it is under number 0
abbrev pub AreWrittenUnder : Option ℕ → List QueueLine → Type 0
AreWrittenUnder None queues = AllByRecursion (λ queue. queue.controller ≡ 0) queues
AreWrittenUnder (Some controllers) queues =
    ((1 ≤ controllers) × (controllers ≤ 8)) × AllByRecursion (λ queue. queue.controller < controllers) queues

-- each queue names one of the programs
abbrev pub AreNamed : List Named → List QueueLine → Type 0
AreNamed programs queues = AllByRecursion (λ queue. IsSome (find (is_named queue.program) programs)) queues

-- there are controllers in every version but the first
abbrev pub HasControllers : Version → Option ℕ → Type 0
HasControllers One controllers = controllers ≡ None
HasControllers Two controllers = IsSome controllers
HasControllers Three controllers = IsSome controllers

-- a table has first words in the third version alone, and no more than there is room for
abbrev pub IsTableOf : Version → TableLine → Type 0
IsTableOf One table = table.words ≡ []
IsTableOf Two table = table.words ≡ []
IsTableOf Three table = length table.words ≤ table.size

-- what a configuration can be made of
pub record IsReady (limits : HelperLimits) (version : Version) (controllers : Option ℕ) (tables : List TableLine) (queues : List QueueLine) (programs : List Named) : Type 0 where
  pub helpers : limits.helpers ≡ helpers_with version
  pub has_controllers : HasControllers version controllers
  pub are_tables : AllByRecursion (IsTableOf version) tables
  pub table_lengths : limits.table_lengths ≡ map (λ table. table.size) tables
  pub queue_number : (1 ≤ length queues) × (length queues ≤ 64)
  pub agreed : limits.queues ≡ length queues
  pub table_number : length limits.table_lengths ≤ 16
  pub lengths : AllByRecursion (λ words. (1 ≤ words) × (words ≤ 4096)) limits.table_lengths
  pub openings : AllByRecursion (λ queue. 1 ≤ queue.openings) queues
  pub under : AreWrittenUnder controllers queues
  pub known : AreNamed programs queues
  pub accepted : AllByRecursion (λ named. named.1.limits ≡ limits) programs

-- a plan of a document that has none of M2 to M6
pub record IsLawfulPlan (plan : Plan) : Type 0 where
  pub document : Data
  pub says : plan ≡ plan_of document
  pub lawful : lowest_fault document ≡ None
