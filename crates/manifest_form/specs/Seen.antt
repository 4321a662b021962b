-- The entries of a manifest, seen as what they say, and what is said of a fault.
use Rattle.std.specs.Prelude.{Bool, ◌&&◌, ◌==◌, List, map, count_by, bytes_eq}
use Rattle.std.specs.List.{list_all, list_any}
use Rattle.base.specs.declared.or_memory.OrMemory.{OrMemory}
use Rattle.base.specs.declared.or_memory.OrMemory.TheVariants.{OutOfMemory, Fault}
use Rattle.manifest_form.specs.declared.entries.ProgramEntry.{ProgramEntry}
use Rattle.manifest_form.specs.declared.entries.QueueEntry.{QueueEntry}
use Rattle.manifest_form.specs.declared.entries.Source.{Source as Written}
use Rattle.manifest_form.specs.declared.entries.Source.TheVariants.{Code, Asm}
use Rattle.manifest_form.specs.declared.entries.TableEntry.{TableEntry}
use Rattle.manifest_form.specs.declared.form.Plan.{Plan as Entries}
use Rattle.manifest_form.specs.Entries.{Source, code, asm, QueueLine, TableLine, ProgramLine, Plan}
use Rattle.manifest_form.specs.Names.{is_name}

abbrev pub queue_seen : QueueEntry → QueueLine
queue_seen queue = record { openings = queue.openings; controller = queue.controller; program = queue.program.now }

abbrev pub table_seen : TableEntry → TableLine
table_seen table = record { size = table.length; words = table.words.items }

abbrev pub source_seen : Written → Source
source_seen (Code bytes) = code bytes.items
source_seen (Asm text) = asm text.now

abbrev pub program_seen : ProgramEntry → ProgramLine
program_seen program = record { name = program.name.now; source = source_seen program.source }

abbrev pub plan_seen : Entries → Plan
plan_seen entries = record {
  version = entries.version;
  controllers = entries.controllers;
  queues = map queue_seen entries.queues.items;
  tables = map table_seen entries.tables.items;
  programs = map program_seen entries.programs.items;
}

-- the tests of names, over the code's entries
abbrev pub are_lawful : List ProgramEntry → Bool
are_lawful programs =
    list_all (λ program. is_name program.name.now) programs
    && list_all (λ program. count_by (λ other. bytes_eq other.name.now program.name.now) programs == 1) programs

abbrev pub are_known : List QueueEntry → List ProgramEntry → Bool
are_known queues programs = list_all (λ queue. list_any (λ other. bytes_eq other.name.now queue.program.now) programs) queues

-- P of the fault, if the error is one
abbrev pub IfFault : {F : Type 0} → (F → Type 0) → OrMemory F → Type 0
IfFault P OutOfMemory = Unit {0}
IfFault P (Fault fault) = P fault
