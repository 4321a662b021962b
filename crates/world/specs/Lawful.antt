-- Which setups there are: those of an engine whose programs were accepted under its limits.
use Rattle.std.specs.Prelude.{◌≡◌, ◌<◌, ◌≤◌, ◌^◌, ℕ, false, List, length, map, All}
use Rattle.helpers.specs.declared.limits.HelperLimits.{HelperLimits}
use Rattle.helpers.specs.declared.limits.HelperSet.{HelperSet}
use Rattle.helpers.specs.declared.limits.HelperSet.TheVariants.{Classes, Controllers, Queues}
use Rattle.table_store.specs.Tables.{zero_table}
use Rattle.bpf_insn.specs.Program.{IsProgram}
use Rattle.bpf_semantics.specs.Reached.{Safe, Within}
use Rattle.world.specs.Capacities.{most_controllers, most_instructions, most_queues, most_openings}
use Rattle.world.specs.World.{QueueSetup, Setup, has_classes, queue_count}

-- 1 to 255 openings, and a program that is never stuck and keeps within its budget, which is 65,536 instructions at most
pub record IsLawfulQueue (limits : HelperLimits) (queue : QueueSetup) : Type 0 where
  pub openings : (1 ≤ queue.openings) × (queue.openings ≤ most_openings)
  pub program : IsProgram queue.program
  pub safe : Safe queue.program limits
  pub within : Within queue.program queue.budget
  pub budget : queue.budget ≤ most_instructions

-- so many controllers, and each queue's: none where queues alone freeze, and else 1 to 8, of which each queue is under one
abbrev pub AreUnder : HelperSet → ℕ → List QueueSetup → Type 0
AreUnder Queues controllers queues = (controllers ≡ 0) × All (λ queue. queue.controller ≡ 0) queues
AreUnder Controllers controllers queues =
    ((1 ≤ controllers) × (controllers ≤ most_controllers)) × All (λ queue. queue.controller < controllers) queues
AreUnder Classes controllers queues =
    ((1 ≤ controllers) × (controllers ≤ most_controllers)) × All (λ queue. queue.controller < controllers) queues

-- Each table is as long as the limits of the helper calls say, and has words below 2^64. Where CCBs have no class, all are 0.
pub record AreFirst (setup : Setup) : Type 0 where
  pub lengths : map (λ table. length table) setup.tables ≡ setup.limits.table_lengths
  pub words : All (λ table. All (λ word. word < 2 ^ 64) table) setup.tables
  pub zero : has_classes setup ≡ false → setup.tables ≡ map zero_table setup.limits.table_lengths

-- 1 to 64 queues, as many as the limits of the helper calls say, each under one of the controllers, if there are any, and
-- each is lawful; and tables as they say
pub record IsLawful (setup : Setup) : Type 0 where
  pub queue_number : (1 ≤ queue_count setup) × (queue_count setup ≤ most_queues)
  pub agreed : setup.limits.queues ≡ queue_count setup
  pub under : AreUnder setup.limits.helpers setup.controllers setup.queues
  pub queues : All (IsLawfulQueue setup.limits) setup.queues
  pub tables : AreFirst setup
