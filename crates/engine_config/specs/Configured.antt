-- What a configuration may be, and the setup that it is.
use Rattle.std.specs.Prelude.{◌≡◌, ℕ, ◌<◌, ◌≤◌, ◌^◌, List, [], length, map, All, None, slice_index, slice_index_or}
use Rattle.std.specs.Global.{Global}
use Rattle.std.specs.Arc.{arc_value}
use Rattle.std.specs.declared.sync.Arc.{Arc}
use Rattle.std.specs.declared.vec.Vec.{Vec}
use Rattle.helpers.specs.declared.limits.HelperLimits.{HelperLimits}
use Rattle.bpf_accepted.specs.declared.accepted.Accepted.{Accepted}
use Rattle.bpf_accepted.specs.Verdict.{Verdict, IsAccepted}
use Rattle.table_store.specs.Tables.{tables_with}
use Rattle.world.specs.Capacities.{most_openings, most_queues, most_tables, most_words}
use Rattle.world.specs.World.{QueueSetup, Setup}
use Rattle.world.specs.Lawful.{AreUnder, IsLawful}
use Rattle.engine_config.specs.declared.given.GivenQueue.{GivenQueue}
use Rattle.engine_config.specs.declared.given.GivenQueues.{GivenQueues}
use Rattle.engine_config.specs.declared.given.GivenQueues.TheVariants.{Alone, Under}

-- a device queue as it is given: its openings, the controller that it is under, which is 0 where there are none, and its
-- accepted program
pub record Given : Type 0 where
  pub openings : ℕ
  pub controller : ℕ
  pub verdict : Verdict

-- a queue of a configuration without controllers, and of one with them: its program is behind a counted reference
abbrev pub alone_of : ℕ × Arc Accepted Global → Given
alone_of queue = record { openings = queue.0; controller = 0; verdict = arc_value queue.1 }

abbrev pub under_of : ℕ × ℕ × Arc Accepted Global → Given
under_of queue = record { openings = queue.0; controller = queue.1; verdict = arc_value queue.2 }

abbrev pub queue_of : Given → QueueSetup
queue_of given = record { openings = given.openings; controller = given.controller; program = given.verdict.program; budget = given.verdict.budget }

-- Each table begins with the words of its list, if there is one.
abbrev pub setup_of : HelperLimits → ℕ → List (List ℕ) → List Given → Setup
setup_of limits controllers firsts given =
    record { limits = limits; controllers = controllers; tables = tables_with limits.table_lengths firsts; queues = map queue_of given; carried = None }

-- the lists of first words as they are given
abbrev pub firsts_of : List (Vec ℕ Global) → List (List ℕ)
firsts_of lists = map (λ (words : Vec ℕ Global). words.items) lists

-- There are at most as many lists of first words as there are tables, and each is at most as long as its table.
pub record HaveRoom (lengths : List ℕ) (firsts : List (List ℕ)) : Type 0 where
  pub lists : length firsts ≤ length lengths
  pub words : (table : ℕ) → table < length firsts → length (slice_index_or firsts table []) ≤ slice_index lengths table

-- words are below 2^64
abbrev pub AreWords : List (List ℕ) → Type 0
AreWords firsts = All (λ words. All (λ word. word < 2 ^ 64) words) firsts

-- at least one opening, and a program that was accepted under these limits
abbrev pub IsGivenUnder : HelperLimits → Given → Type 0
IsGivenUnder limits given = (1 ≤ given.openings) × (given.verdict.limits ≡ limits)

-- what is known of each queue by the types of its parts
abbrev pub IsKnown : Given → Type 0
IsKnown given = (given.openings ≤ most_openings) × IsAccepted given.verdict

-- 1 to 64 queues, as many as the limits say, each under one of the controllers, if there are any, and up to 16 tables of 1 to
-- 4096 words
pub record IsConfigured (limits : HelperLimits) (controllers : ℕ) (given : List Given) : Type 0 where
  pub queue_number : (1 ≤ length given) × (length given ≤ most_queues)
  pub agreed : limits.queues ≡ length given
  pub under : AreUnder limits.helpers controllers (map queue_of given)
  pub table_number : length limits.table_lengths ≤ most_tables
  pub table_lengths : All (λ words. (1 ≤ words) × (words ≤ most_words)) limits.table_lengths
  pub queues : All (IsGivenUnder limits) given

-- what a configuration keeps
pub record KeepsConfig (limits : HelperLimits) (controllers : ℕ) (firsts : List (List ℕ)) (given : List Given) : Type 0 where
  pub lawful : IsLawful (setup_of limits controllers firsts given)
  pub room : HaveRoom limits.table_lengths firsts
  pub queues : All (IsGivenUnder limits) given
  pub known : All IsKnown given

-- how many controllers there are, and the queues, in either form
abbrev pub controllers_of : GivenQueues → ℕ
controllers_of (Alone queues) = 0
controllers_of (Under controllers queues) = controllers

abbrev pub queues_of : GivenQueues → List Given
queues_of (Alone queues) = map alone_of queues.items
queues_of (Under controllers queues) = map under_of queues.items

abbrev pub queue_seen : GivenQueue → Given
queue_seen queue = record { openings = queue.openings; controller = queue.controller; verdict = arc_value queue.program.now }

-- these have the instructions of the queues' programs, in the order of the queues' numbers
abbrev pub AreProgramsOf : Setup → List (Arc Accepted Global) → Type 0
AreProgramsOf setup programs = map (λ (program : Arc Accepted Global). (arc_value program).program) programs ≡ map (λ queue. queue.program) setup.queues

-- the same of queues as they are given
abbrev pub AreProgramsGiven : List Given → List (Arc Accepted Global) → Type 0
AreProgramsGiven queues programs = map (λ (program : Arc Accepted Global). (arc_value program).program) programs ≡ map (λ queue. queue.verdict.program) queues
