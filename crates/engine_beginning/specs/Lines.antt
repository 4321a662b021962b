-- The lines of a world that an engine takes over, in their order; and lines that were taken one after the other.
use Rattle.std.specs.Prelude.{◌≡◌, ℕ, ◌+◌, ◌<◌, ◌≤◌, ◌^◌, ◌==◌, if◌then◌else◌, List, [], ◌∷◌, ◌++◌, map}
use Rattle.freeze_ledger.specs.declared.freeze.Freeze.{Freeze}
use Rattle.world_calls.specs.declared.carried_line.CarriedCcb.{CarriedCcb}
use Rattle.world_calls.specs.declared.carried_line.CarriedLine.{CarriedLine}
use Rattle.world_calls.specs.declared.carried_line.CarriedLine.TheVariants as lines
use Rattle.world.specs.Beginning.{IsBeginning}
use Rattle.world.specs.Capacities.{last_number}
use Rattle.world.specs.Lawful.{IsLawful}
use Rattle.world.specs.Lookups.{is_active}
use Rattle.world.specs.World.{LiveCcb, Setup, World}
use Rattle.engine_beginning.specs.Begun.{BegunState, IsComplete, MayFollow, begun, finished, with_line}

-- a line for each queue, in the order of their numbers
abbrev pub openings_from : ℕ → List ℕ → List CarriedLine
openings_from queue [] = []
openings_from queue (openings ∷ more) = lines.Openings queue openings ∷ openings_from (queue + 1) more

-- for each word of a table that is not 0
abbrev pub words_from : (table index : ℕ) → List ℕ → List CarriedLine
words_from table index [] = []
words_from table index (word ∷ words) =
    if word == 0 then words_from table (index + 1) words else lines.Word table index word ∷ words_from table (index + 1) words

abbrev pub tables_from : ℕ → List (List ℕ) → List CarriedLine
tables_from table [] = []
tables_from table (words ∷ tables) = words_from table 0 words ++ tables_from (table + 1) tables

-- for each CCB
abbrev pub ccb_in : LiveCcb → CarriedCcb
ccb_in live = record {
  number = live.ccb.number;
  queue = live.ccb.queue;
  priority = live.ccb.priority;
  retries = live.ccb.retries;
  class = live.ccb.class;
  attempts = live.ccb.attempts;
  advice = live.ccb.advice;
  is_active = is_active live.state;
}

abbrev pub ccb_lines : List LiveCcb → List CarriedLine
ccb_lines ccbs = map (λ live. lines.Ccb (ccb_in live)) ccbs

-- and for each freeze
abbrev pub freeze_lines : List Freeze → List CarriedLine
freeze_lines freezes = map (λ freeze. lines.Freeze freeze) freezes

abbrev pub lines_of : World → List CarriedLine
lines_of world =
    lines.Numbers world.transport.greatest_ccb world.transport.greatest_freeze world.runs.greatest ∷ lines.Clock world.transport.clock
    ∷ (openings_from 0 world.transport.openings
    ++ (tables_from 0 world.runs.tables ++ (ccb_lines world.transport.live ++ freeze_lines world.transport.freezes)))

-- its numbers fit their types
abbrev pub IsRanged : CarriedLine → Type 0
IsRanged (lines.Numbers ccb freeze run) = (ccb ≤ last_number) × (freeze ≤ last_number) × (run ≤ last_number)
IsRanged (lines.Word table index word) = word < 2 ^ 64
IsRanged line = Unit {0}

-- each of the lines may come next, and so they lead from the one state to the other
abbrev pub Takes : BegunState → List CarriedLine → BegunState → Type 0
Takes from [] to = from ≡ to
Takes from (line ∷ more) to = IsRanged line × MayFollow from line × Takes (with_line line from) more to

-- What begins with such lines, if there is one for each queue, is a world that may be taken over, and its lines are just these.
abbrev pub SaysItsLines : Type 0
SaysItsLines =
    (setup : Setup) → IsLawful setup → (xs : List CarriedLine) (to : BegunState) → Takes (begun setup) xs to → IsComplete to →
    IsBeginning setup (finished to) × (lines_of (finished to) ≡ xs)

-- the lines of a world that may be taken over begin so
pub record IsFront (setup : Setup) (xs : List CarriedLine) : Type 0 where
  pub world : World
  pub is : IsBeginning setup world
  pub rest : List CarriedLine
  pub begins : lines_of world ≡ xs ++ rest

-- After lines that were taken, each line may come next that a world has after them; and a world with just these lines is what they make.
abbrev pub LinesAreExact : Type 0
LinesAreExact =
    ((setup : Setup) → IsLawful setup → (xs : List CarriedLine) (to : BegunState) → Takes (begun setup) xs to → (line : CarriedLine) → IsFront setup (xs ++ line ∷ []) → MayFollow to line)
    × ((setup : Setup) → IsLawful setup → (xs : List CarriedLine) (to : BegunState) → Takes (begun setup) xs to → (world : World) → IsBeginning setup world → lines_of world ≡ xs → IsComplete to × (finished to ≡ world))

-- Lines that were taken one after the other are the first ones of a world that may be taken over.
abbrev pub LinesGoOn : Type 0
LinesGoOn =
    (setup : Setup) → IsLawful setup → (xs : List CarriedLine) (to : BegunState) → Takes (begun setup) xs to → IsFront setup xs
