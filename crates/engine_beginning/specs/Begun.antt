-- The lines of what an engine takes over, as far as they came: which line may come next, and what it makes of an engine that was opened.
use Rattle.std.specs.Prelude.{◌≡◌, ℕ, ◌+◌, ◌<◌, ◌≤◌, ◌==◌, Bool, false, true, not, ◌&&◌, ◌||◌, [], slice_set, Option, Some, None}
use Rattle.freeze_ledger.specs.declared.freeze.Freeze.{Freeze}
use Rattle.freeze_ledger.specs.Freezes.{meets_limit}
use Rattle.table_store.specs.Tables.{HasWord, with_word}
use Rattle.world_calls.specs.declared.carried_line.CarriedCcb.{CarriedCcb}
use Rattle.world_calls.specs.declared.carried_line.CarriedLine.{CarriedLine}
use Rattle.world_calls.specs.declared.carried_line.CarriedLine.TheVariants as lines
use Rattle.world.specs.Beginning.{IsBeginning}
use Rattle.world.specs.Capacities.{last_number, last_reading, most_openings}
use Rattle.world.specs.FreezeSteps.{is_guest, is_timer}
use Rattle.world.specs.Refusals.{is_unknown}
use Rattle.world.specs.World.{Setup, Transport, World, has_classes, opening, queue_count}
use Rattle.engine_runs.specs.RunsState.{RunsState, no_runs}
use Rattle.engine_transport.specs.Carrying.{carry_refusal, with_carried_ccb, with_carried_freeze}

pub record BegunState : Type 0 where
  pub setup : Setup
  -- the kind of the last line, by its place in the order of kinds from 1, and 0 before the first
  pub after : ℕ
  -- the greatest numbers that were given to CCBs, freezes and runs
  pub ccb : ℕ
  pub freeze : ℕ
  pub run : ℕ
  -- how many queues have their openings
  pub opened : ℕ
  -- the table and the index from which words may follow
  pub table : ℕ
  pub index : ℕ
  -- the engine that was opened, with what the lines so far say but the greatest numbers
  pub transport : Transport
  pub runs : RunsState

abbrev pub begun_as : Setup → (after ccb freeze run opened table index : ℕ) → Transport → RunsState → BegunState
begun_as setup after ccb freeze run opened table index transport runs = record {
  setup = setup;
  after = after;
  ccb = ccb;
  freeze = freeze;
  run = run;
  opened = opened;
  table = table;
  index = index;
  transport = transport;
  runs = runs;
}

-- before the first line: the tables start at 0, whatever their first words are
abbrev pub begun : Setup → BegunState
begun setup = begun_as setup 0 0 0 0 0 0 0 (opening setup).transport (no_runs setup.limits.table_lengths)

-- each queue has its openings
abbrev pub IsComplete : BegunState → Type 0
IsComplete state = state.opened ≡ queue_count state.setup

-- the key of a word is none before that from which words may follow
abbrev pub IsNextKey : BegunState → (table index : ℕ) → Type 0
IsNextKey state table index = (state.table ≤ table) × (state.table ≡ table → state.index ≤ index)

-- if CCBs have no class it is 0, and so is the advice; that of an active one is 0 too, since its start reported it
abbrev pub has_fit_words : Bool → CarriedCcb → Bool
has_fit_words has ccb = (has || ccb.class == 0) && (ccb.advice == 0 || (has && not ccb.is_active))

-- The line may come next: its kind is in order, its key is above that of the line before it, and what it says is within all limits.
abbrev pub MayFollow : BegunState → CarriedLine → Type 0
MayFollow state (lines.Numbers ccb freeze run) = state.after ≡ 0
MayFollow state (lines.Clock reading) = (state.after ≡ 1) × (reading ≤ last_reading)
MayFollow state (lines.Openings queue openings) =
    ((2 ≤ state.after) × (state.after ≤ 3)) × ((queue ≡ state.opened) × (queue < queue_count state.setup)) × ((1 ≤ openings) × (openings ≤ most_openings))
MayFollow state (lines.Word table index word) =
    (IsComplete state × (state.after ≤ 4)) × (0 < word) × IsNextKey state table index × HasWord state.runs.runs.tables table index
MayFollow state (lines.Ccb ccb) =
    (IsComplete state × (state.after ≤ 5)) × ((state.transport.greatest_ccb < ccb.number.0) × (ccb.number.0 ≤ state.ccb)) × (carry_refusal state.transport ccb ≡ None)
    × (has_fit_words (has_classes state.setup) ccb ≡ true)
MayFollow state (lines.Freeze freeze) =
    (IsComplete state × ((is_timer freeze.holder || is_guest freeze.holder) ≡ true))
    × ((state.transport.greatest_freeze < freeze.number) × (freeze.number ≤ state.freeze))
    × (is_unknown state.setup freeze.place ≡ false) × (meets_limit freeze.place state.transport.freezes state.transport.greatest_freeze ≡ false)

-- with the line
abbrev pub with_line : CarriedLine → BegunState → BegunState
with_line (lines.Numbers ccb freeze run) state = record state { after = 1; ccb = ccb; freeze = freeze; run = run }
with_line (lines.Clock reading) state = record state { after = 2; transport = record state.transport { clock = reading } }
with_line (lines.Openings queue openings) state =
    record state { after = 3; opened = queue + 1; transport = record state.transport { openings = slice_set state.transport.openings queue openings } }
with_line (lines.Word table index word) state = record state {
  after = 4;
  table = table;
  index = index + 1;
  runs = record state.runs { runs = record state.runs.runs { tables = with_word state.runs.runs.tables table index word } };
}
with_line (lines.Ccb ccb) state = record state { after = 5; transport = with_carried_ccb state.transport ccb }
with_line (lines.Freeze freeze) state =
    record state { after = 6; transport = with_carried_freeze state.transport freeze }

-- the world as far as the lines say, but the greatest numbers
abbrev pub so_far : BegunState → World
so_far state = record { transport = state.transport; runs = state.runs.runs; ended = [] }

-- the world of an engine that begins with these lines
abbrev pub finished : BegunState → World
finished state = record {
  transport = record state.transport { greatest_ccb = state.ccb; greatest_freeze = state.freeze };
  runs = record state.runs.runs { greatest = state.run };
  ended = [];
}

-- the right to give the freeze of a line back, if a guest holds it
abbrev pub IsTokenOf : CarriedLine → Option Freeze → Type 0
IsTokenOf (lines.Freeze freeze) None = is_guest freeze.holder ≡ false
IsTokenOf (lines.Freeze freeze) (Some token) = (is_guest freeze.holder ≡ true) × (token ≡ freeze)
IsTokenOf line None = Unit {0}
IsTokenOf line (Some token) = ⊥

-- What the lines so far say is within all limits, and before words nothing was entered.
pub record KeepsBegun (state : BegunState) : Type 0 where
  pub beginning : IsBeginning state.setup (so_far state)
  pub entered : (state.transport.greatest_ccb ≤ state.ccb) × (state.transport.greatest_freeze ≤ state.freeze)
  pub numbers : (state.ccb ≤ last_number) × (state.freeze ≤ last_number) × (state.run ≤ last_number)
  pub fresh : state.after ≤ 3 → (state.transport.greatest_ccb ≡ 0) × (state.transport.greatest_freeze ≡ 0)
  pub no_run : state.runs.runs.greatest ≡ 0
  pub no_token : state.runs.tokens ≡ []
  pub opened : state.opened ≤ queue_count state.setup
