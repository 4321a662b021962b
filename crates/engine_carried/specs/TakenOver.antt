-- What an engine takes over from the one before it, when that one may be followed, and how numbers go on.
use Rattle.std.specs.Prelude.{◌≡◌, ℕ, zero, suc, ◌+◌, ◌<◌, ◌==◌, ◌&&◌, if◌then◌else◌, Bool, true, false, List, [], ◌∷◌, length, map, slice_index, slice_index_or, All}
use Rattle.std.specs.List.{range_with_len}
use Rattle.freeze_ledger.specs.declared.freeze.Freeze.{Freeze}
use Rattle.world.specs.Limits.{IsPlain}
use Rattle.world.specs.Refusals.{is_unknown}
use Rattle.world.specs.World.{LiveCcb, Setup, World, has_classes, queue_count, queue_setup}
use Rattle.engine_carried.specs.declared.numbering.Numbering.{Numbering}
use Rattle.engine_carried.specs.declared.numbering.Numbering.TheVariants.{Fresh, Same}

-- Each queue that a live CCB is of, and each queue and controller that a freeze is of, is one of the setup's; and if the setup's CCBs
-- have no class, none has a class or an advice.
pub record Fits (setup : Setup) (world : World) : Type 0 where
  pub ccbs : All (λ live. live.ccb.queue.0 < queue_count setup) world.transport.live
  pub freezes : All (λ freeze. is_unknown setup freeze.place ≡ false) world.transport.freezes
  pub plain : has_classes setup ≡ false → All IsPlain world.transport.live

-- a queue keeps its present openings if both setups give it the same number, and has that of the new one else
abbrev pub openings_over : Setup → Setup → List ℕ → ℕ → ℕ
openings_over old new present queue =
    if (queue_setup old queue).openings == (queue_setup new queue).openings
    then slice_index_or present queue 0
    else (queue_setup new queue).openings

-- how many words a table has, 0 if there is no such table
abbrev pub table_length : Setup → ℕ → ℕ
table_length setup table = slice_index_or setup.limits.table_lengths table 0

-- the words with which a table begins, none if there is no such table
abbrev pub first_words : Setup → ℕ → List ℕ
first_words setup table = slice_index_or setup.tables table []

-- the first so many words are the same
abbrev pub are_same_words : ℕ → List ℕ → List ℕ → Bool
are_same_words zero one other = true
are_same_words (suc n) one other = are_same_words n one other && slice_index one n == slice_index other n

-- both setups give the table the same length and the same first words
abbrev pub keeps_words : Setup → Setup → ℕ → Bool
keeps_words old new table =
    table_length old table == table_length new table && are_same_words (table_length new table) (first_words old table) (first_words new table)

-- then a table keeps its words, and begins with those of the new setup else
abbrev pub words_over : Setup → Setup → List (List ℕ) → ℕ → List ℕ
words_over old new present table = if keeps_words old new table then slice_index_or present table [] else first_words new table

-- these CCBs in their order, under the numbers from this one on
abbrev pub ccbs_from : ℕ → List LiveCcb → List LiveCcb
ccbs_from number [] = []
ccbs_from number (live ∷ more) = record live { ccb = record live.ccb { number = record { 0 = number } } } ∷ ccbs_from (number + 1) more

-- and these freezes
abbrev pub freezes_from : ℕ → List Freeze → List Freeze
freezes_from number [] = []
freezes_from number (freeze ∷ more) = record freeze { number = number } ∷ freezes_from (number + 1) more

abbrev pub ccbs_under : Numbering → List LiveCcb → List LiveCcb
ccbs_under Same ccbs = ccbs
ccbs_under Fresh ccbs = ccbs_from 1 ccbs

abbrev pub freezes_under : Numbering → List Freeze → List Freeze
freezes_under Same freezes = freezes
freezes_under Fresh freezes = freezes_from 1 freezes

-- the greatest number given: it stays, or is how many there are
abbrev pub greatest_under : Numbering → (greatest count : ℕ) → ℕ
greatest_under Same greatest count = greatest
greatest_under Fresh greatest count = count

-- What an engine of the new setup takes over from a world of an engine of the old one in which no run is live.
abbrev pub taken_over : Numbering → (old new : Setup) → World → World
taken_over numbering old new world = record {
  transport = record {
    live = ccbs_under numbering world.transport.live;
    openings = map (openings_over old new world.transport.openings) (range_with_len 0 (queue_count new));
    freezes = freezes_under numbering world.transport.freezes;
    greatest_ccb = greatest_under numbering world.transport.greatest_ccb (length world.transport.live);
    greatest_freeze = greatest_under numbering world.transport.greatest_freeze (length world.transport.freezes);
    clock = world.transport.clock;
  };
  runs = record {
    list = [];
    greatest = greatest_under numbering world.runs.greatest 0;
    tables = map (words_over old new world.runs.tables) (range_with_len 0 (length new.limits.table_lengths));
  };
  ended = [];
}
