-- What the columns of a summary are: how many records are so.
use Rattle.std.specs.Prelude.{◌≡◌, ℕ, ◌+◌, ◌*◌, ◌<◌, ◌==◌, nat_lt, Bool, false, List, [], ◌∷◌, Option, Some, None, count_by, length, slice_index_or, if◌then◌else◌}
use Rattle.std.specs.BTreeMap.{BTreeMap, get}
use Rattle.std.specs.Ordering.{nat_cmp}
use Rattle.world_calls.specs.declared.carried_line.CarriedLine.{CarriedLine}
use Rattle.world_calls.specs.declared.record.Record.{Record}
use Rattle.show_counts.specs.declared.cells.Rows.{Rows}
use Rattle.show_counts.specs.declared.cells.Rows.TheVariants as rows
use Rattle.show_counts.specs.Told.{carried, submission, recovery}

-- that number, if it is told of this one
abbrev pub told_of : ℕ → Option (ℕ × ℕ) → Option ℕ
told_of number None = None
told_of number (Some pair) = if pair.0 == number then Some pair.1 else None

abbrev pub or_later : Option ℕ → Option ℕ → Option ℕ
or_later None later = later
or_later (Some first) later = Some first

-- what the first record tells of a number that tells anything of it
abbrev pub first_told : (Record → Option (ℕ × ℕ)) → ℕ → List Record → Option ℕ
first_told tells number [] = None
first_told tells number (record_ ∷ records) = or_later (told_of number (tells record_)) (first_told tells number records)

-- the queue of a CCB that lines carry over
abbrev pub carried_queue : ℕ → List CarriedLine → Option ℕ
carried_queue ccb [] = None
carried_queue ccb (line ∷ lines) = or_later (told_of ccb (carried line)) (carried_queue ccb lines)

-- the queue of a CCB: the one with which it was carried over, or that of the submission that was answered by it
abbrev pub queue_of : List CarriedLine → List Record → ℕ → Option ℕ
queue_of lines records ccb = or_later (carried_queue ccb lines) (first_told submission ccb records)

-- the CCB of a run: that of the completion that was answered by it
abbrev pub ccb_of : List Record → ℕ → Option ℕ
ccb_of records run = first_told recovery run records

abbrev pub and_then : Option ℕ → (ℕ → Option ℕ) → Option ℕ
and_then None next = None
and_then (Some it) next = next it

-- the queue of a run is that of its CCB
abbrev pub queue_of_run : List CarriedLine → List Record → ℕ → Option ℕ
queue_of_run lines records run = and_then (ccb_of records run) (queue_of lines records)

-- the cell of a table with so many columns, in the row of a queue
abbrev pub cell : ℕ → Option ℕ → ℕ → Option ℕ
cell columns None column = None
cell columns (Some queue) column = if nat_lt column columns then Some (queue * columns + column) else None

-- the cell of what is told of a CCB or a run, whose queue is found so
abbrev pub cell_of : ℕ → (ℕ → Option ℕ) → Option (ℕ × ℕ) → Option ℕ
cell_of columns queue_found None = None
cell_of columns queue_found (Some pair) = cell columns (queue_found pair.0) pair.1

-- the queue that is told
abbrev pub second_told : Option (ℕ × ℕ) → Option ℕ
second_told None = None
second_told (Some pair) = Some pair.1

-- what a table has at a number
unfoldable pub at : BTreeMap ℕ ℕ → ℕ → Option ℕ
at table number = get nat_cmp table number

-- the queue of a run by a table of runs and one of CCBs
abbrev pub at_both : BTreeMap ℕ ℕ → BTreeMap ℕ ℕ → ℕ → Option ℕ
at_both ccbs runs run = and_then (at runs run) (at ccbs)

-- the cell of what is told, by its row
abbrev pub cell_by : Rows → BTreeMap ℕ ℕ → BTreeMap ℕ ℕ → ℕ → Option (ℕ × ℕ) → Option ℕ
cell_by rows.Told ccbs runs columns pair = second_told pair
cell_by rows.OfCcb ccbs runs columns pair = cell_of columns (at ccbs) pair
cell_by rows.OfRun ccbs runs columns pair = cell_of columns (at_both ccbs runs) pair

abbrev pub is_at : ℕ → Option ℕ → Bool
is_at place None = false
is_at place (Some other) = other == place

-- how many records stand in that cell
abbrev pub records_at : (Record → Option ℕ) → ℕ → List Record → ℕ
records_at cell_in place records = count_by (λ it. is_at place (cell_in it)) records

-- these are so many cells, and each counts its records
pub record AreCounts (cell_in : Record → Option ℕ) (cells : ℕ) (records : List Record) (counts : List ℕ) : Type 0 where
  pub many : length counts ≡ cells
  pub each : (place : ℕ) → place < cells → slice_index_or counts place 0 ≡ records_at cell_in place records
