-- What of a trace stands in a place.
use Rattle.std.specs.Prelude.{◌≡◌, ◌≢◌, ◌≤◌, ◌<◌, ◌+◌, ◌⊎◌, ◌==◌, ◌++◌, ℕ, Option, Some, None, List, [], ◌∷◌, if◌then◌else◌, drop, length, slice_get, take, slice_range}
use Rattle.std.specs.Fmt.{option_append, with_newline}
use Rattle.world_calls.specs.declared.carried_line.CarriedLine.{CarriedLine}
use Rattle.world_calls.specs.declared.record.Record.{Record}
use Rattle.world_calls.specs.declared.totals.Totals.{Totals}
use Rattle.world_calls.specs.declared.trace.Version.{Version}
use Rattle.carried_lines.specs.CarriedText.{carried_text}
use Rattle.carried_lines.specs.FirstLine.{continued_header}
use Rattle.world.specs.World.{Setup, World, version_of}
use Rattle.engine_beginning.specs.Lines.{lines_of as lines_of_world}
use Rattle.engine_core.specs.EngineState.{EngineState}
use Rattle.trace.specs.TraceText.{header, line_of, totals_text}
use Rattle.host_embedding.specs.declared.call_result.CallResult.{CallResult}
use Rattle.host_embedding.specs.declared.call_result.CallResult.TheVariants.{Done, NoRoom, NoText, Taken}

-- the lines of these items, each with its line feed, if all have one
abbrev pub lines_of : {T : Type 0} → (T → Option (List ℕ)) → List T → Option (List ℕ)
lines_of text [] = Some []
lines_of text (first ∷ rest) = option_append (with_newline (text first)) (lines_of text rest)

-- After what stood there, the place has the lines of the items from one on, up to the next.
pub record AddsLines {T : Type 0} (text : T → Option (List ℕ)) (items : List T) (before : List ℕ) (from : ℕ) (place : List ℕ) (next : ℕ) : Type 0 where
  pub lines : List ℕ
  pub lines_are : lines_of text (slice_range items from next) ≡ Some lines
  pub text_is : place ≡ before ++ lines
  pub onwards : from ≤ next

-- what stands before the line of item 0
abbrev pub first_line : List ℕ → ℕ → List ℕ
first_line first from = if from == 0 then first else []

-- what stands before the line of record 0: the first line of a trace, and nothing if the engine follows another one, whose lines have
-- their own first line
abbrev pub front_over : Option World → Version → List ℕ
front_over None version = header version
front_over (Some world) version = []

abbrev pub front_of : Setup → List ℕ
front_of setup = front_over setup.carried (version_of setup)

-- after so many bytes of a place the line of the item of that number finds no room, if there is such an item
abbrev pub FindsNoRoom : {T : Type 0} → (T → Option (List ℕ)) → List T → ℕ → List ℕ → ℕ → Type 0
FindsNoRoom {T} text items number place written = (item : T) → slice_get items number ≡ Some item
    → (line : List ℕ) × (with_newline (text item) ≡ Some line) × (length place < written + length line)

-- it goes no further than there are items
abbrev pub IsWithin : {T : Type 0} → List T → ℕ → ℕ → Type 0
IsWithin items from next = (from < length items → next ≤ length items) × (length items ≤ from → next ≡ from)

-- the item of that number has no line
abbrev pub HasNoLine : {T : Type 0} → (T → Option (List ℕ)) → List T → ℕ → Type 0
HasNoLine {T} text items number = (item : T) × (slice_get items number ≡ Some item) × (text item ≡ None)

-- Lines that are put with this result, of the items from one on, of which so many were handed on: as many as find room, and of each
-- item that there is. Done, the line of the first of them was put, if there is one, and that of the next item finds no room, or no
-- item is left. If what stands before the line of item 0, or the line of the first item after it, finds no room, nothing is put, and the
-- place is as it was before; so it is exactly where the first of them was handed on, which is told then. There is no other result but that
-- the next item has no line. Whatever the result, what stands after the lines is what stood there before.
abbrev pub PutsLines : {T : Type 0} → (T → Option (List ℕ)) → CallResult → List ℕ → List T → ℕ → ℕ → List ℕ → List ℕ → ℕ → ℕ → Type 0
PutsLines text result first items taken from before place written next =
    (result ≢ NoRoom → result ≢ Taken → AddsLines text items (first_line first from) from (take written place) next × IsWithin items from next)
    × (result ≡ NoRoom → (written ≡ 0) × (next ≡ from) × (place ≡ before)
    × ((length place < length (first_line first from)) ⊎ ((from < length items) × FindsNoRoom text items from place (length (first_line first from)))))
    × (result ≡ Done → FindsNoRoom text items next place written × (from < length items → from < next))
    × (result ≢ NoRoom → result ≢ Done → result ≢ Taken → (result ≡ NoText) × HasNoLine text items next)
    × (drop written place ≡ drop written before)
    × (result ≡ Taken → (from < taken) × (written ≡ 0) × (next ≡ from) × (place ≡ before))
    × (from < taken → result ≡ Taken)

-- Lines that are taken with this result: those that are put of the records from the first on that was not handed on. The records whose
-- lines were put are handed on then, and nothing else changes. If none is left nothing is put.
pub record TakesLines (result : CallResult) (old new : EngineState) (before place : List ℕ) (written next : ℕ) : Type 0 where
  pub handed : new ≡ record old { taken = next }
  pub lines : old.taken < length old.history → PutsLines line_of result (front_of old.setup) old.history old.taken old.taken before place written next
  pub none : length old.history ≤ old.taken → (result ≡ Done) × (written ≡ 0) × (next ≡ old.taken) × (place ≡ before)

-- the lines of what an engine took over, which are there until its first record
abbrev pub carried_until : Option World → List Record → Option (List CarriedLine)
carried_until (Some world) [] = Some (lines_of_world world)
carried_until (Some world) (first ∷ rest) = None
carried_until None history = None

-- Carried lines that are put with this result: none of them was handed on, and before the first of them stands the first line of their
-- trace. If there are none, or no more, they are told to be taken, and nothing is put.
abbrev pub PutsLeft : CallResult → Version → Option (List CarriedLine) → ℕ → List ℕ → List ℕ → ℕ → ℕ → Type 0
PutsLeft result version (Some lines) from before place written next =
    PutsLines (carried_text version) result (continued_header version) lines 0 from before place written next
PutsLeft result version None from before place written next = (result ≡ Taken) × (written ≡ 0) × (next ≡ from) × (place ≡ before)

abbrev pub PutsCarried : CallResult → EngineState → ℕ → List ℕ → List ℕ → ℕ → ℕ → Type 0
PutsCarried result state from before place written next =
    PutsLeft result (version_of state.setup) (carried_until state.setup.carried state.history) from before place written next

-- The last line that is put with this result: if it is not put, it finds no room, and the place is as it was before. What stands after it
-- is what stood there before.
abbrev pub PutsSums : CallResult → Totals → List ℕ → List ℕ → ℕ → Type 0
PutsSums result totals before place written =
    (result ≡ Done → (totals_text totals ≡ Some (take written place)) × (drop written place ≡ drop written before))
    × (result ≢ Done → (result ≡ NoRoom) × (written ≡ 0) × (place ≡ before) × ((line : List ℕ) → totals_text totals ≡ Some line → length place < length line))
