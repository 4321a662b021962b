-- The text of a trace as far as it was written, and what reading says of it.
use Rattle.std.specs.Prelude.{◌≡◌, ◌≢◌, ◌⊎◌, ℕ, ◌<◌, Bool, true, false, Contains, Some, Result, Ok, Err, List, [], ◌∷◌, ◌++◌, codes, length}
use Rattle.base.specs.declared.or_memory.OrMemory.{OrMemory}
use Rattle.base.specs.declared.or_memory.OrMemory.TheVariants.{OutOfMemory, Fault}
use Rattle.world_calls.specs.declared.totals.Totals.{Totals}
use Rattle.trace.specs.ShortLines.{IsShort}
use Rattle.trace.specs.TraceText.{sums_text}
use Rattle.trace.specs.declared.fault.TraceFault.{TraceFault}
use Rattle.whole_trace.specs.WholeText.{SaysWhole}
use Rattle.trace_front.specs.declared.front.TraceFront.{TraceFront}

-- these stand before the last line feed of a text, and after it
abbrev pub IsLastFeed : List ℕ → List ℕ → List ℕ → Type 0
IsLastFeed text lines rest = (text ≡ lines ++ 10 ∷ rest) × (Contains rest 10 → ⊥)

-- the last of some lines, of which each other one has its line feed
abbrev pub IsLastLine : List ℕ → List ℕ → Type 0
IsLastLine lines line = ((before : List ℕ) × IsLastFeed lines before line) ⊎ ((line ≡ lines) × (Contains lines 10 → ⊥))

-- the last of some lines is the last line of a trace, or is not
abbrev pub EndsSo : Bool → List ℕ → Type 0
EndsSo true lines = (line : List ℕ) × IsLastLine lines line × ((totals : Totals) × (sums_text totals ≡ Some line))
EndsSo false lines = (line : List ℕ) × IsLastLine lines line × ((totals : Totals) → sums_text totals ≢ Some line)

-- nothing stands after them, and the last of them is the last line of a trace; or not
abbrev pub EndsWhole : Bool → List ℕ → List ℕ → Type 0
EndsWhole true lines rest = (rest ≡ []) × EndsSo true lines
EndsWhole false lines rest = (rest ≢ []) ⊎ EndsSo false lines

-- the last line of a trace without records, and a line that no trace has, each with its line feed
abbrev pub no_sums : List ℕ
no_sums = codes "end 0 0 0 0\n"

abbrev pub no_line : List ℕ
no_line = 10 ∷ []

-- What a text stands for, and whether it has all of that. If it has a last line with its line feed, and nothing after it, or has no line at
-- all, it stands for itself. Otherwise its whole lines have a last one after them: that of a trace without records, if what was cut off may
-- be the front of a line, and else one that no trace has.
pub data StandsFor (text : List ℕ) : List ℕ → Bool → Type 0 where
  whole : (lines rest : List ℕ) → IsLastFeed text lines rest → EndsWhole true lines rest → StandsFor text text true
  no_feed : (Contains text 10 → ⊥) → StandsFor text text true
  open_at : (lines rest : List ℕ) → IsLastFeed text lines rest → EndsWhole false lines rest → IsShort rest → StandsFor text (lines ++ 10 ∷ no_sums) false
  torn : (lines rest : List ℕ) → IsLastFeed text lines rest → (IsShort rest → ⊥) → StandsFor text (lines ++ 10 ∷ no_line) false

-- What reading says of what a text stands for: that it is the text of this trace, or its fault. Want of memory says nothing.
abbrev pub SaysSo : List ℕ → Bool → Result TraceFront (OrMemory TraceFault) → Type 0
SaysSo full ended (Ok front) = (front.is_ended ≡ ended) × SaysWhole full (Ok front.whole)
SaysSo full ended (Err fault) = SaysWhole full (Err fault)

abbrev pub SaysFront : List ℕ → Result TraceFront (OrMemory TraceFault) → Type 0
SaysFront text result = (full : List ℕ) × (ended : Bool) × StandsFor text full ended × SaysSo full ended result
