-- A text has one first faulty line at most: what of that is a law.
use Rattle.std.specs.Prelude.{◌≡◌, ◌≢◌, ℕ, Some, List}
use Rattle.world_calls.specs.declared.record.Record.{Record}
use Rattle.world_calls.specs.declared.totals.Totals.{Totals}
use Rattle.world_calls.specs.declared.trace.Version.{Version}
use Rattle.trace.specs.Reading.{IsFaultyLine}
use Rattle.trace.specs.TraceText.{lines_text}

-- In a version no other line is the first that is not of the form, and a text that has one is no trace's.
abbrev pub OneFaultyLine : Type 0
OneFaultyLine = ((version : Version) (text : List ℕ) (number other : ℕ) → IsFaultyLine version text number → IsFaultyLine version text other → number ≡ other)
    × ((version : Version) (text : List ℕ) (number : ℕ) (records : List Record) (totals : Totals) → IsFaultyLine version text number → lines_text version records totals ≢ Some text)
