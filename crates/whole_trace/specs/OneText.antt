-- A text has one first faulty line at most: what of that is a law.
use Rattle.std.specs.Prelude.{◌≡◌, ◌≢◌, ℕ, Some, List}
use Rattle.world_calls.specs.declared.carried_line.CarriedLine.{CarriedLine}
use Rattle.world_calls.specs.declared.record.Record.{Record}
use Rattle.world_calls.specs.declared.totals.Totals.{Totals}
use Rattle.world_calls.specs.declared.trace.Version.{Version}
use Rattle.carried_lines.specs.InOrder.{AreInOrder}
use Rattle.whole_trace.specs.Continued.{IsFaultyContinued, after_header}

-- In a version no other line is the first that is not of the form, and what has one is no continued trace.
pub record OneFaultyLine : Type 0 where
  pub once : (version : Version) (text : List ℕ) (number other : ℕ) → IsFaultyContinued version text number → IsFaultyContinued version text other → number ≡ other
  pub none : (version : Version) (text : List ℕ) (number : ℕ) (lines : List CarriedLine) (records : List Record) (totals : Totals)
      → IsFaultyContinued version text number → AreInOrder lines → after_header version lines records totals ≢ Some text
