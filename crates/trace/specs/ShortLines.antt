-- What each line of a trace is, whatever it tells: short, and of bytes that are shown.
use Rattle.std.specs.Prelude.{◌≡◌, ◌≤◌, ◌&&◌, ℕ, Bool, true, nat_le, Some, List, length}
use Rattle.std.specs.List.{list_all}
use Rattle.world_calls.specs.declared.record.Record.{Record}
use Rattle.world_calls.specs.declared.totals.Totals.{Totals}
use Rattle.world_calls.specs.declared.trace.Version.{Version}
use Rattle.trace.specs.TraceText.{entry_text, sums_text}
use Rattle.trace.specs.declared.laws.TheConstants.{LONGEST_LINE}

-- a byte that a line may have: from the blank to the tilde
abbrev pub is_shown : ℕ → Bool
is_shown byte = nat_le 32 byte && nat_le byte 126

-- no more bytes than a line has, and no others
pub record IsShort (line : List ℕ) : Type 0 where
  pub few : length line ≤ LONGEST_LINE
  pub shown : list_all is_shown line ≡ true

-- without its line feed each record's line, and each last line
abbrev pub LinesAreShort : Type 0
LinesAreShort = ((version : Version) (entry : Record) (line : List ℕ) → entry_text version entry ≡ Some line → IsShort line)
    × ((totals : Totals) (line : List ℕ) → sums_text totals ≡ Some line → IsShort line)
