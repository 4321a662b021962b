-- What holds of the texts of all lines, in each version.
use Rattle.std.specs.Prelude.{◌≡◌, ◌≢◌, ℕ, Option, Some, List, ◌∷◌, ◌++◌, codes}
use Rattle.std.specs.Fmt.{option_append}
use Rattle.world_calls.specs.declared.carried_line.CarriedLine.{CarriedLine}
use Rattle.world_calls.specs.declared.trace.Version.{Version}
use Rattle.carried_lines.specs.CarriedText.{carried_text}

-- a text is that of one line
abbrev pub LinesHaveOwnTexts : Type 0
LinesHaveOwnTexts = (version : Version) (one other : CarriedLine) (text : List ℕ) → carried_text version one ≡ Some text → carried_text version other ≡ Some text → one ≡ other

-- no text has a line feed, which is 10
abbrev pub NoTextHasALineFeed : Type 0
NoTextHasALineFeed = (version : Version) (line : CarriedLine) (front rest : List ℕ) → carried_text version line ≢ Some (front ++ 10 ∷ rest)

-- no text is that of a record, which has what was asked, ` = ` and what was answered
abbrev pub NoTextIsOfARecord : Type 0
NoTextIsOfARecord = (version : Version) (line : CarriedLine) (asked answered : Option (List ℕ)) (text : List ℕ) → option_append asked (option_append (Some (codes " = ")) answered) ≡ Some text → carried_text version line ≢ Some text

-- nor that of a trace's last line, which begins with `end`
abbrev pub NoTextIsOfTheEnd : Type 0
NoTextIsOfTheEnd = (version : Version) (line : CarriedLine) (rest : List ℕ) → carried_text version line ≢ Some (codes "end" ++ rest)
