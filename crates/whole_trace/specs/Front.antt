-- The front of a continued trace, before its first record.
use Rattle.std.specs.Prelude.{◌≡◌, ℕ, ◌+◌, ◌<◌, Option, Some, List, [], ◌∷◌, ◌++◌, IsTrue, length, take}
use Rattle.std.specs.Fmt.{option_append}
use Rattle.base.specs.declared.or_memory.OrMemory.{OrMemory}
use Rattle.base.specs.declared.or_memory.OrMemory.TheVariants.{OutOfMemory, Fault}
use Rattle.trace_lines.specs.declared.no_text.NoText.{NoText}
use Rattle.world_calls.specs.declared.carried_line.CarriedLine.{CarriedLine}
use Rattle.world_calls.specs.declared.trace.Version.{Version}
use Rattle.carried_lines.specs.CarriedText.{is_unspelled}
use Rattle.carried_lines.specs.FirstLine.{continued_header}
use Rattle.whole_trace.specs.Continued.{carried_texts}

-- its first line and its carried lines
abbrev pub front_text : Version → List CarriedLine → Option (List ℕ)
front_text version lines = option_append (Some (continued_header version)) (carried_texts version lines)

-- one of the lines has no text in the version
pub record HasUnspelled (version : Version) (lines : List CarriedLine) : Type 0 where
  pub place : ℕ
  pub line : CarriedLine
  pub below : place < length lines
  pub is : take (place + 1) lines ≡ take place lines ++ line ∷ []
  pub unspelled : IsTrue (is_unspelled version line)

-- why lines are not printed
abbrev pub IsUnprinted : Version → List CarriedLine → OrMemory NoText → Type 0
IsUnprinted version lines OutOfMemory = Unit {0}
IsUnprinted version lines (Fault fault) = HasUnspelled version lines

-- why one line is not
abbrev pub IsUntold : Version → CarriedLine → OrMemory NoText → Type 0
IsUntold version line OutOfMemory = Unit {0}
IsUntold version line (Fault fault) = IsTrue (is_unspelled version line)
