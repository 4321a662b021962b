-- The lines of a source, one by one.
use Rattle.std.specs.Prelude.{◌≡◌, ◌<◌, ◌==◌, ℕ, Bool, true, not, Option, List, [], ◌∷◌, ◌++◌, length}
use Rattle.std.specs.List.{list_all}
use Rattle.std.specs.Io.KnownBytes.{Consumes, IsAtEnd}
use Rattle.trace.specs.Sinks.{HasFailed}
use Rattle.trace.specs.declared.laws.TheConstants.{LONGEST_LINE}
use Rattle.host_recovery.specs.declared.lines.Next.{Next}
use Rattle.host_recovery.specs.declared.lines.Next.TheVariants as next
use Rattle.host_recovery.specs.declared.lines.Filled.{Filled}
use Rattle.host_recovery.specs.declared.lines.Filled.TheVariants as filled

-- the line that came last, and what was read beyond it
pub record LinesState : Type 0 where
  pub line : List ℕ
  pub ahead : List ℕ

-- no line feed, which is 10
abbrev pub is_in_line : ℕ → Bool
is_in_line byte = not (byte == 10)

abbrev pub IsOneLine : List ℕ → Type 0
IsOneLine text = list_all is_in_line text ≡ true

-- What was ahead, with what was read, is this line, its line feed, and what is ahead now; or, at the end, bytes without a line feed; or it
-- begins with more of these than a line has.
abbrev pub NextSays : Option (List ℕ) → ℕ → LinesState → Next → LinesState → Option (List ℕ) → ℕ → Type 0
NextSays old failed before next.Line after new fails =
    (given : List ℕ) × Consumes old new given × (before.ahead ++ given ≡ after.line ++ 10 ∷ after.ahead) × IsOneLine after.line × (fails ≡ failed)
NextSays old failed before next.Torn after new fails =
    (given : List ℕ) × Consumes old new given × IsAtEnd new × (before.ahead ++ given ≡ after.line) × IsOneLine after.line × (fails ≡ failed)
NextSays old failed before next.Long after new fails =
    (given : List ℕ) × Consumes old new given × (line : List ℕ) × (rest : List ℕ) × (before.ahead ++ given ≡ line ++ rest) × IsOneLine line × (LONGEST_LINE < length line) × (fails ≡ failed)
NextSays old failed before next.Failed after new fails = HasFailed failed fails

-- where nothing was ahead, what was read is now
abbrev pub FillSays : Option (List ℕ) → ℕ → Filled → List ℕ → Option (List ℕ) → ℕ → Type 0
FillSays old failed filled.Some ahead new fails = Consumes old new ahead × (0 < length ahead) × (fails ≡ failed)
FillSays old failed filled.End ahead new fails = Consumes old new [] × IsAtEnd new × (fails ≡ failed)
FillSays old failed filled.Failed ahead new fails = HasFailed failed fails
