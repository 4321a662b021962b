-- The lines of an input, one by one.
use Rattle.std.specs.Prelude.{◌≡◌, ◌≢◌, ◌≤◌, ◌⊎◌, ◌==◌, ◌+◌, ℕ, Bool, true, false, not, Option, IfSome, List, [], ◌∷◌, ◌++◌, length, drop, IsUtf8}
use Rattle.std.specs.List.{list_all}
use Rattle.host_live.specs.Drafts.{IsDraftOf}
use Rattle.host_live.specs.Inputs.{CameState, all_of}
use Rattle.host_live.specs.declared.draft.TheConstants.{MOST_BYTES}
use Rattle.host_live.specs.declared.lines.Lines.{Lines}
use Rattle.host_live.specs.declared.lines.Next.{Next}
use Rattle.host_live.specs.declared.lines.Next.TheVariants as next

-- ---- what a line is

-- no line feed, which is 10
abbrev pub is_in_line : ℕ → Bool
is_in_line byte = not (byte == 10)

abbrev pub IsOneLine : List ℕ → Type 0
IsOneLine line = list_all is_in_line line ≡ true

-- the text ends with a line feed, if it has any byte
abbrev pub EndsALine : List ℕ → Type 0
EndsALine text = (text ≡ []) ⊎ ((front : List ℕ) × (text ≡ front ++ 10 ∷ []))

-- no byte is 0
abbrev pub is_no_nul : ℕ → Bool
is_no_nul byte = not (byte == 0)

-- it can be a line
pub record IsText (line : List ℕ) : Type 0 where
  pub short : length line ≤ MOST_BYTES
  pub utf8 : IsUtf8 line
  pub no_nul : list_all is_no_nul line ≡ true

-- ---- where the reading of lines stands

-- the piece that came last was taken
abbrev pub IsTaken : Option CameState → Lines → Type 0
IsTaken came lines = IfSome came (λ known. length known.piece ≤ lines.taken)

-- the input is at its end
abbrev pub IsOver : Option CameState → Type 0
IsOver came = IfSome came (λ known. known.is_over ≡ true)

-- After what came before, these lines were told, and this came of the next one; the rest of the piece that came last was not taken yet. Of a
-- line that was told nothing more comes.
pub record Stands (base : List ℕ) (came : Option CameState) (lines : Lines) (told : List ℕ) : Type 0 where
  pub line : List ℕ
  pub one_line : IsOneLine line
  pub kept : lines.is_told ≡ false → IsDraftOf line lines.draft
  pub anew : lines.is_told ≡ true → line ≡ []
  pub ended : lines.is_ended ≡ true → (line ≡ []) × IsTaken came lines × IsOver came
  pub whole : lines.is_ended ≡ false → EndsALine told
  pub is : IfSome came (λ known. all_of known ≡ base ++ (told ++ (line ++ drop lines.taken known.piece)))

-- One line more was told, with its line feed.
pub record TellsLine (base : List ℕ) (came : Option CameState) (lines : Lines) (told : List ℕ) : Type 0 where
  pub line : List ℕ
  pub one_line : IsOneLine line
  pub kept : IsDraftOf line lines.draft
  pub is_told : lines.is_told ≡ true
  pub going : lines.is_ended ≡ false
  pub begins : EndsALine told
  pub stands : Stands base came lines (told ++ (line ++ 10 ∷ []))

-- At the end of the input stands a line without a line feed.
pub record TellsCut (base : List ℕ) (came : Option CameState) (lines : Lines) (told : List ℕ) : Type 0 where
  pub line : List ℕ
  pub one_line : IsOneLine line
  pub some : line ≢ []
  pub is_ended : lines.is_ended ≡ true
  pub begins : EndsALine told
  pub stands : Stands base came lines (told ++ line)

-- the input is at its end, and all that came was told
abbrev pub IsAll : List ℕ → Option CameState → List ℕ → Type 0
IsAll base came told = IfSome came (λ known. (known.is_over ≡ true) × (all_of known ≡ base ++ told))

-- the next line was there or was not
abbrev pub Takes : List ℕ → Option CameState → Lines → List ℕ → Bool → Lines → Type 0
Takes base came old told true new = TellsLine base came new told × (new.number ≡ old.number + 1)
Takes base came old told false new = Stands base came new told × (new.number ≡ old.number) × (new.is_ended ≡ false → new.is_told ≡ false) × IsTaken came new

-- what came next
abbrev pub Waits : List ℕ → Lines → List ℕ → Next → Option CameState → Lines → Type 0
Waits base old told next.Line came new = TellsLine base came new told × (new.number ≡ old.number + 1)
Waits base old told next.Cut came new = TellsCut base came new told × (new.number ≡ old.number + 1)
Waits base old told next.Nothing came new = Stands base came new told × (new.number ≡ old.number)
Waits base old told (next.Due reading) came new = Stands base came new told × (new.number ≡ old.number)
Waits base old told next.End came new = Stands base came new told × (new.number ≡ old.number) × IsAll base came told
Waits base old told next.Failed came new = Stands base came new told × (new.number ≡ old.number)
