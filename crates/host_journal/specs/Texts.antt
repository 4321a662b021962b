-- What a reader says of bytes that come piece by piece: whether they are UTF-8, and whether they end with a last line.
use Rattle.std.specs.Prelude.{◌≡◌, ◌⊎◌, ◌<◌, ◌≤◌, ◌+◌, ℕ, Bool, true, false, Option, Some, None, IfSome, Result, Ok, Err, List, [], ◌∷◌, ◌++◌, length, take, drop, IsUtf8, ⊤}
use Rattle.world_calls.specs.declared.totals.Totals.{Totals}
use Rattle.trace.specs.TraceText.{sums_text}
use Rattle.trace.specs.declared.laws.TheConstants.{LONGEST_LINE}
use Rattle.host_recovery.specs.LinesRead.{IsOneLine}
use Rattle.host_recovery.specs.declared.recovering.TheConstants.{MOST_WHOLE}
use Rattle.host_journal.specs.Disks.{Failed, Step, with_step}
use Rattle.host_journal.specs.declared.disk.DiskFault.TheVariants.{Failed as NotDone}
use Rattle.host_journal.specs.declared.fault.JournalFile.TheVariants.{Segment}
use Rattle.host_live.specs.LinesCome.{EndsALine}

-- ---- the last line

-- this is a last line, without its line feed
abbrev pub IsLastLine : List ℕ → Type 0
IsLastLine line = (totals : Totals) × (sums_text totals ≡ Some line)

-- The bytes end with a last line and its line feed, which is 10. It begins at their front, or after a line feed.
pub record EndsInSums (bytes : List ℕ) : Type 0 where
  pub front : List ℕ
  pub line : List ℕ
  pub is : bytes ≡ front ++ (line ++ 10 ∷ [])
  pub at_line : EndsALine front
  pub last : IsLastLine line

-- ---- what is said

-- yes, it holds of the bytes; or no
abbrev pub Tells : (List ℕ → Type 0) → List ℕ → Bool → Type 0
Tells P bytes true = P bytes
Tells P bytes false = P bytes → ⊥

-- that is said of all that was to come, if it is known
abbrev pub Says : {E : Type 0} → (List ℕ → Type 0) → Option (List ℕ) → Result Bool E → Type 0
Says P None result = ⊤
Says P (Some bytes) (Ok said) = Tells P bytes said
Says P (Some bytes) (Err fault) = ⊤

-- there are more bytes than are read, if they are known
abbrev pub AreTooMany : Option (List ℕ) → Type 0
AreTooMany known = IfSome known (λ bytes. MOST_WHOLE ≤ length bytes)

-- all bytes of the segment of that number were read, and nothing was done; or a read failed, or they are too many
abbrev pub ReadsAll : {T E : Type 0} → (number : ℕ) → Option (List ℕ) → Option (List Step) → Result T E → Option (List Step) → Type 0
ReadsAll number known old (Ok said) new = new ≡ old
ReadsAll number known old (Err fault) new = (new ≡ with_step old (Failed (Segment number) NotDone)) ⊎ ((new ≡ old) × AreTooMany known)

-- ---- inside

-- whatever follows, these bytes are not UTF-8
abbrev pub IsBad : List ℕ → Type 0
IsBad bytes = (more : List ℕ) → IsUtf8 (bytes ++ more) → ⊥

-- so many from the front are, and the few after these are not, if there are any
pub record IsCutAt (bytes : List ℕ) (whole : ℕ) : Type 0 where
  pub within : whole ≤ length bytes
  pub few : length bytes < whole + 4
  pub front : IsUtf8 (take whole bytes)
  pub rest : whole < length bytes → IsUtf8 (drop whole bytes) → ⊥

-- the line that comes is kept, as far as it has no more bytes than a line may have
abbrev pub IsKept : Bool → List ℕ → List ℕ → Type 0
IsKept true kept line = (LONGEST_LINE < length line) × (LONGEST_LINE ≤ length kept)
IsKept false kept line = kept ≡ line

-- The bytes so far are whole lines, of which the last one is a last line or not, and the line that comes.
pub record IsScanned (bytes kept : List ℕ) (is_long is_end : Bool) : Type 0 where
  pub whole : List ℕ
  pub line : List ℕ
  pub is : bytes ≡ whole ++ line
  pub at_line : EndsALine whole
  pub one_line : IsOneLine line
  pub is_kept : IsKept is_long kept line
  pub ended : Tells EndsInSums whole is_end
