-- What a sink holds that appends to a segment before anything goes out.
use Rattle.std.specs.Prelude.{◌≡◌, ◌+◌, ℕ, length, Bool, true, false, Option, Some, None, IfNone, Result, Ok, Err, OnOk, List, [], ◌∷◌, ◌++◌, ⊤}
use Rattle.base.specs.declared.or_memory.OrMemory.{OrMemory}
use Rattle.base.specs.declared.or_memory.OrMemory.TheVariants.{OutOfMemory, Fault}
use Rattle.world_calls.specs.declared.record.Record.{Record}
use Rattle.world.specs.World.{Setup}
use Rattle.manifest.specs.Meaning.{Means}
use Rattle.engine_core.specs.ByNumber.{NumberedState, IsBehind}
use Rattle.host_live.specs.Answering.{Answer, IsLong}
use Rattle.host_live.specs.Inputs.{CameState}
use Rattle.host_live.specs.Served.{ContinuesTurns, IsOwed}
use Rattle.host_live.specs.Turns.{Point}
use Rattle.host_live.specs.declared.lines.Lines.{Lines}
use Rattle.host_live.specs.declared.reports.Unfollowed.{Unfollowed}
use Rattle.host_live.specs.declared.request.Succession.{Succession}
use Rattle.host_live.specs.declared.manner.Manner.{Manner}
use Rattle.host_live.specs.declared.reports.LineFault.{LineFault}
use Rattle.host_journal.specs.declared.fault.JournalFault.{JournalFault}
use Rattle.host_journal.specs.declared.fault.JournalFault.TheVariants as faults
use Rattle.host_journal.specs.declared.fault.JournalFile.TheVariants as files
use Rattle.host_journal.specs.declared.lost.Lost.{Lost}
use Rattle.host_journal.specs.declared.lost.Lost.TheVariants as losses
use Rattle.host_journal.specs.Disks.{AllDone, EndsIn, IsFailed, IsNotOut, Step, kept_so_far}
use Rattle.host_live.specs.LinesCome.{EndsALine}
use Rattle.host_journal.specs.Order.{At, IsCovered, Told}

-- the steps of its disk, what waits to go out, why nothing goes out any more, how many writes failed, the answers so far, how many bytes were
-- appended, whether the segment is synced before anything goes out, and whether it was appended to since
pub record JournaledState : Type 0 where
  pub steps : Option (List Step)
  pub pending : List ℕ
  pub lost : Option Lost
  pub failures : ℕ
  pub answers : List Answer
  pub place : ℕ
  pub is_synced : Bool
  pub is_behind : Bool

-- What waits is all that is not out of the first line, of what was appended, and of the answers between.
pub record AllWaits (first kept synced out pending : List ℕ) (answers : List Answer) (place : ℕ) (is_behind is_at_line : Bool) : Type 0 where
  pub told : Told first (first ++ kept) (out ++ pending) answers
  pub appended : place ≡ length kept
  pub level : is_behind ≡ false → synced ≡ kept
  pub line : is_at_line ≡ true → EndsALine (first ++ kept)

-- What is out is covered, and its answers are the first of these.
pub record IsAnsweredBy (answers : List Answer) (first trace out : List ℕ) : Type 0 where
  pub covered : IsCovered first trace out
  pub others : List Answer
  pub are : answers ≡ covered.answers ++ others

-- how many bytes were kept before, if they are known
abbrev pub length_of : Option (List ℕ) → ℕ
length_of None = 0
length_of (Some bytes) = length bytes

-- the answers, with the bytes counted that were kept before
abbrev pub stood_behind : Option (List ℕ) → List Answer → List Answer
stood_behind base [] = []
stood_behind base (answer ∷ answers) = record answer { behind = length_of base + answer.behind } ∷ stood_behind base answers

-- the answer to that line was given after all that is kept, or none was
abbrev pub IsAnswered : {T E : Type 0} → (base kept : Option (List ℕ)) → List Answer → ℕ → Option LineFault → Result T E → List Answer → Type 0
IsAnswered base kept old line fault (Ok done) new = (behind : ℕ) × (new ≡ old ++ record { line = line; fault = fault; behind = behind } ∷ []) × IsLong kept (length_of base + behind)
IsAnswered base kept old line fault (Err failed) new = new ≡ old

-- whether it was lost by a write that failed
abbrev pub is_of_write : Option Lost → Bool
is_of_write (Some losses.Segment) = true
is_of_write (Some losses.Output) = true
is_of_write lost = false

-- what was lost to the segment or to standard output was lost by the last step
abbrev pub HasLost : (segment : ℕ) (before now : Option (List Step)) → Option Lost → Type 0
HasLost segment before now None = ⊤
HasLost segment before now (Some losses.Segment) = EndsIn (IsFailed (files.Segment segment)) before now
HasLost segment before now (Some losses.Output) = EndsIn IsNotOut before now
HasLost segment before now (Some lost) = ⊤

-- The order was kept, and no write failed but the one by which something was lost. What is out has the first of the answers, and if nothing
-- was lost all that is not out waits.
pub record Stands (is_synced : Bool) (first : List ℕ) (before now : Option (List Step)) (pending : List ℕ) (answers : List Answer) (place : ℕ) (lost : Option Lost) (is_behind is_at_line : Bool) : Type 0 where
  pub kept : List ℕ
  pub synced : List ℕ
  pub out : List ℕ
  pub at : At is_synced first before now kept synced out (is_of_write lost)
  pub answered : IsAnsweredBy answers first (first ++ kept) out
  pub whole : IfNone lost (AllWaits first kept synced out pending answers place is_behind is_at_line)

-- the bytes are a manifest of this setup
abbrev pub IsConfigured : List ℕ → Setup → Type 0
IsConfigured bytes setup = (programs : _) × Means bytes setup programs

-- The order was kept, and what is out has the first of these answers; of what served to its end all is out, with all of them, and synced if
-- that is asked for, and no write failed.
pub record InOrder {T E : Type 0} (is_synced : Bool) (first : List ℕ) (before now : Option (List Step)) (answers : List Answer) (result : Result T E) : Type 0 where
  pub kept : List ℕ
  pub synced : List ℕ
  pub out : List ℕ
  pub is_lost : Bool
  pub at : At is_synced first before now kept synced out is_lost
  pub answered : IsAnsweredBy answers first (first ++ kept) out
  pub whole : OnOk result (Told first (first ++ kept) out answers × (is_synced ≡ true → synced ≡ kept))
  pub unlost : OnOk result (is_lost ≡ false)

-- What was appended continues each history that led to the engine, of so many records, by the runs that were out, unless runs stay out, and then by
-- what the lines that came asked for, turn by turn; and at the end by the last line, unless the trace is kept and a run is live. The order was
-- kept, and what is out has the answer that was owed and those of these turns, and no others. The records of what was appended are those that
-- were counted.
pub record ServesInOrder {E : Type 0} (engine : NumberedState) (count : ℕ) (manner : Manner) (Refuses : Succession → NumberedState → Unfollowed → Type 0) (owed : Option ℕ) (point : Point) (came : Option CameState) (lines : Lines) (Decided : Succession → NumberedState → Type 0) (Counted : List Record → Type 0) (is_synced : Bool) (first : List ℕ) (before now : Option (List Step)) (result : Result Bool E) : Type 0 where
  pub answers : List Answer
  pub in_order : InOrder is_synced first before now answers result
  pub given : List Answer
  pub owed_is : IsOwed manner owed result (kept_so_far before) given
  pub turned : (records : List Record) → IsBehind records engine → count ≡ length records → ContinuesTurns engine manner Refuses point came lines Decided Counted records (kept_so_far before) (Some given) result (kept_so_far now) (Some (stood_behind (kept_so_far before) answers))

-- That of a sink of which so much waits, which lost nothing or something.
pub record Leaves (is_synced : Bool) (first : List ℕ) (before now : Option (List Step)) (state : JournaledState) : Type 0 where
  pub kept : List ℕ
  pub synced : List ℕ
  pub out : List ℕ
  pub at : At is_synced first before now kept synced out (is_of_write state.lost)
  pub answered : IsAnsweredBy state.answers first (first ++ kept) out
  pub told : state.lost ≡ None → state.pending ≡ [] → Told first (first ++ kept) out state.answers
  pub level : state.lost ≡ None → state.is_behind ≡ false → synced ≡ kept

-- why an engine stopped whose segment has that number: the last step was a write that failed; or none failed, and it is another cause
abbrev pub MayStop : (segment : ℕ) (old new : Option (List Step)) → OrMemory JournalFault → Type 0
MayStop segment old new OutOfMemory = AllDone old new
MayStop segment old new (Fault faults.Unread) = AllDone old new
MayStop segment old new (Fault faults.Unwritten) = EndsIn IsNotOut old new
MayStop segment old new (Fault faults.InternalError) = AllDone old new
MayStop segment old new (Fault (faults.File (files.Segment other))) = (other ≡ segment) × EndsIn (IsFailed (files.Segment segment)) old new
MayStop segment old new (Fault fault) = ⊥
