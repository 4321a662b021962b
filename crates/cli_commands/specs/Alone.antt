-- What was served of an engine of a manifest, and of those that follow it.
use Rattle.std.specs.Prelude.{◌≡◌, ◌≢◌, ◌≤◌, ◌⊎◌, ℕ, Bool, true, false, Option, Some, None, Result, Ok, Err, IfErr, List, [], option_map}
use Rattle.std.specs.Io.KnownBytes.{Appends}
use Rattle.engine_core.specs.ByNumber.{NumberedState}
use Rattle.trace.specs.Growing.{IsFront}
use Rattle.trace.specs.TraceText.{trace_text}
use Rattle.whole_trace.specs.Continued.{items_of}
use Rattle.world.specs.World.{Setup}
use Rattle.world_calls.specs.declared.carried_line.CarriedLine.{CarriedLine}
use Rattle.world_calls.specs.declared.trace.Trace.{Trace}
use Rattle.host_metrics.specs.Counted.{MetricsState}
use Rattle.host_live.specs.Answering.{Answer, with_answers}
use Rattle.host_live.specs.Inputs.{CameState}
use Rattle.host_live.specs.Served.{ContinuesTurns, IsOwed}
use Rattle.host_live.specs.Telling.{Continues}
use Rattle.host_live.specs.Turns.{IsAt, Point}
use Rattle.host_live.specs.declared.lines.Lines.{Lines}
use Rattle.host_live.specs.declared.manner.Manner.{Manner}
use Rattle.host_live.specs.declared.serving.LiveFault.{LiveFault}
use Rattle.host_journal.specs.Made.{IsFirstEngine, front_of, or_none}
use Rattle.cli_commands.specs.Following.{IsFollowing, MayRefuse}
use Rattle.cli_commands.specs.Journaling.{HasFollowed, IsCountedFrom, IsFirstLines}
use Rattle.cli_commands.specs.Readings.{Reading}
use Rattle.cli_commands.specs.Told.{IsOfManifest, IsServing}
use Rattle.cli_commands.specs.declared.following.Next.{Next}
use Rattle.cli_commands.specs.declared.serving.Outcome.{Outcome}
use Rattle.cli_commands.specs.declared.serving.Outcome.TheVariants.{Ended, Followed}

-- no later start goes on with the trace
abbrev pub alone : Manner → Manner
alone manner = record manner { is_kept = false }

-- it is the manifest's, and follows none
pub record IsFirstOf (manifest : List ℕ) (next : Next) : Type 0 where
  pub serving : IsServing manifest next.config
  pub bytes : next.bytes.items ≡ manifest
  pub number : next.number ≡ 1
  pub carried : items_of next.carried ≡ None

-- what its trace begins with
abbrev pub front_in : Next → List ℕ
front_in next = or_none (front_of next.config (items_of next.carried))

-- the line that asked for it is owed an answer
abbrev pub owed_of : Option (List CarriedLine) → ℕ → Option ℕ
owed_of carried number = option_map (λ lines. number) carried

-- what became of the engine of that number that was served so
abbrev pub IsOutcomeAlone : (number : ℕ) → Result Bool LiveFault → Option Next → Outcome → Type 0
IsOutcomeAlone number (Ok false) next outcome = outcome ≡ Ended 0
IsOutcomeAlone number (Ok true) next outcome = HasFollowed number next outcome
IsOutcomeAlone number (Err fault) next outcome = outcome ≡ Ended 2

-- An engine of which no record was made was served: what went out after that continues its trace by what the lines that came asked for, and
-- the records of it were counted over what was counted before. If another one is to follow, it is that.
pub record IsServedFrom (MayRead : Reading → Type 0) (number : ℕ) (own : List ℕ) (engine : NumberedState) (manner : Manner) (owed : Option ℕ) (began : Option CameState) (lines : Lines) (base : Option (List ℕ)) (given : Option (List Answer)) (before : MetricsState) (came : Option CameState) (later : Lines) (at : Option (List ℕ)) (answered : Option (List Answer)) (after : MetricsState) (outcome : Outcome) : Type 0 where
  pub result : Result Bool LiveFault
  pub next : Option Next
  pub told : Continues engine.setup (alone manner) [] base result at
  pub first : List Answer
  pub owed_is : IsOwed (alone manner) owed result base first
  pub turned : (point : Point) → IsAt point began lines → ContinuesTurns engine (alone manner) (MayRefuse MayRead number own) point came later (λ how now. IsFollowing MayRead number own how now next) (IsCountedFrom engine before after) [] base (with_answers given first) result at answered
  -- the reading of the engine's clock at which that of the input began stays
  pub same_clock : later.begun ≡ lines.begun
  pub is_outcome : IsOutcomeAlone number result next outcome

-- What was served of this outcome: nothing more at its end; or what the trace of the engine that follows begins with went out, that engine was
-- served, and what was served after that; or only a front of that went out. An engine's counters go on from those that the one before it left.
pub data GoesAlone (MayRead : Reading → Type 0) (manner : Manner) : Outcome → (began : Option CameState) (lines : Lines) (base : Option (List ℕ)) (given : Option (List Answer)) (before : MetricsState) → (came : Option CameState) (at : Option (List ℕ)) (answered : Option (List Answer)) (after : MetricsState) (status : ℕ) → Type 0 where
  at_the_end : (status : ℕ) (came : Option CameState) (lines : Lines) (at : Option (List ℕ)) (answered : Option (List Answer)) (counts : MetricsState) → GoesAlone MayRead manner (Ended status) came lines at answered counts came at answered counts status
  not_begun : (next : Next) (came : Option CameState) (lines : Lines) (base at : Option (List ℕ)) (answered : Option (List Answer)) (counts : MetricsState) → IsFront (front_in next) base at → GoesAlone MayRead manner (Followed next) came lines base answered counts came at answered counts 2
  begun : (next : Next) (engine : NumberedState) (began came last : Option CameState) (lines later : Lines) (base mid at to : Option (List ℕ)) (given answered told : Option (List Answer)) (before after left : MetricsState) (outcome : Outcome) (status : ℕ) → IsFirstEngine next.config (items_of next.carried) engine → Appends base mid (front_in next)
      → IsServedFrom MayRead next.number next.bytes.items engine manner (owed_of (items_of next.carried) lines.number) began lines mid given before came later at answered after outcome → GoesAlone MayRead manner outcome came later at answered after last to told left status
      → GoesAlone MayRead manner (Followed next) began lines base given before last to told left status

-- nothing was served; or an engine of the manifest, and what follows it
pub data ServedAlone (MayRead : Reading → Type 0) (manifest : List ℕ) (manner : Manner) (began : Option CameState) (before : MetricsState) : (came : Option CameState) (base : Option (List ℕ)) (given : Option (List Answer)) (at : Option (List ℕ)) (answered : Option (List Answer)) (after : MetricsState) (status : ℕ) → Type 0 where
  none_served : (at : Option (List ℕ)) (answered : Option (List Answer)) (status : ℕ) → status ≢ 0 → ServedAlone MayRead manifest manner began before began at answered at answered before status
  was_served : (first : Next) (lines : Lines) (came : Option CameState) (base : Option (List ℕ)) (given : Option (List Answer)) (at : Option (List ℕ)) (answered : Option (List Answer)) (after : MetricsState) (status : ℕ) → IsFirstOf manifest first → IsFirstLines began lines
      → GoesAlone MayRead manner (Followed first) began lines base given before came at answered after status → ServedAlone MayRead manifest manner began before came base given at answered after status

-- What went out is the trace of a history of an engine of that manifest, with its sums.
abbrev pub IsTraceOut : List ℕ → Option (List ℕ) → Option (List ℕ) → Type 0
IsTraceOut manifest old new = (text : List ℕ) × Appends old new text × ((trace : Trace) × IsOfManifest manifest trace × (trace_text trace ≡ Some text))

-- First that went out, and then more.
abbrev pub IsTraceFirst : List ℕ → Option (List ℕ) → Option (List ℕ) → Type 0
IsTraceFirst manifest old new = (mid : Option (List ℕ)) × IsTraceOut manifest old mid × ((more : List ℕ) × Appends mid new more)

-- ---- inside

-- a status that is no refusal
abbrev pub HasStatusAlone : Outcome → Type 0
HasStatusAlone (Ended status) = (status ≤ 2) × (status ≢ 1)
HasStatusAlone (Followed next) = Unit {0}
