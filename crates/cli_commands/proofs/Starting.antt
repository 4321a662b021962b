-- What a start on a journal has done, and that a fault has no status of an end.
use Rattle.std.proofs.Common.{◌≡◌, ◌≤◌, ◌∙◌, ℕ, zero, suc, Bool, true, false, Option, Some, None, List, arith, inl, inr, refl, subst, sym}
use Rattle.std.specs.Prelude.{MatchOption}
use Rattle.base.specs.declared.or_memory.OrMemory.{OrMemory}
use Rattle.base.specs.declared.or_memory.OrMemory.TheVariants.{OutOfMemory, Fault}
use Rattle.engine_core.specs.ByNumber.{NumberedState}
use Rattle.host_metrics.specs.Counted.{MetricsState}
use Rattle.host_live.specs.Inputs.{CameState}
use Rattle.host_live.specs.Turns.{IsAt, IsSomewhere, Point}
use Rattle.host_live.specs.declared.lines.Lines.{Lines}
use Rattle.host_live.specs.declared.manner.Manner.{Manner}
use Rattle.host_recovery.specs.declared.fault.RecoveryFault.TheVariants as torn
use Rattle.host_recovery.specs.declared.recovering.Recovered.{Recovered}
use Rattle.host_journal.specs.Disks.{Held, IsText, Step}
use Rattle.host_journal.specs.Made.{IsFirst}
use Rattle.host_journal.specs.declared.beginning.Begun.{Begun}
use Rattle.host_journal.specs.declared.fault.JournalFault.{JournalFault}
use Rattle.host_journal.specs.declared.fault.JournalFault.TheVariants as faults
use Rattle.cli_commands.specs.Journaling.{HasOpened, IfServed, IsOwn, IsServedTo, IsStatus, IsStatusOf, ServesOn, Starts, at_its_end, made, not_made, status_of_fault}
use Rattle.cli_commands.specs.Readings.{Reading}
use Rattle.cli_commands.specs.declared.serving.Outcome.{Outcome}
use Rattle.cli_commands.specs.declared.serving.Outcome.TheVariants.{Ended, Followed}

-- the same, of what the folder holds and the manifest that is given
pub starts_so : {MayRead : Reading → Type 0} (manner : Manner) (is_synced : Bool) (held others : Held) (given its : Option (List ℕ)) (old new : Option (List Step)) (began came : Option CameState) (before after : MetricsState) (status : ℕ) → others ≡ held → its ≡ given
    → Starts MayRead manner is_synced others its old began before new came after status → Starts MayRead manner is_synced held given old began before new came after status
starts_so {MayRead = MayRead} manner is_synced held others given its old new began came before after status same is starts =
    subst (λ (h : Held). Starts MayRead manner is_synced h given old began before new came after status) same (subst (λ (o : Option (List ℕ)). Starts MayRead manner is_synced others o old began before new came after status) is starts)

fault_some : (fault : JournalFault) → 1 ≤ status_of_fault fault
fault_some faults.Foreign = omega (arith)
fault_some faults.OtherManifest = omega (arith)
fault_some faults.InUse = omega (arith)
fault_some (faults.File file) = omega (arith)
fault_some faults.Unreadable = omega (arith)
fault_some (faults.Given fault) = omega (arith)
fault_some (faults.Manifest number fault) = omega (arith)
fault_some (faults.Segment number (torn.Form fault)) = omega (arith)
fault_some (faults.Segment number (torn.Unfollowed fault)) = omega (arith)
fault_some (faults.Segment number torn.Unread) = omega (arith)
fault_some (faults.Segment number torn.TooLong) = omega (arith)
fault_some faults.RunLive = omega (arith)
fault_some faults.DoesNotFit = omega (arith)
fault_some (faults.NotContinued number) = omega (arith)
fault_some faults.Unread = omega (arith)
fault_some faults.Unwritten = omega (arith)
fault_some faults.InternalError = omega (arith)

some_of : (fault : JournalFault) (status : ℕ) → IsStatusOf fault status → 1 ≤ status
some_of fault status (inl is) = subst (λ (n : ℕ). 1 ≤ n) (sym is) (fault_some fault)
some_of fault status (inr is) = omega (arith, is)

-- an error is no end
pub is_some : (error : OrMemory JournalFault) (status : ℕ) → IsStatus error status → 1 ≤ status
is_some OutOfMemory status is = omega (arith, is)
is_some (Fault fault) status is = some_of fault status is

pub no_end : {A : Type 0} (error : OrMemory JournalFault) (status : ℕ) → IsStatus error status → status ≡ 0 → A
no_end error status is none = absurd (omega (arith, is_some error status is, none))

-- ---- what is served of an outcome

-- nothing more is served
pub ended_of : {MayRead : Reading → Type 0} (manner : Manner) (is_synced : Bool) (P : Option (List Step) → Option CameState → MetricsState → ℕ → Type 0) (s : ℕ) (outcome : Outcome) (steps : Option (List Step)) (came : Option CameState) (lines : Lines) (before : MetricsState) (new : Option (List Step)) (last : Option CameState) (left : MetricsState) (status : ℕ) → outcome ≡ Ended s → P steps came before s
    → ServesOn MayRead manner is_synced outcome steps came lines before new last left status → P new last left status
ended_of manner is_synced P s outcome steps came lines before new last left status is p (at_its_end own same it its counts) = let one : s ≡ own = (let bad = is in cc) in subst (λ (n : ℕ). P same it counts n) one p
ended_of manner is_synced P s outcome steps came lines before new last left status is p (not_made next begun later old opened it its counts error own by opens prepares told) = absurd (let bad : Followed next ≡ Ended s = is in cc)
ended_of manner is_synced P s outcome steps came lines before new last left status is p (made next begun later after old opened mid one began it its from more counted counts count what own by opens prepares served on) = absurd (let bad : Followed next ≡ Ended s = is in cc)

-- what holds of one that is no failure
pub served_if : {A : Type 0} (outcome : Outcome) → A → IfServed outcome A
served_if (Ended zero) it = it
served_if (Ended (suc status)) it = tt
served_if (Followed next) it = it

pub served_then : {A B : Type 0} (outcome : Outcome) → (A → B) → IfServed outcome A → IfServed outcome B
served_then (Ended zero) on it = on it
served_then (Ended (suc status)) on it = tt
served_then (Followed next) on it = on it

-- ---- where lines begin

pub at_begun : (begun : ℕ) (point : Point) (came : Option CameState) (lines : Lines) → IsAt point came lines → IsAt point came (record lines { begun = begun })
at_begun begun point came lines at = record {
  stands = record { line = at.stands.line; one_line = at.stands.one_line; kept = at.stands.kept; anew = at.stands.anew; ended = at.stands.ended; whole = at.stands.whole; is = at.stands.is };
  number = at.number;
}

-- an engine was served with these lines, from whatever reading the clock began
pub first_served : {MayRead : Reading → Type 0} (begun : ℕ) (engine : NumberedState) (count : ℕ) (segment : Begun) (own : List ℕ) (manner : Manner) (is_synced : Bool) (owed : Option ℕ) (old : Option (List Step)) (began : Option CameState) (lines then : Lines) (before : MetricsState) (new : Option (List Step)) (came : Option CameState) (later : Lines) (after : MetricsState) (outcome : Outcome)
    → then ≡ record lines { begun = begun } → IsServedTo MayRead engine count segment own manner is_synced owed old began then before new came later after outcome → IsServedTo MayRead engine count segment own manner is_synced owed old began lines before new came later after outcome
first_served begun engine count segment own manner is_synced owed old began lines then before new came later after outcome same it = record {
  result = it.result;
  next = it.next;
  order = λ point at. it.order point (subst (IsAt point began) (sym same) (at_begun begun point began lines at));
  stop = it.stop;
  is_outcome = it.is_outcome;
}

-- lines stand somewhere whatever reading the clock began with
pub somewhere_begun : (begun : ℕ) (point : Point) (came : Option CameState) (lines then : Lines) → then ≡ record lines { begun = begun } → IsAt point came lines → IsSomewhere came then
somewhere_begun begun point came lines then same at = (point, subst (IsAt point came) (sym same) (at_begun begun point came lines at))

-- an engine was served with the manifest of these bytes, and owes an answer to this line
pub owned_served : {MayRead : Reading → Type 0} (engine : NumberedState) (count : ℕ) (segment : Begun) (own its : List ℕ) (manner : Manner) (is_synced : Bool) (n number : ℕ) (old : Option (List Step)) (began : Option CameState) (lines : Lines) (before : MetricsState) (new : Option (List Step)) (came : Option CameState) (later : Lines) (after : MetricsState) (outcome : Outcome)
    → own ≡ its → n ≡ number → IsServedTo MayRead engine count segment own manner is_synced (Some n) old began lines before new came later after outcome → IsServedTo MayRead engine count segment its manner is_synced (Some number) old began lines before new came later after outcome
owned_served {MayRead = MayRead} engine count segment own its manner is_synced n number old began lines before new came later after outcome same is it =
    subst (λ (m : ℕ). IsServedTo MayRead engine count segment its manner is_synced (Some m) old began lines before new came later after outcome) is
    (subst (λ (o : List ℕ). IsServedTo MayRead engine count segment o manner is_synced (Some n) old began lines before new came later after outcome) same it)

-- ---- the manifest of a segment that was shut

own_cases : {A T : Type 0} (X : Type 0) (F : A → Type 0) (given : Option A) (begun : Begun) (recovered : Recovered) → MatchOption given T F → MatchOption given X (λ bytes. IsFirst begun recovered) → recovered.is_ended ≡ true → T
own_cases X F None begun recovered own opens ended = own
own_cases X F (Some bytes) begun recovered own opens ended = absurd (let bad : false ≡ true = sym opens.is_ended ∙ ended in cc)

pub own_text : (held : Held) (given : Option (List ℕ)) (old : Option (List Step)) (begun : Begun) (recovered : Recovered) (new : Option (List Step)) (own : List ℕ) → IsOwn held begun own → HasOpened held given old begun recovered new → recovered.is_ended ≡ true → IsText (held.manifests begun.number) own
own_text held given old begun recovered new own is opened ended = own_cases _ _ begun.manifest begun recovered is opened.opens ended
