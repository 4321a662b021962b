-- What runs did with their CCBs, by the records of an engine.
use Rattle.std.specs.Prelude.{◌≡◌, ◌==◌, ℕ, not, List, [], ◌∷◌, Option, Some, None, if◌then◌else◌, filter, find}
use Rattle.std.specs.Option.{option_map}
use Rattle.helpers.specs.declared.table.Helper.{Helper as TheHelper}
use Rattle.world_calls.specs.declared.record.Record.{Record}
use Rattle.world_calls.specs.declared.record.Record.TheVariants.{Advance, Called}
use Rattle.world_calls.specs.declared.record.StoppedAt.{StoppedAt}
use Rattle.world_calls.specs.declared.record.StoppedAt.TheVariants.{Exit, Finish, Helper, Trace}
use Rattle.engine_core.specs.RunState.{RunState}
use Rattle.host_metrics.specs.Notes.{is_helper_requeue}
use Rattle.host_embedding.specs.declared.call_result.CallResult.{CallResult}
use Rattle.host_embedding.specs.declared.call_result.CallResult.TheVariants as results
use Rattle.host_embedding.specs.declared.fates.Course.{Course}
use Rattle.host_embedding.specs.declared.fates.Fate.{Fate}
use Rattle.host_embedding.specs.declared.fates.Fate.TheVariants.{Finished, Kept, Requeued}
use Rattle.host_embedding.specs.declared.fates.RunFate.{RunFate}

-- ---- what a run did

abbrev pub requeued_or : TheHelper → Fate → Fate
requeued_or helper before = if is_helper_requeue helper then Requeued else before

-- what a run has done with its CCB after that stop, by what it had done before
abbrev pub fate_at : Fate → StoppedAt → Fate
fate_at before (Helper helper) = requeued_or helper before
fate_at before (Trace helper bytes) = before
fate_at before (Finish helper code) = Finished code
fate_at before Exit = before

-- what is kept of it then: of a run that has exited nothing
abbrev pub kept_at : Fate → StoppedAt → Fate
kept_at before (Helper helper) = requeued_or helper before
kept_at before (Trace helper bytes) = before
kept_at before (Finish helper code) = Finished code
kept_at before Exit = Kept

abbrev pub course_at : Fate → StoppedAt → Course
course_at kept stop = record { kept = kept_at kept stop; told = fate_at kept stop }

-- the same by a record, if it is the run's
abbrev pub course_after : ℕ → Course → Record → Course
course_after run course (Called answer call) = course
course_after run course (Advance its instructions stop r0) = if its == run then course_at course.kept stop else course

abbrev pub course_over : ℕ → Course → List Record → Course
course_over run course [] = course
course_over run course (told ∷ rest) = course_over run (course_after run course told) rest

-- nothing is done yet
abbrev pub nothing_done : Course
nothing_done = record { kept = Kept; told = Kept }

-- What the run has done with its CCB by these records: what the last of its stops did that made the CCB wait again or finished it, and
-- else nothing. A run has no record after its exit; if it had, these would be those of another run.
abbrev pub fate_in : ℕ → List Record → Fate
fate_in run records = (course_over run nothing_done records).told

-- the same of a run that has not exited; of one that has, nothing
abbrev pub kept_in : ℕ → List Record → Fate
kept_in run records = (course_over run nothing_done records).kept

-- What is reported with this result, of the run that was out, if one was, by the history after the call. Done, it is what the run has done;
-- if memory was refused, or the run was not taken to its next stop, what it has done so far. Of a run that is not out in this engine, and
-- of one that is spent, nothing is known.
abbrev pub TellsFate : CallResult → Option RunState → List Record → Fate → Type 0
TellsFate result None history fate = fate ≡ Kept
TellsFate results.Done (Some run) history fate = fate ≡ fate_in run.number history
TellsFate results.NotOut (Some run) history fate = fate ≡ Kept
TellsFate result (Some run) history fate = fate ≡ kept_in run.number history

-- ---- as numbers of a host's

abbrev pub number_of : Fate → ℕ
number_of Kept = 0
number_of Requeued = 1
number_of (Finished code) = 2

abbrev pub code_of : Fate → ℕ
code_of Kept = 0
code_of Requeued = 0
code_of (Finished code) = code

-- ---- inside

abbrev pub fate_or_kept : Option Fate → Fate
fate_or_kept None = Kept
fate_or_kept (Some fate) = fate

-- what is kept of the run
abbrev pub fate_found : ℕ → List RunFate → Option Fate
fate_found run fates = option_map (λ it. it.fate) (find (λ it. it.run == run) fates)

abbrev pub fate_of : ℕ → List RunFate → Fate
fate_of run fates = fate_or_kept (fate_found run fates)

-- those of all others
abbrev pub without_run : ℕ → List RunFate → List RunFate
without_run run fates = filter (λ it. not (it.run == run)) fates

-- of each run there is kept what it did
abbrev pub KeepsFates : List RunFate → List Record → Type 0
KeepsFates fates history = (run : ℕ) → fate_of run fates ≡ kept_in run history

-- of this run that is kept, and of the others what was
abbrev pub IsPut : ℕ → Fate → List RunFate → List RunFate → Type 0
IsPut run fate old new = (other : ℕ) → fate_of other new ≡ (if other == run then fate else fate_of other old)

-- what the run did in these records is kept, and told
pub record IsNoted (run : ℕ) (more : List Record) (old new : List RunFate) (told : Fate) : Type 0 where
  pub course : Course
  pub course_is : course ≡ course_over run (record { kept = fate_of run old; told = fate_of run old }) more
  pub told_is : told ≡ course.told
  pub put : IsPut run course.kept old new

-- what is reported with a result, by what is told and kept of the run
abbrev pub reported : CallResult → (told before : Fate) → Fate
reported results.Done told before = told
reported results.NotOut told before = Kept
reported results.Spent told before = Kept
reported result told before = before
