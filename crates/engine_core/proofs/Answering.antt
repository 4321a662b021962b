-- An event's reply: what fits, the room for its record, and what the engine is after it.
use Rattle.std.proofs.Common.{◌≡◌, ℕ, ◌+◌, ◌≤◌, true, false, List, [], ◌∷◌, ◌++◌, length, Result, Ok, Err, Option, Some, None, refl, ap, sym, subst, ◌∙◌, arith}
use Rattle.std.specs.Prelude.{IfOk, IfErr, OnOk}
use Rattle.std.specs.Result.{is_err}
use Rattle.std.proofs.lemmas.List.{length_push}
use Rattle.std.proofs.lemmas.List.Sums.{count_by-le-length}
use Rattle.ccb.specs.declared.QueueId.{QueueId}
use Rattle.engine_runs.specs.Admits.{KnowsProgram}
use Rattle.engine_runs.specs.RunsState.{RunsState}
use Rattle.world_calls.specs.declared.record.Record.{Record}
use Rattle.engine_history.specs.HistoryState.{HistoryState}
use Rattle.world.specs.World.{Transport, Setup, LiveRun, World, queue_setup}
use Rattle.engine_core.specs.declared.event.Event.{Event}
use Rattle.engine_core.specs.declared.event.Event.TheVariants.{Advance, Complete, GuestFreeze, Resume}
use Rattle.engine_core.specs.declared.reply.Reply.{Reply}
use Rattle.engine_core.specs.declared.reply.Reply.TheVariants.{Success}
use Rattle.ccb.specs.declared.call_refusal.CallRefusal.{CallRefusal}
use Rattle.ccb.specs.declared.place.Place.{Place}
use Rattle.freeze_ledger.specs.declared.freeze.Freeze.{Freeze}
use Rattle.freeze_ledger.specs.declared.freeze.Holder.TheVariants.{Guest}
use Rattle.std.specs.Borrow.{Bor}
use Rattle.ccb.specs.declared.completion.Completion.{Completion}
use Rattle.world_calls.specs.declared.call.Call.{Call}
use Rattle.world_calls.specs.declared.call.Call.TheVariants as calls
use Rattle.engine_core.specs.declared.answers.CompleteAnswer.{CompleteAnswer}
use Rattle.engine_core.specs.declared.answers.CompleteAnswer.TheVariants as completes
use Rattle.engine_core.specs.declared.answers.AdvanceAnswer.{AdvanceAnswer}
use Rattle.engine_core.specs.declared.answers.AdvanceAnswer.TheVariants as advances
use Rattle.engine_core.specs.Answers.{GoesOrEnds, StartsOut}
use Rattle.world_calls.specs.declared.call_answer.CallAnswer.{CallAnswer}
use Rattle.world_calls.specs.declared.call_answer.CallAnswer.TheVariants as answers
use Rattle.world_calls.specs.declared.record.Record.TheVariants.{Called}
use Rattle.engine_core.specs.EngineState.{EngineState, GuestHolds, Records, world_of}
use Rattle.engine_core.specs.Faults.{FaultIs, given}
use Rattle.engine_core.specs.Invariant.{HistoryHasRoom, KeepsEngine}
use Rattle.engine_core.specs.Performing.{Performs}
use Rattle.engine_core.specs.RunState.{IsOutUnder, RunState, StoppedState, before_stop}
use Rattle.engine_core.specs.Replies.{GivesAsRecorded, IsOfKnown, completed_reply, given_advanced, resumed_answer, resumed_reply, token_reply}
use Rattle.engine_core.proofs.Parking.{known_run, room_kept}
use Rattle.engine_core.proofs.Recording.{Goes, goes, kept_sound}

-- a queue's program is that of each live run of this queue
pub knows_program : (setup : Setup) (history : List Record) (transport : Transport) (runs : RunsState) (run : StoppedState) (known : Option QueueId) → KeepsEngine setup history transport runs → IsOfKnown setup (Advance run) known → KnowsProgram runs.runs.list run.number run.segment.program.program known
knows_program setup history transport runs run None kept of = tt
knows_program setup history transport runs run (Some queue) kept of = λ it found its.
    of ∙ (ap (λ (n : ℕ). (queue_setup setup n).program) (sym its) ∙ sym (known_run setup history transport runs run.number it kept found).program)

-- and after it for that of a park of each run that is out
few_out : (runs : List LiveRun) (records capacity : ℕ) → records + 257 ≤ capacity → length runs ≤ 256 → HistoryHasRoom (records + 1) capacity runs
few_out runs records capacity room few = omega (arith, room, few, count_by-le-length (λ (run : LiveRun). run.out) runs)

-- the engine after an event that was performed
pub performed : (setup : Setup) (history later : List Record) (event : Event) (transport : Transport) (old : RunsState) (more : Transport) (new : RunsState) (reply : Reply) (told : Record) → KeepsEngine setup history transport old → later ≡ history ++ told ∷ [] → Performs setup event transport old more new reply told → Goes setup history later transport more old new told
performed setup history later event transport old more new reply told kept is it = goes setup history later transport more old new told kept is (it.tokens history kept) (it.leads history kept)

pub few_runs : (setup : Setup) (history : List Record) (transport : Transport) (runs : RunsState) → KeepsEngine setup history transport runs → length runs.runs.list ≤ 256
few_runs setup history transport runs kept = (kept_sound setup history transport runs kept).kept.runs.all

-- an engine, as contracts see it
abbrev pub seen : Setup → HistoryState → Transport → RunsState → EngineState
seen setup history transport runs = record { setup = setup; history = history.records; taken = history.taken; world = world_of setup history.records transport runs.runs }

-- an engine after a call that was performed, with one record more
pub record Appended (setup : Setup) (history later : HistoryState) (transport : Transport) (old : RunsState) (more : Transport) (new : RunsState) (told : Record) : Type 0 where
  pub records : Records (seen setup history transport old) (seen setup later more new) told
  pub kept : KeepsEngine setup later.records more new
  pub room : HistoryHasRoom (length later.records) later.capacity new.runs.list

-- where room was taken for it, and for that of a park of each run
pub appended : (setup : Setup) (history reserved later : HistoryState) (event : Event) (transport : Transport) (old : RunsState) (more : Transport) (new : RunsState) (reply : Reply) (told : Record) → KeepsEngine setup history.records transport old → reserved.records ≡ history.records → reserved.taken ≡ history.taken → later.records ≡ reserved.records ++ told ∷ [] → later.taken ≡ reserved.taken → length reserved.records + 257 ≤ reserved.capacity → later.capacity ≡ reserved.capacity → Performs setup event transport old more new reply told → Appended setup history later transport old more new told
appended setup history reserved later event transport old more new reply told kept same same_taken is is_taken room held it =
    let all : later.records ≡ history.records ++ told ∷ [] = is ∙ ap (λ (h : List Record). h ++ told ∷ []) same in
    let one = performed setup history.records later.records event transport old more new reply told kept all it in
    let few = few_runs setup later.records more new one.kept in record {
      records = record { history = all; taken = is_taken ∙ same_taken; setup = refl; step = one.leads };
      kept = one.kept;
      room = room_kept _ _ _ _ new.runs.list (few_out new.runs.list (length reserved.records) reserved.capacity room few) (ap length is ∙ length_push _ _) held;
    }

-- a call gives what is recorded, or is refused as is recorded
pub gives : {T : Type 0} (answer : Result T CallRefusal) (tells : Result T CallRefusal → CallAnswer) (old new : EngineState) (call : Call) (told : Record) → told ≡ Called (tells answer) call → Records old new told → IfOk (given answer) (λ it. Records old new (Called (tells (Ok it)) call))
gives (Ok it) tells old new call told is records = subst (λ (r : Record). Records old new r) is records
gives (Err refusal) tells old new call told is records = tt

pub refuses : {T : Type 0} (answer : Result T CallRefusal) (tells : Result T CallRefusal → CallAnswer) (old new : EngineState) (call : Call) (told : Record) → ((refusal : CallRefusal) → tells (Err refusal) ≡ answers.Refused refusal) → told ≡ Called (tells answer) call → Records old new told → IfErr (given answer) (λ fault. FaultIs fault (new ≡ old) (λ refusal. Records old new (Called (answers.Refused refusal) call)))
refuses (Ok it) tells old new call told says is records = tt
refuses (Err refusal) tells old new call told says is records =
    subst (λ (a : CallAnswer). Records old new (Called a call)) (says refusal) (subst (λ (r : Record). Records old new r) is records)

-- room that was not refused was taken
pub on_ok : {A B : Type 0} (r : Result A B) (fact : Type 0) → is_err r ≡ false → OnOk r fact → fact
on_ok (Ok it) fact failed holds = holds
on_ok (Err fault) fact failed holds = absurd (let bad : true ≡ false = failed in cc)

-- a guest's freeze is what the world has then
pub token_so : (setup : Setup) (before after : World) (place : Place) (guest : ℕ) (answer : Result Freeze CallRefusal) → GivesAsRecorded setup before (GuestFreeze place guest) after (token_reply answer) → IfOk (given answer) (λ token. GuestHolds after token × (token.place ≡ place) × (token.holder ≡ Guest guest))
token_so setup before after place guest (Ok token) its = its
token_so setup before after place guest (Err refusal) its = tt

-- a run that a completion started is out
pub starts_so : (setup : Setup) (before after : World) (completion : Bor Completion) (answer : Result CompleteAnswer CallRefusal) → GivesAsRecorded setup before (Complete completion) after (completed_reply answer) → IfOk (given answer) (StartsOut setup after)
starts_so setup before after completion (Ok completes.Done) its = tt
starts_so setup before after completion (Ok (completes.Started run freeze)) its = its
starts_so setup before after completion (Err refusal) its = tt

-- so is one that goes on
pub goes_so : (setup : Setup) (before after : World) (run : StoppedState) (answer : AdvanceAnswer) → GivesAsRecorded setup before (Advance run) after (Success (given_advanced answer)) → GoesOrEnds setup before after (before_stop run) run.segment answer
goes_so setup before after run (advances.Goes again r0) its = its
goes_so setup before after run (advances.Ended r0) its = its

pub resumes_so : (old new : EngineState) (run : ℕ) (answer : Result RunState CallRefusal) (told : Record) → told ≡ Called (resumed_answer answer) (calls.Resume run) → Records old new told → GivesAsRecorded old.setup old.world (Resume run) new.world (resumed_reply answer) → IfOk (given answer) (λ again. Records old new (Called answers.Ok (calls.Resume run)) × (again.number ≡ run) × IsOutUnder new.setup new.world again)
resumes_so old new run (Ok again) told is records its = (subst (λ (r : Record). Records old new r) is records, its.0, subst (λ (s : Setup). IsOutUnder s new.world again) (sym records.setup) its.1)
resumes_so old new run (Err refusal) told is records its = tt
