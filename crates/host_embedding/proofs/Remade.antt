-- A call that is made once more: there is one record more, or none; and which one, if it is looked at.
use Rattle.std.proofs.Common.{◌≡◌, ℕ, ◌+◌, Bool, Option, Some, None, Result, Ok, Err, List, [], ◌∷◌, ◌++◌, inl, inr, length, length-append, refl, ap, sym, subst, ◌∙◌, arith}
use Rattle.std.specs.Prelude.{IfSome, slice_index_or}
use Rattle.std.specs.Global.{Box}
use Rattle.ccb.specs.declared.QueueId.{QueueId}
use Rattle.ccb.specs.declared.place.Place.{Place}
use Rattle.world.specs.World.{class_kept}
use Rattle.world_calls.specs.declared.call.Call.{Call}
use Rattle.world_calls.specs.declared.call.Call.TheVariants.{GuestFreeze, GuestRelease, Park, Resume, Submit}
use Rattle.world_calls.specs.declared.call_answer.CallAnswer.{CallAnswer}
use Rattle.world_calls.specs.declared.call_answer.CallAnswer.TheVariants as answers
use Rattle.world_calls.specs.declared.record.Record.{Record}
use Rattle.world_calls.specs.declared.record.Record.TheVariants.{Called}
use Rattle.engine_core.specs.EngineState.{EngineState, Records}
use Rattle.engine_core.specs.RunState.{RunState}
use Rattle.host_embedding.specs.Calls.{IsAdvanced, IsCalled, IsCompleted, IsFaulted, IsFrozen, IsParked, IsReleased, IsResumed, advance_of}
use Rattle.host_embedding.specs.Held.{out_of}
use Rattle.host_embedding.specs.Recovering.{Follows, IsOf, KeepsJust, MayGrow, MayRecord}
use Rattle.host_embedding.specs.declared.call_result.CallResult.{CallResult}
use Rattle.host_embedding.specs.declared.call_result.CallResult.TheVariants.{Done, OutOfMemory, Refused, NotOut, NoToken}
use Rattle.host_embedding.specs.declared.run_handle.HeldRun.{HeldRun}
use Rattle.host_embedding.specs.declared.run_handle.HeldRun.TheVariants.{Out, Stopped, Spent}
use Rattle.host_embedding.specs.declared.run_handle.RunHandle.{RunHandle}

faulted_may : (result : CallResult) (old new : EngineState) (call : Call) → IsFaulted result old new call → MayRecord old call new
faulted_may (Refused refusal) old new call told = inr (answers.Refused refusal, told)
faulted_may OutOfMemory old new call told = inl told
faulted_may result old new call told = absurd told

pub called_may : (result : CallResult) (old new : EngineState) (answer : CallAnswer) (call : Call) → IsCalled result old new answer call → MayRecord old call new
called_may Done old new answer call told = inr (answer, told)
called_may (Refused refusal) old new answer call told = inr (answers.Refused refusal, told)
called_may OutOfMemory old new answer call told = inl told
called_may result old new answer call told = absurd told

-- a submission whose class is recorded as it is said
pub submitted_may : (result : CallResult) (old new : EngineState) (answer : CallAnswer) (queue : QueueId) (priority retries word : ℕ) (class said : Option ℕ) → said ≡ class_kept old.setup word → said ≡ class
    → IsCalled result old new answer (Submit queue priority retries (class_kept old.setup word)) → MayRecord old (Submit queue priority retries class) new
submitted_may result old new answer queue priority retries word class said is same told =
    subst (λ (c : Option ℕ). MayRecord old (Submit queue priority retries c) new) (sym is ∙ same) (called_may result old new answer (Submit queue priority retries (class_kept old.setup word)) told)

pub frozen_may : (result : CallResult) (old new : EngineState) (freeze guest : ℕ) (place : Place) → IsFrozen result old new freeze place guest → MayRecord old (GuestFreeze place guest) new
frozen_may result old new freeze guest place told = called_may result old new (answers.Freeze freeze) (GuestFreeze place guest) told.0

pub released_may : (result : CallResult) (old new : EngineState) (left freeze : ℕ) → IsReleased result old new left freeze → MayRecord old (GuestRelease freeze) new
released_may Done old new left freeze told = inr (answers.Left left, told)
released_may OutOfMemory old new left freeze told = inl told.0
released_may NoToken old new left freeze told = inl told.0
released_may result old new left freeze told = absurd told

pub completed_may : (result : Result (Option (Box RunHandle)) CallResult) (old new : EngineState) (call : Call) → IsCompleted result old new call → MayRecord old call new
completed_may (Ok None) old new call told = inr (answers.Done, told)
completed_may (Ok (Some handle)) old new call told = inr (answers.Started handle.value.number handle.value.freeze, told.0)
completed_may (Err result) old new call told = faulted_may result old new call told

pub resumed_may : (result : Result (Box RunHandle) CallResult) (old new : EngineState) (number : ℕ) → IsResumed result old new number → MayRecord old (Resume number) new
resumed_may (Ok handle) old new number told = inr (answers.Ok, told.0)
resumed_may (Err result) old new number told = faulted_may result old new (Resume number) told

parked_run : (result : CallResult) (run : Option RunState) (held : HeldRun) (old new : EngineState) (number : ℕ) → IfSome run (λ its. its.number ≡ number) → IsParked result run held old new → MayRecord old (Park number) new
parked_run result None held old new number is told = inl told.2
parked_run Done (Some run) held old new number is told = inr (answers.Ok, subst (λ (n : ℕ). Records old new (Called answers.Ok (Park n))) is told.0)
parked_run NotOut (Some run) held old new number is told = inl told.1
parked_run result (Some run) held old new number is told = absurd told

pub parked_may : (result : CallResult) (was held : HeldRun) (old new : EngineState) (number : ℕ) → IsOf number was → IsParked result (out_of was) held old new → MayRecord old (Park number) new
parked_may result was held old new number is told = parked_run result (out_of was) held old new number is told

pub advanced_may : (result : CallResult) (was held : HeldRun) (old new : EngineState) (r0 : ℕ) (ended : Bool) → IsAdvanced result was held old new r0 ended → MayGrow old new
advanced_may Done (Stopped stopped) held old new r0 ended told = inr (advance_of stopped r0, told.0)
advanced_may OutOfMemory (Stopped stopped) held old new r0 ended told = inl told.0
advanced_may NotOut (Stopped stopped) held old new r0 ended told = inl told.0
advanced_may result (Stopped stopped) held old new r0 ended told = absurd told
advanced_may result (Out run) held old new r0 ended told = inl told.2
advanced_may result Spent held old new r0 ended told = inl told.2

-- ---- which record there is

not_one : (old new : EngineState) (told : Record) → old.taken ≡ length old.history → new ≡ old → KeepsJust new told → ⊥
not_one old new told all same just = omega (arith, all, just.one, ap (λ (s : EngineState). length s.history) same, ap (λ (s : EngineState). s.taken) same)

-- the record after those that are handed on is the one that was made
last_is : (records : List Record) (made told : Record) → slice_index_or (records ++ made ∷ []) (length records) told ≡ made
last_is [] made told = refl
last_is (first ∷ records) made told = last_is records made told

one_is : (old new : EngineState) (made told : Record) → old.taken ≡ length old.history → Records old new made → KeepsJust new told → made ≡ told
one_is old new made told all records just =
    let at : slice_index_or new.history new.taken told ≡ slice_index_or (old.history ++ made ∷ []) (length old.history) told =
    ap (λ (its : List Record). slice_index_or its new.taken told) records.history ∙ ap (λ (n : ℕ). slice_index_or (old.history ++ made ∷ []) n told) (records.taken ∙ all) in
    sym (last_is old.history made told) ∙ (sym at ∙ just.is)

pub just_grown : (old new : EngineState) (told : Record) → old.taken ≡ length old.history → MayGrow old new → KeepsJust new told → Records old new told
just_grown old new told all may just = elim may [
  | inl same ↦ absurd (not_one old new told all same just)
  | inr made ↦ subst (λ (r : Record). Records old new r) (one_is old new made.0 told all made.1 just) made.1
]

its_answer : (answer other : CallAnswer) (call another : Call) → Called answer call ≡ Called other another → answer ≡ other
its_answer answer other call another same = cc

pub just_called : (old new : EngineState) (answer : CallAnswer) (call : Call) → old.taken ≡ length old.history → MayRecord old call new → ((its : Call) × KeepsJust new (Called answer its)) → Records old new (Called answer call)
just_called old new answer call all may just = elim may [
  | inl same ↦ absurd (not_one old new (Called answer just.0) all same just.1)
  | inr made ↦ subst (λ (a : CallAnswer). Records old new (Called a call)) (its_answer made.0 answer call just.0 (one_is old new (Called made.0 call) (Called answer just.0) all made.1 just.1)) made.1
]

-- it is handed on
pub handed_on : (old new later : EngineState) (told : Record) → old.taken ≡ length old.history → Records old new told → later ≡ record new { taken = new.taken + 1 } → Follows old told later
handed_on old new later told all records is = record {
  setup = ap (λ (s : EngineState). s.setup) is ∙ records.setup;
  history = ap (λ (s : EngineState). s.history) is ∙ records.history;
  taken = omega (arith, all, records.taken, ap (λ (s : EngineState). s.taken) is, ap (λ (s : EngineState). length s.history) is, ap (λ (h : List Record). length h) records.history, length-append old.history (told ∷ []));
}

pub has_one : (old new : EngineState) (told : Record) → old.taken ≡ length old.history → Records old new told → (new.taken + 1) ≡ length new.history
has_one old new told all records = omega (arith, all, records.taken, ap (λ (h : List Record). length h) records.history, length-append old.history (told ∷ []))
