-- Records that are counted after a call: which those are, and what was noted before each.
use Rattle.std.proofs.Common.{◌≡◌, ◌<◌, ◌≤◌, ◌+◌, ◌∙◌, ℕ, Bool, All, Option, Some, None, Result, List, [], ◌∷◌, ◌++◌, drop, get_or, length, map, refl, sym, ap, subst, arith, append-nil, append_assoc, length-append, inl, inr}
use Rattle.std.specs.Prelude.{IfSome}
use Rattle.std.specs.Global.{Box}
use Rattle.std.specs.List.{between}
use Rattle.std.specs.Option.{option_map}
use Rattle.std.proofs.Math.Seq.{drop-append_seam}
use Rattle.std.proofs.lemmas.List.{map-append}
use Rattle.std.proofs.lemmas.List.Edits.{between_none, between_more}
use Rattle.std.proofs.lemmas.List.Elements.{All-append, All-cons, All-head, All-nil, All-tail}
use Rattle.std.proofs.lemmas.Slice.{between_to_end}
use Rattle.ccb.specs.declared.Ccb.{Ccb}
use Rattle.ccb.specs.declared.place.Place.{Place}
use Rattle.ccb.specs.Completion.{Outcome}
use Rattle.world_calls.specs.declared.call.Call.{Call}
use Rattle.world_calls.specs.declared.call.Call.TheVariants.{Complete, Dispatch, GuestFreeze, GuestRelease, Park, Resume}
use Rattle.world_calls.specs.declared.call_answer.CallAnswer.{CallAnswer}
use Rattle.world_calls.specs.declared.record.Record.{Record}
use Rattle.world_calls.specs.declared.record.Record.TheVariants.{Advance, Called}
use Rattle.world_calls.specs.declared.record.StoppedAt.{StoppedAt}
use Rattle.world.specs.Lookups.{ccb_of}
use Rattle.world.specs.World.{LiveCcb, Runs, Transport, World}
use Rattle.engine_core.specs.Driving.{RunsToExit, WentOn, begins, goes_on}
use Rattle.engine_core.specs.EngineState.{EngineState, Records}
use Rattle.engine_core.specs.Answers.{stopped_at}
use Rattle.engine_core.specs.RunState.{RunState, StoppedState}
use Rattle.host_metrics.specs.Notes.{IsBefore, KnowsElapsing, Note, queue_called}
use Rattle.host_metrics.specs.Counted.{CountsOn, MetricsState}
use Rattle.host_metrics.specs.declared.before.Before.{Before}
use Rattle.host_metrics.specs.declared.before.Elapsing.{Elapsing}
use Rattle.host_metrics.proofs.Counting.{counts_both, counts_none}
use Rattle.host_embedding.specs.Calls.{IsAdvanced, IsCalled, IsCompleted, IsDriven, IsFrozen, IsParked, IsReleased, IsResumed, advance_of}
use Rattle.host_embedding.specs.Counting.{CountsMore, CountsRecords, IsNoted, IsNotedCcb, IsNotedOf, IsNotedRun, note_of}
use Rattle.host_embedding.specs.Held.{out_of}
use Rattle.host_embedding.specs.Recovering.{MayRecord}
use Rattle.host_embedding.specs.declared.call_result.CallResult.{CallResult}
use Rattle.host_embedding.specs.declared.call_result.CallResult.TheVariants.{Done, OutOfMemory, NotOut}
use Rattle.host_embedding.specs.declared.counting.Noted.{Noted}
use Rattle.host_embedding.specs.declared.hosted_engine.HostedEngine.{HostedEngine}
use Rattle.host_embedding.specs.declared.run_handle.HeldRun.{HeldRun}
use Rattle.host_embedding.specs.declared.run_handle.HeldRun.TheVariants.{Out, Spent, Stopped}
use Rattle.host_embedding.specs.declared.run_handle.RunHandle.{RunHandle}
use Rattle.host_embedding.proofs.Remade.{called_may, completed_may, frozen_may, parked_may, released_may, resumed_may}

-- ---- one record after the other

pub counts_none_yet : (before : Before) (records : List Record) (from : ℕ) (state : MetricsState) → CountsMore before (between from from records) state state
counts_none_yet before records from state = λ world all. subst (λ (its : List Record). CountsOn (map (note_of world) its) state state) (sym (between_none records from)) (counts_none state)

all_front : (P : Record → Type 0) (xs ys : List Record) → All P (xs ++ ys) → All P xs
all_front P [] ys all = All-nil P
all_front P (x ∷ xs) ys all = All-cons P x xs (All-head P x (xs ++ ys) all) (all_front P xs ys (All-tail P x (xs ++ ys) all))

just : (P : Record → Type 0) (x : Record) → P x → All P (x ∷ [])
just P x its = All-cons P x [] its (All-nil P)

all_back : (P : Record → Type 0) (xs ys : List Record) → All P (xs ++ ys) → All P ys
all_back P [] ys all = all
all_back P (x ∷ xs) ys all = all_back P xs ys (All-tail P x (xs ++ ys) all)

pub counts_one_more : (before : Before) (records : List Record) (from next : ℕ) (told : Record) (old now new : MetricsState) → from ≤ next → next < length records → told ≡ get_or records next told → CountsMore before (between from next records) old now
    → ((note : Note) → note.told ≡ told → IsBefore before note → CountsOn (note ∷ []) now new) → CountsMore before (between from (next + 1) records) old new
counts_one_more before records from next told old now new onwards within is counted counts = λ world all.
    let earlier : List Record = between from next records in
    let longer : between from (next + 1) records ≡ earlier ++ told ∷ [] = between_more records from next told onwards within ∙ ap (λ (it : Record). earlier ++ it ∷ []) (sym is) in
    let noted : All (λ told. IsBefore before (note_of world told)) (earlier ++ told ∷ []) = subst (All (λ told. IsBefore before (note_of world told))) longer all in
    let both : CountsOn (map (note_of world) earlier ++ note_of world told ∷ []) old new =
    counts_both (map (note_of world) earlier) (note_of world told ∷ []) old now new
    (counted world (all_front (λ told. IsBefore before (note_of world told)) earlier (told ∷ []) noted))
    (counts (note_of world told) refl (All-head (λ told. IsBefore before (note_of world told)) told [] (all_back (λ told. IsBefore before (note_of world told)) earlier (told ∷ []) noted))) in
    subst (λ (notes : List Note). CountsOn notes old new) (sym (ap (map (note_of world)) longer ∙ map-append (note_of world) earlier (told ∷ []))) both

pub counts_all : (before : Before) (records : List Record) (from next : ℕ) (old new : MetricsState) → length records ≤ next → CountsMore before (between from next records) old new → CountsMore before (drop from records) old new
counts_all before records from next old new all counted = subst (λ (its : List Record). CountsMore before its old new) (between_to_end records from next all) counted

-- ---- what was noted before a completion

-- of what is frozen nothing but the engine is asked, and neither call moves the clock on
elapsing_kept : (elapsing : Option Elapsing) (world : World) (other answer : CallAnswer) (call : Call) (outcome : Outcome) → KnowsElapsing elapsing (note_of world (Called other call)) → KnowsElapsing elapsing (note_of world (Called answer (Complete outcome)))
elapsing_kept None world other answer call outcome knows = refl
elapsing_kept (Some it) world other answer call outcome knows = knows

queue_of_ccb : (world : World) (ccb : ℕ) (found : Option LiveCcb) (outcome : Outcome) → found ≡ ccb_of ccb world.transport.live → outcome.ccb.0 ≡ ccb → queue_called world.transport (Complete outcome) ≡ option_map (λ live. live.ccb.queue.0) found
queue_of_ccb world ccb found outcome is its = ap (λ (n : ℕ). option_map (λ live. live.ccb.queue.0) (ccb_of n world.transport.live)) its ∙ ap (option_map (λ live. live.ccb.queue.0)) (sym is)

noted_as : (world : World) (ccb : ℕ) (found : Option LiveCcb) (call : Call) (before : Before) → found ≡ ccb_of ccb world.transport.live → queue_called world.transport call ≡ option_map (λ live. live.ccb.queue.0) found → IsNoted world call before → IsNotedCcb world ccb before
noted_as world ccb found call before is queue noted = λ outcome its answer. record {
  queue = (noted answer).queue ∙ queue ∙ sym (queue_of_ccb world ccb found outcome is its);
  elapsing = elapsing_kept before.elapsing world answer answer call outcome (noted answer).elapsing;
}

-- it is that of a start of the CCB's queue
pub noted_of_queue : (transport : Transport) (ccb : ℕ) (found : Option LiveCcb) (live : LiveCcb) (its : Ccb) (before : Before) → found ≡ ccb_of ccb transport.live → found ≡ Some live → its ≡ live.ccb
    → ((runs : Runs) (answer : CallAnswer) → IsBefore before (record { transport = transport; runs = runs; told = Called answer (Dispatch its.queue) })) → (world : World) → world.transport ≡ transport → IsNotedCcb world ccb before
noted_of_queue transport ccb found live its before is some same_ccb noted = λ world same.
    noted_as world ccb found (Dispatch its.queue) before (is ∙ ap (λ (t : Transport). ccb_of ccb t.live) (sym same)) (ap (λ (c : Ccb). Some c.queue.0) same_ccb ∙ sym (ap (option_map (λ it. it.ccb.queue.0)) some))
    (λ answer. subst (λ (t : Transport). IsBefore before (record { transport = t; runs = world.runs; told = Called answer (Dispatch its.queue) })) (sym same) (noted world.runs answer))

-- or, if there is no such CCB, that of a call that is of no queue
pub noted_of_none : (transport : Transport) (ccb : ℕ) (found : Option LiveCcb) (before : Before) → found ≡ ccb_of ccb transport.live → found ≡ None
    → ((runs : Runs) (answer : CallAnswer) → IsBefore before (record { transport = transport; runs = runs; told = Called answer (Resume 0) })) → (world : World) → world.transport ≡ transport → IsNotedCcb world ccb before
noted_of_none transport ccb found before is none noted = λ world same.
    noted_as world ccb found (Resume 0) before (is ∙ ap (λ (t : Transport). ccb_of ccb t.live) (sym same)) (sym (ap (option_map (λ it. it.ccb.queue.0)) none))
    (λ answer. subst (λ (t : Transport). IsBefore before (record { transport = t; runs = world.runs; told = Called answer (Resume 0) })) (sym same) (noted world.runs answer))

-- ---- what is noted of an engine

noted_inside : (state : EngineState) (Is : World → Before → Type 0) (noted : Noted) → Is state.world noted.before → noted.was ≡ length state.history → state.taken ≤ length state.history → IsNotedOf state Is noted
noted_inside state Is noted before was within = record { before = before; was = was; within = within }

pub noted_call : (inside state : EngineState) (transport : Transport) (call : Call) (noted : Noted) → inside ≡ state → transport ≡ inside.world.transport
    → ((runs : Runs) (answer : CallAnswer) → IsBefore noted.before (record { transport = transport; runs = runs; told = Called answer call })) → noted.was ≡ length inside.history → inside.taken ≤ length inside.history
    → IsNotedOf state (λ world before. IsNoted world call before) noted
noted_call inside state transport call noted view lent its was within = subst (λ (s : EngineState). IsNotedOf s (λ world before. IsNoted world call before) noted) view
    (noted_inside inside (λ world before. IsNoted world call before) noted
    (λ answer. subst (λ (t : Transport). IsBefore noted.before (record { transport = t; runs = inside.world.runs; told = Called answer call })) lent (its inside.world.runs answer)) was within)

pub noted_completion : (inside state : EngineState) (transport : Transport) (ccb : ℕ) (noted : Noted) → inside ≡ state → transport ≡ inside.world.transport
    → ((world : World) → world.transport ≡ transport → IsNotedCcb world ccb noted.before) → noted.was ≡ length inside.history → inside.taken ≤ length inside.history
    → IsNotedOf state (λ world before. IsNotedCcb world ccb before) noted
noted_completion inside state transport ccb noted view lent its was within = subst (λ (s : EngineState). IsNotedOf s (λ world before. IsNotedCcb world ccb before) noted) view
    (noted_inside inside (λ world before. IsNotedCcb world ccb before) noted (its inside.world (sym lent)) was within)

pub noted_run : (inside state : EngineState) (runs : Runs) (run : ℕ) (noted : Noted) → inside ≡ state → runs ≡ inside.world.runs
    → ((transport : Transport) (instructions : ℕ) (stop : StoppedAt) (r0 : ℕ) → IsBefore noted.before (record { transport = transport; runs = runs; told = Advance run instructions stop r0 })) → noted.was ≡ length inside.history → inside.taken ≤ length inside.history
    → IsNotedOf state (λ world before. IsNotedRun world run before) noted
noted_run inside state runs run noted view lent its was within = subst (λ (s : EngineState). IsNotedOf s (λ world before. IsNotedRun world run before) noted) view
    (noted_inside inside (λ world before. IsNotedRun world run before) noted
    (λ instructions stop r0. subst (λ (r : Runs). IsBefore noted.before (record { transport = inside.world.transport; runs = r; told = Advance run instructions stop r0 })) lent (its inside.world.transport instructions stop r0)) was within)

-- ---- what a call came to

-- Records that a call made: how the history went on, how many were taken, and what was noted before each.
pub record Made (old new : EngineState) (before : Before) : Type 0 where
  pub more : List Record
  pub history : new.history ≡ old.history ++ more
  pub taken : new.taken ≡ old.taken
  pub noted : All (λ told. IsBefore before (note_of old.world told)) more

pub made_none : (old new : EngineState) (before : Before) → new ≡ old → Made old new before
made_none old new before same = record {
  more = [];
  history = ap (λ (s : EngineState). s.history) same ∙ sym (append-nil old.history);
  taken = ap (λ (s : EngineState). s.taken) same;
  noted = All-nil (λ told. IsBefore before (note_of old.world told));
}

pub made_one : (old new : EngineState) (before : Before) (told : Record) → Records old new told → IsBefore before (note_of old.world told) → Made old new before
made_one old new before told records noted = record { more = told ∷ []; history = records.history; taken = records.taken; noted = just (λ told. IsBefore before (note_of old.world told)) told noted }

made_may : (old new : EngineState) (before : Before) (call : Call) → IsNoted old.world call before → MayRecord old call new → Made old new before
made_may old new before call noted (inl same) = made_none old new before same
made_may old new before call noted (inr recorded) = made_one old new before (Called recorded.0 call) recorded.1 (noted recorded.0)

-- the records that were made are those after the ones that there were
pub keeps : (old new : EngineState) (before : Before) (was : ℕ) → was ≡ length old.history → old.taken ≤ length old.history → Made old new before → (new.taken ≤ was) × (was ≤ length new.history)
keeps old new before was is within made = (
  omega (arith, is, within, made.taken),
  omega (arith, is, ap length made.history, length-append old.history made.more),
)

pub counts : (old new : HostedEngine) (before : Before) (was : ℕ) → was ≡ length old.engine.history → Made old.engine new.engine before → CountsMore before (drop was new.engine.history) old.metrics new.metrics → CountsRecords old new
counts old new before was is made counted =
    let rest : drop was new.engine.history ≡ made.more = ap (drop was) made.history ∙ ap (λ (n : ℕ). drop n (old.engine.history ++ made.more)) is ∙ drop-append_seam old.engine.history made.more in
    record { more = made.more; history = made.history; counts = subst (λ (its : List Record). CountsMore before its old.metrics new.metrics) rest counted old.engine.world made.noted }

-- the same by what was noted
pub counted_so : (old new : HostedEngine) (Is : World → Before → Type 0) (noted : Noted) → IsNotedOf old.engine Is noted → (Is old.engine.world noted.before → Made old.engine new.engine noted.before)
    → CountsMore noted.before (drop noted.was new.engine.history) old.metrics new.metrics → CountsRecords old new
counted_so old new Is noted its made counted = counts old new noted.before noted.was its.was (made its.before) counted

pub keeps_so : (old new : EngineState) (Is : World → Before → Type 0) (noted : Noted) → IsNotedOf old Is noted → (Is old.world noted.before → Made old new noted.before) → (new.taken ≤ noted.was) × (noted.was ≤ length new.history)
keeps_so old new Is noted its made = keeps old new noted.before noted.was its.was its.within (made its.before)

-- ---- each call

pub made_called : (result : CallResult) (old new : EngineState) (answer : CallAnswer) (call : Call) (before : Before) → IsNoted old.world call before → IsCalled result old new answer call → Made old new before
made_called result old new answer call before noted told = made_may old new before call noted (called_may result old new answer call told)

pub made_frozen : (result : CallResult) (old new : EngineState) (freeze guest : ℕ) (place : Place) (before : Before) → IsNoted old.world (GuestFreeze place guest) before → IsFrozen result old new freeze place guest → Made old new before
made_frozen result old new freeze guest place before noted told = made_may old new before (GuestFreeze place guest) noted (frozen_may result old new freeze guest place told)

pub made_released : (result : CallResult) (old new : EngineState) (left freeze : ℕ) (before : Before) → IsNoted old.world (GuestRelease freeze) before → IsReleased result old new left freeze → Made old new before
made_released result old new left freeze before noted told = made_may old new before (GuestRelease freeze) noted (released_may result old new left freeze told)

pub made_completed : (result : Result (Option (Box RunHandle)) CallResult) (old new : EngineState) (outcome : Outcome) (ccb : ℕ) (before : Before) → IsNotedCcb old.world ccb before → ccb ≡ outcome.ccb.0 → IsCompleted result old new (Complete outcome) → Made old new before
made_completed result old new outcome ccb before noted is told = made_may old new before (Complete outcome) (noted outcome (sym is)) (completed_may result old new (Complete outcome) told)

pub made_resumed : (result : Result (Box RunHandle) CallResult) (old new : EngineState) (number : ℕ) (before : Before) → IsNoted old.world (Resume number) before → IsResumed result old new number → Made old new before
made_resumed result old new number before noted told = made_may old new before (Resume number) noted (resumed_may result old new number told)

pub made_parked : (result : CallResult) (was held : HeldRun) (old new : EngineState) (number : ℕ) (before : Before) → IsNoted old.world (Park number) before → IfSome (out_of was) (λ run. run.number ≡ number) → IsParked result (out_of was) held old new → Made old new before
made_parked result was held old new number before noted is told = made_may old new before (Park number) noted (parked_may result was held old new number is told)

advance_noted : (world : World) (stopped : StoppedState) (number r0 : ℕ) (before : Before) → IsNotedRun world number before → stopped.number ≡ number → IsBefore before (note_of world (advance_of stopped r0))
advance_noted world stopped number r0 before noted is =
    subst (λ (n : ℕ). IsBefore before (note_of world (Advance n stopped.segment.steps (stopped_at stopped.segment.stop) r0))) (sym is) (noted stopped.segment.steps (stopped_at stopped.segment.stop) r0)

pub made_advanced : (result : CallResult) (was held : HeldRun) (old new : EngineState) (r0 : ℕ) (ended : Bool) (number : ℕ) (before : Before) → IsNotedRun old.world number before → IfSome (out_of was) (λ run. run.number ≡ number) → IsAdvanced result was held old new r0 ended → Made old new before
made_advanced Done (Stopped stopped) held old new r0 ended number before noted is told = made_one old new before (advance_of stopped r0) told.0 (advance_noted old.world stopped number r0 before noted is)
made_advanced OutOfMemory (Stopped stopped) held old new r0 ended number before noted is told = made_none old new before told.0
made_advanced NotOut (Stopped stopped) held old new r0 ended number before noted is told = made_none old new before told.0
made_advanced result (Stopped stopped) held old new r0 ended number before noted is told = absurd told
made_advanced result (Out run) held old new r0 ended number before noted is told = made_none old new before told.2
made_advanced result Spent held old new r0 ended number before noted is told = made_none old new before told.2

-- ---- a run that is driven: all its records are its own

advance_told : (world : World) (run : RunState) (number instructions r0 : ℕ) (stop : StoppedAt) (before : Before) → IsNotedRun world number before → run.number ≡ number → IsBefore before (note_of world (Advance run.number instructions stop r0))
advance_told world run number instructions r0 stop before noted is = subst (λ (n : ℕ). IsBefore before (note_of world (Advance n instructions stop r0))) (sym is) (noted instructions stop r0)

-- some records more, each of which was noted before the first
noted_more : (old between after : EngineState) (before : Before) (told : Record) → Made old between before → Records between after told → IsBefore before (note_of old.world told) → Made old after before
noted_more old between after before told made records noted = record {
  more = made.more ++ told ∷ [];
  history = records.history ∙ (ap (λ (its : List Record). its ++ told ∷ []) made.history ∙ append_assoc old.history made.more (told ∷ []));
  taken = records.taken ∙ made.taken;
  noted = All-append (λ told. IsBefore before (note_of old.world told)) made.more (told ∷ []) made.noted (just (λ told. IsBefore before (note_of old.world told)) told noted);
}

-- the run that went on, and the records of it
record Drove (old : EngineState) (number : ℕ) (before : Before) (now : EngineState) (at : RunState) : Type 0 where
  number_is : at.number ≡ number
  made : Made old now before

drove : (old : EngineState) (run : RunState) (number : ℕ) (before : Before) → IsNotedRun old.world number before → run.number ≡ number → (now : EngineState) (at : RunState) (r0 : ℕ) → WentOn old run now at r0 → Drove old number before now at
drove old run number before noted is now at r0 begins = record { number_is = is; made = made_none old old before refl }
drove old run number before noted is now at r0 (goes_on between after was again earlier_r0 told segment earlier taken) =
    let went = drove old run number before noted is between was earlier_r0 earlier in
    record {
      number_is = taken.goes.0 ∙ went.number_is;
      made = noted_more old between after before _ went.made taken.recorded (advance_told old.world was number _ _ _ before noted went.number_is);
    }

exits : (old new : EngineState) (run : RunState) (r0 number : ℕ) (before : Before) → IsNotedRun old.world number before → run.number ≡ number → RunsToExit old run r0 new → Made old new before
exits old new run r0 number before noted is ran =
    let went = drove old run number before noted is ran.between ran.at ran.before ran.went in
    noted_more old ran.between new before _ went.made ran.last.recorded (advance_told old.world ran.at number _ _ _ before noted went.number_is)

driven_out : (result : CallResult) (out : Option RunState) (held : HeldRun) (old new : EngineState) (r0 : ℕ) (ended : Bool) (number : ℕ) (before : Before) → IsNotedRun old.world number before → IfSome out (λ run. run.number ≡ number) → IsDriven result out held old new r0 ended → Made old new before
driven_out result None held old new r0 ended number before noted is told = made_none old new before told.2
driven_out Done (Some run) held old new r0 ended number before noted is told = exits old new run r0 number before noted is told.0
driven_out OutOfMemory (Some run) held old new r0 ended number before noted is told = (drove old run number before noted is new told.0.0 r0 told.0.2).made
driven_out NotOut (Some run) held old new r0 ended number before noted is told = made_none old new before told.1
driven_out result (Some run) held old new r0 ended number before noted is told = absurd told

pub made_driven : (result : CallResult) (was held : HeldRun) (old new : EngineState) (r0 : ℕ) (ended : Bool) (number : ℕ) (before : Before) → IsNotedRun old.world number before → IfSome (out_of was) (λ run. run.number ≡ number) → IsDriven result (out_of was) held old new r0 ended → Made old new before
made_driven result was held old new r0 ended number before noted is told = driven_out result (out_of was) held old new r0 ended number before noted is told
