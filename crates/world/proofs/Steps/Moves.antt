-- What a step can do to each list of the world. The laws go by these moves, and not by the kinds of events.
use Rattle.std.proofs.Common.{◌≡◌, ℕ, ◌+◌, ◌<◌, ◌≤◌, List, [], ◌∷◌, ◌++◌, map, Bool, true, false, not, Some, None, IsSome, ◌⊎◌, sym, subst, slice_index}
use Rattle.std.specs.Prelude.{◌&&◌}
use Rattle.std.specs.List.{filter}
use Rattle.std.proofs.lemmas.Bool.{and_parts, eqb-true}
use Rattle.ccb.specs.Rising.{AreRising}
use Rattle.ccb.specs.declared.QueueId.{QueueId}
use Rattle.ccb.specs.Completion.{Outcome}
use Rattle.ccb.specs.Ccb.{submitted, completed}
use Rattle.ccb.specs.Context.{context_of}
use Rattle.freeze_ledger.specs.declared.freeze.Holder.{Holder}
use Rattle.freeze_ledger.specs.declared.freeze.Holder.TheVariants.{Run}
use Rattle.freeze_ledger.specs.declared.freeze.Freeze.{Freeze}
use Rattle.ccb.specs.declared.place.Place.{Place}
use Rattle.ccb.specs.declared.place.Place.TheVariants.{Device}
use Rattle.freeze_ledger.specs.Freezes.{meets_limit, entry_of}
use Rattle.bpf_semantics.specs.MachineState.{entry}
use Rattle.world_calls.specs.declared.call.Call.TheVariants.{Complete}
use Rattle.world_calls.specs.declared.call_answer.CallAnswer.TheVariants as answers
use Rattle.world.specs.declared.ccb_state.CcbState.TheVariants.{Waiting, InRecovery}
use Rattle.world.specs.World.{Setup, has_classes, queue_count, queue_setup, LiveCcb, LiveRun, World}
use Rattle.world.specs.Lookups.{is_active, is_waiting, is_of, active_count, ccb_of, with_ccb, next_waiting, run_of, with_run}
use Rattle.world.specs.Event.{Instruction, Event, called, instruction_of, Reply, replies}
use Rattle.world.specs.CcbSteps.{ccb_meets_limit, run_meets_limit, is_completion}
use Rattle.world.specs.FreezeSteps.{is_timer}
use Rattle.world.specs.Refusals.{is_unknown}
use Rattle.world.specs.RunSteps.{is_run}
use Rattle.world.specs.Laws.TookGave.{taken_by}
use Rattle.world.specs.Laws.CcbLaws.{finished_by}
use Rattle.world.specs.Laws.Headline.{is_step_of, is_own_of}
use Rattle.world.specs.Limits.{IsPlain, NamesNoOther, FreezeLimits, CcbLimits, RunLimits, KeepsLimits}
use Rattle.world.proofs.Lists.Found.{put, leave, found_key}
use Rattle.world.proofs.Lists.Rising.{found_among}
use Rattle.world.proofs.Lists.Entries.{freeze_key}
use Rattle.world.proofs.Steps.Answering.{AnswerMove}

-- the limits of the lists, which each world keeps, whatever the setup
pub record KeepsLists (setup : Setup) (world : World) : Type 0 where
  pub freezes : FreezeLimits setup world
  pub ccbs : CcbLimits setup world
  pub runs : RunLimits setup world

pub lists_of : {setup : Setup} {world : World} → KeepsLimits setup world → KeepsLists setup world
lists_of kept = record { freezes = kept.freezes; ccbs = kept.ccbs; runs = kept.runs }

abbrev pub ccb_key : LiveCcb → ℕ
ccb_key live = live.ccb.number.0

abbrev pub run_key : LiveRun → ℕ
run_key run = run.number

-- the CCB of a number bears it
pub ccb_found : (number : ℕ) (live : List LiveCcb) (it : LiveCcb) → ccb_of number live ≡ Some it → ccb_of it.ccb.number.0 live ≡ Some it
ccb_found number live it e = subst (λ (n : ℕ). ccb_of n live ≡ Some it) (sym (found_key ccb_key number live it e)) e

-- the run of a number bears it
pub run_found : (number : ℕ) (runs : List LiveRun) (it : LiveRun) → run_of number runs ≡ Some it → run_of it.number runs ≡ Some it
run_found number runs it e = subst (λ (n : ℕ). run_of n runs ≡ Some it) (sym (found_key run_key number runs it e)) e

-- the CCB that starts is found by its number, waits, and is of the queue
pub record Next (queue : ℕ) (live : List LiveCcb) (next : LiveCcb) : Type 0 where
  pub found : ccb_of next.ccb.number.0 live ≡ Some next
  pub queue_is : next.ccb.queue.0 ≡ queue
  pub waits : is_waiting next.state ≡ true

pub next_found : (queue : ℕ) (live : List LiveCcb) (high : ℕ) (next : LiveCcb) → AreRising 0 (map ccb_key live) high → next_waiting queue live ≡ Some next → Next queue live next
next_found queue live high next rising e =
    let it = found_among ccb_key _ (λ (c : LiveCcb). is_of queue c && is_waiting c.state) 0 live high next rising e in
    let parts = and_parts (is_of queue next) (is_waiting next.state) it.1 in
    record { found = it.0; queue_is = eqb-true _ _ parts.0; waits = parts.1 }

-- the CCBs

-- the CCB is that of the run whose step this is, which has not disposed of it yet
pub record DisposesOf (before : World) (event : Event) (old : LiveCcb) : Type 0 where
  pub number : ℕ
  pub run : LiveRun
  pub found : run_of number before.runs.list ≡ Some run
  pub its : is_step_of number event ≡ true
  pub ccb_is : old.ccb.number.0 ≡ run.ccb
  pub fresh : run.machine.disposed ≡ false

-- a CCB in recovery is touched by its run alone
abbrev pub MayTouch : World → Event → LiveCcb → Type 0
MayTouch before event old = (old.state ≡ InRecovery → ⊥) ⊎ DisposesOf before event old

pub data CcbMove (setup : Setup) (before : World) (event : Event) (reply : Reply) (after : World) : Type 0 where
  ccbs_stay : after.transport.live ≡ before.transport.live → after.transport.greatest_ccb ≡ before.transport.greatest_ccb → finished_by before event reply ≡ [] → CcbMove setup before event reply after
  ccb_enters : (queue : QueueId) (priority retries class : ℕ) → (has_classes setup ≡ false → class ≡ 0) → queue.0 < queue_count setup → ccb_meets_limit queue.0 before ≡ false → after.transport.live ≡ before.transport.live ++ record { ccb = submitted (record { 0 = before.transport.greatest_ccb + 1 }) queue priority retries class; state = Waiting } ∷ [] → after.transport.greatest_ccb ≡ before.transport.greatest_ccb + 1 → finished_by before event reply ≡ [] → CcbMove setup before event reply after
  ccb_changes : (old new : LiveCcb) → (has_classes setup ≡ false → IsPlain old → IsPlain new) → ccb_of new.ccb.number.0 before.transport.live ≡ Some old → new.ccb.queue.0 ≡ old.ccb.queue.0 → (is_active new.state ≡ false) ⊎ ((is_active new.state ≡ is_active old.state) ⊎ (active_count new.ccb.queue.0 before.transport.live < slice_index before.transport.openings new.ccb.queue.0)) → MayTouch before event old → after.transport.live ≡ with_ccb new before.transport.live → after.transport.greatest_ccb ≡ before.transport.greatest_ccb → finished_by before event reply ≡ [] → CcbMove setup before event reply after
  ccb_leaves : (number code : ℕ) (old : LiveCcb) → ccb_of number before.transport.live ≡ Some old → MayTouch before event old → after.transport.live ≡ leave ccb_key number before.transport.live → after.transport.greatest_ccb ≡ before.transport.greatest_ccb → finished_by before event reply ≡ record { number = number; code = code } ∷ [] → CcbMove setup before event reply after

-- the freezes

-- A freeze that enters is nobody's among the runs, or that of a run that begins, or of the one whose step this is.
pub record Comes (before : World) (event : Event) (after : World) (holder : Holder) : Type 0 where
  pub whose : (run : ℕ) → is_run run holder ≡ true → (run ≡ before.runs.greatest + 1) ⊎ (is_step_of run event ≡ true)
  pub live : (run : ℕ) → is_run run holder ≡ true → IsSome (run_of run after.runs.list)

-- a run loses freezes by its own steps alone
abbrev pub GoesFrom : World → Event → (Freeze → Bool) → Type 0
GoesFrom before event gone = (n : ℕ) (f : Freeze) → entry_of n before.transport.freezes ≡ Some f → gone f ≡ true → (run : ℕ) → is_run run f.holder ≡ true → is_step_of run event ≡ true

-- A freeze gets a timer as its holder, and had none; where it was a run's, that is by its own step.
pub record ChangesHands (event : Event) (old new : Holder) : Type 0 where
  pub owned : is_timer old ≡ false
  pub timed : is_timer new ≡ true
  pub whose : (run : ℕ) → is_run run old ≡ true → is_step_of run event ≡ true

pub data FreezeMove (setup : Setup) (before : World) (event : Event) (after : World) : Type 0 where
  freezes_stay : after.transport.freezes ≡ before.transport.freezes → after.transport.greatest_freeze ≡ before.transport.greatest_freeze → FreezeMove setup before event after
  freeze_enters : (place : Place) (holder : Holder) → (NamesNoOther setup → is_unknown setup place ≡ false) → meets_limit place before.transport.freezes before.transport.greatest_freeze ≡ false → after.transport.freezes ≡ before.transport.freezes ++ record { number = before.transport.greatest_freeze + 1; place = place; holder = holder } ∷ [] → after.transport.greatest_freeze ≡ before.transport.greatest_freeze + 1 → Comes before event after holder → FreezeMove setup before event after
  freezes_leave : (gone : Freeze → Bool) → after.transport.freezes ≡ filter (λ f. not (gone f)) before.transport.freezes → after.transport.greatest_freeze ≡ before.transport.greatest_freeze → GoesFrom before event gone → FreezeMove setup before event after
  freeze_changes : (old new : Freeze) → entry_of new.number before.transport.freezes ≡ Some old → new.place ≡ old.place → after.transport.freezes ≡ put freeze_key new before.transport.freezes → after.transport.greatest_freeze ≡ before.transport.greatest_freeze → ChangesHands event old.holder new.holder → FreezeMove setup before event after

-- the runs

-- a run begins
pub record Begins (setup : Setup) (before : World) (event : Event) (reply : Reply) (after : World) (run : LiveRun) : Type 0 where
  pub outcome : Outcome
  pub event_is : event ≡ called (Complete outcome)
  pub completion : is_completion outcome ≡ true
  pub live : LiveCcb
  pub found : ccb_of outcome.ccb.0 before.transport.live ≡ Some live
  pub is_active : is_active live.state ≡ true
  pub taken : Bool
  pub freeze : ℕ
  pub run_is : run ≡ record {
    number = before.runs.greatest + 1;
    ccb = live.ccb.number.0;
    queue = live.ccb.queue.0;
    controller = (queue_setup setup live.ccb.queue.0).controller;
    program = (queue_setup setup live.ccb.queue.0).program;
    machine = entry (context_of (completed live.ccb outcome taken)) freeze;
    out = true;
  }
  pub reply_is : reply ≡ replies (answers.Started (before.runs.greatest + 1) freeze)
  pub live_is : after.transport.live ≡ with_ccb (record { ccb = completed live.ccb outcome taken; state = InRecovery }) before.transport.live
  pub runs_is : after.runs.list ≡ before.runs.list ++ run ∷ []
  pub freezes_is :
      ((freeze ≡ 0) × (after.transport.freezes ≡ before.transport.freezes))
      ⊎ ((freeze ≡ before.transport.greatest_freeze + 1) × (meets_limit (Device live.ccb.queue) before.transport.freezes before.transport.greatest_freeze ≡ false)
      × (after.transport.freezes ≡ before.transport.freezes ++ record { number = freeze; place = Device live.ccb.queue; holder = Run (before.runs.greatest + 1) } ∷ []))

-- the reply tells of a run that starts
abbrev pub tells_start : Reply → Bool
tells_start (replies (answers.Started run freeze)) = true
tells_start reply = false

pub data RunMove (setup : Setup) (before : World) (event : Event) (reply : Reply) (after : World) : Type 0 where
  runs_stay : after.runs.list ≡ before.runs.list → after.runs.greatest ≡ before.runs.greatest → tells_start reply ≡ false → RunMove setup before event reply after
  run_enters : (run : LiveRun) → Begins setup before event reply after run → run.queue < queue_count setup → run_meets_limit before ≡ false → after.runs.greatest ≡ before.runs.greatest + 1 → RunMove setup before event reply after
  run_changes : (old new : LiveRun) → run_of new.number before.runs.list ≡ Some old → new.queue ≡ old.queue → new.controller ≡ old.controller → new.program ≡ old.program → after.runs.list ≡ with_run new before.runs.list → after.runs.greatest ≡ before.runs.greatest → tells_start reply ≡ false → is_own_of new.number event ≡ true → RunMove setup before event reply after
  run_leaves : (run : LiveRun) → run_of run.number before.runs.list ≡ Some run → after.runs.list ≡ leave run_key run.number before.runs.list → after.runs.greatest ≡ before.runs.greatest → tells_start reply ≡ false → is_own_of run.number event ≡ true → RunMove setup before event reply after

-- all that a step does: to each list, to what calls are answered from, whom its instruction is of, and that it gives a
-- freeze to no other run that was there
pub record Effect (setup : Setup) (before : World) (event : Event) (reply : Reply) (after : World) : Type 0 where
  pub ccbs : CcbMove setup before event reply after
  pub ended : after.ended ≡ before.ended ++ finished_by before event reply
  pub freezes : FreezeMove setup before event after
  pub runs : RunMove setup before event reply after
  pub answers : AnswerMove before after
  pub taken : (run : ℕ) → run ≤ before.runs.greatest → instruction_of run event ≡ None → taken_by run event reply ≡ []
  pub acts : (run : ℕ) (instruction : Instruction) → instruction_of run event ≡ Some instruction → IsSome (run_of run before.runs.list)
