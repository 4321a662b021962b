-- Where runs come from: a failed completion, and nothing else.
use Rattle.std.proofs.Common.{◌≡◌, ℕ, ◌<◌, ◌≤◌, length, true, false, not, Option, Some, None, inl, inr, ap, sym, subst, ◌∙◌, arith}
use Rattle.std.specs.Prelude.{◌==◌, nat_lt, nat_le}
use Rattle.std.specs.List.{All, list_all}
use Rattle.std.proofs.lemmas.Bool.{cases_eq, and_parts, ltb-true, leb-true}
use Rattle.std.proofs.lemmas.List.Elements.{All-weaker}
use Rattle.std.proofs.lemmas.List.Sums.{AllPass-from_list_all}
use Rattle.ccb.specs.declared.cam_status.CamStatus.TheVariants.{RequestInProgress}
use Rattle.ccb.specs.Status.{code_of}
use Rattle.base.specs.ShortBytes.{most_bytes}
use Rattle.ccb.specs.Completion.{Outcome}
use Rattle.ccb.specs.Ccb.{completed}
use Rattle.ccb.specs.Context.{context_of}
use Rattle.ccb.proofs.Contexts.{is_context}
use Rattle.ccb.specs.declared.place.Place.TheVariants.{Device}
use Rattle.bpf_semantics.specs.Reached.{IsEntry}
use Rattle.world_calls.specs.declared.call.Call.TheVariants.{Complete}
use Rattle.world_calls.specs.declared.call_answer.CallAnswer.TheVariants as answers
use Rattle.world.specs.World.{Setup, LiveRun, World}
use Rattle.world.specs.Lookups.{run_of, with_run}
use Rattle.world.specs.Event.{Event, called, Reply, replies}
use Rattle.world.specs.CcbSteps.{is_completion}
use Rattle.world.proofs.Lists.Found.{leave, found_in_push, put_other, leave_same, leave_other}
use Rattle.world_laws.proofs.Kept.{room_from}
use Rattle.world.proofs.Steps.Moves.{run_key, Begins, RunMove, runs_stay, run_enters, run_changes, run_leaves}
use Rattle.world_laws.proofs.Steps.Fates.{Newly}

pub no_some : {A : Type 0} (o : Option A) (x : A) → o ≡ None → o ≡ Some x → ⊥
no_some o x none some = let bad : None ≡ Some x = sym none ∙ some in cc

-- the runs are as they were, so none is new
none_new : (before after : World) (number : ℕ) (run : LiveRun) → after.runs.list ≡ before.runs.list → run_of number before.runs.list ≡ None → run_of number after.runs.list ≡ Some run → ⊥
none_new before after number run e none some = no_some (run_of number after.runs.list) run (ap (run_of number) e ∙ none) some

-- one was changed in its place
none_new_changed : (before after : World) (number : ℕ) (run old new : LiveRun) → run_of new.number before.runs.list ≡ Some old → after.runs.list ≡ with_run new before.runs.list → run_of number before.runs.list ≡ None → run_of number after.runs.list ≡ Some run → ⊥
none_new_changed before after number run old new found e none some =
    no_some (run_of number after.runs.list) run
    (ap (run_of number) e ∙ (put_other run_key new number before.runs.list (λ same. no_some (run_of number before.runs.list) old none (subst (λ (n : ℕ). run_of n before.runs.list ≡ Some old) same found)) ∙ none))
    some

newly_from : (setup : Setup) (before : World) (event : Event) (reply : Reply) (after : World) (number : ℕ) (run : LiveRun) (it : (fresh : LiveRun) × Begins setup before event reply after fresh) → run_of number before.runs.list ≡ None → run_of number after.runs.list ≡ Some run → Newly setup before event reply after number run
newly_from setup before event reply after number run it none some =
    elim (found_in_push run_key number before.runs.list it.0 run (sym (ap (run_of number) it.1.runs_is) ∙ some)) [
      | inl there ↦ absurd (no_some (run_of number before.runs.list) run none there)
      | inr last ↦ record {
        number_is = sym last.1 ∙ ap (λ (r : LiveRun). r.number) it.1.run_is;
        begins = subst (Begins setup before event reply after) (sym last.0) it.1;
      }
    ]

-- a run that was not there, and is now, begins
pub new_run : (setup : Setup) (before : World) (event : Event) (reply : Reply) (after : World) (number : ℕ) (run : LiveRun) → RunMove setup before event reply after → run_of number before.runs.list ≡ None → run_of number after.runs.list ≡ Some run → Newly setup before event reply after number run
new_run setup before event reply after number run (runs_stay e g quiet) none some = absurd (none_new before after number run e none some)
new_run setup before event reply after number run (run_enters fresh begins known room g) none some = newly_from setup before event reply after number run (fresh, begins) none some
new_run setup before event reply after number run (run_changes old new found queue_is controller_is program_is e g quiet its) none some = absurd (none_new_changed before after number run old new found e none some)
new_run setup before event reply after number run (run_leaves other found e g quiet its) none some =
    let is = ap (run_of number) e in
    absurd (elim (cases_eq other.number number) [
      | inl same ↦ no_some (run_of number after.runs.list) run (is ∙ subst (λ (n : ℕ). run_of number (leave run_key n before.runs.list) ≡ None) (sym same) (leave_same run_key number before.runs.list)) some
      | inr apart ↦ no_some (run_of number after.runs.list) run (is ∙ (leave_other run_key other.number number before.runs.list apart ∙ none)) some
    ])

-- a completion that is answered by the number of a run starts it
pub started_begins : (setup : Setup) (before : World) (outcome : Outcome) (number freeze : ℕ) (after : World) → RunMove setup before (called (Complete outcome)) (replies (answers.Started number freeze)) after → (run : LiveRun) × Begins setup before (called (Complete outcome)) (replies (answers.Started number freeze)) after run
started_begins setup before outcome number freeze after (runs_stay e g quiet) = absurd (let bad : true ≡ false = quiet in cc)
started_begins setup before outcome number freeze after (run_enters fresh begins known room g) = (fresh, begins)
started_begins setup before outcome number freeze after (run_changes old new found queue_is controller_is program_is e g quiet its) = absurd (let bad : true ≡ false = quiet in cc)
started_begins setup before outcome number freeze after (run_leaves other found e g quiet its) = absurd (let bad : true ≡ false = quiet in cc)

-- what a completion brings
record Brought (outcome : Outcome) : Type 0 where
  scsi : outcome.scsi < 256
  few : length outcome.sense ≤ 64
  each : All (λ byte. byte < 256) outcome.sense

brought : (outcome : Outcome) → is_completion outcome ≡ true → Brought outcome
brought outcome good =
    let first = and_parts _ (list_all (λ (byte : ℕ). nat_lt byte 256) outcome.sense) good in
    let second = and_parts _ (nat_le (length outcome.sense) most_bytes) first.0 in
    let third = and_parts (not (code_of outcome.status == code_of RequestInProgress)) (nat_lt outcome.scsi 256) second.0 in
    record {
      scsi = ltb-true _ _ third.1;
      few = leb-true _ _ second.1;
      each = All-weaker (λ (byte : ℕ). nat_lt byte 256 ≡ true) (λ (byte : ℕ). byte < 256) (λ byte h. ltb-true _ _ h) outcome.sense (AllPass-from_list_all (λ (byte : ℕ). nat_lt byte 256) outcome.sense first.1);
    }

-- a run begins at an entry
pub begins_at_entry : (setup : Setup) (before : World) (event : Event) (reply : Reply) (after : World) (run : LiveRun) → Begins setup before event reply after run → IsEntry run.machine
begins_at_entry setup before event reply after run it =
    let some = brought it.outcome it.completion in
    let context = is_context (completed it.live.ccb it.outcome it.taken) some.scsi some.few some.each in
    record {
      context = context_of (completed it.live.ccb it.outcome it.taken);
      freeze = it.freeze;
      bytes = (context.size, context.each);
      number = elim it.freezes_is [
        | inl none ↦ omega (arith, none.0)
        | inr some_one ↦ let room = room_from (Device it.live.ccb.queue) before.transport.freezes before.transport.greatest_freeze some_one.1 in omega (arith, some_one.0, room.numbers)
      ];
      is = ap (λ (r : LiveRun). r.machine) it.run_is;
    }
