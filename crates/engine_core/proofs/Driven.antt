-- A run that goes on from stop to stop.
use Rattle.std.proofs.Common.{◌≡◌, ℕ, ◌+◌, ◌-◌, ◌<◌, ◌≤◌, Bool, true, false, not, ◌↔◌, List, Option, None, Some, IsSome, IfSome, refl, ap, sym, subst, ◌∙◌, arith}
use Rattle.bpf_insn.specs.declared.program.Slot.{Slot}
use Rattle.bpf_semantics.specs.MachineState.{MachineState}
use Rattle.bpf_semantics.specs.Reached.{Reached}
use Rattle.bpf_semantics.specs.declared.stop.Stop.TheVariants.{Exit as at_exit}
use Rattle.engine_history.specs.HistoryState.{HistoryState}
use Rattle.world_calls.specs.declared.record.Record.{Record}
use Rattle.world_calls.specs.declared.record.Record.TheVariants.{Advance}
use Rattle.world_calls.specs.declared.record.StoppedAt.{StoppedAt}
use Rattle.engine_runs.specs.Admits.{IsOutWith}
use Rattle.engine_runs.specs.RunsState.{RunsState}
use Rattle.world.proofs.Lists.Found.{found_key}
use Rattle.world.proofs.Steps.Moves.{run_key}
use Rattle.world.specs.World.{LiveRun, Setup, Transport, queue_setup}
use Rattle.world.specs.Lookups.{run_of}
use Rattle.engine_core.specs.declared.answers.AdvanceAnswer.{AdvanceAnswer}
use Rattle.engine_core.specs.declared.answers.AdvanceAnswer.TheVariants.{Goes, Ended}
use Rattle.engine_core.specs.declared.run_events.Progress.{Progress}
use Rattle.engine_core.specs.Answers.{r0_of, stopped_at}
use Rattle.engine_core.specs.Driving.{IsDriven, IsStretchOf, RunsToExit, Steps, WentOn, begins, goes_on}
use Rattle.engine_core.specs.EngineState.{EngineState, Records}
use Rattle.engine_core.specs.RunState.{IsOut, IsReached, RunState, StoppedState}
use Rattle.engine_runs.specs.RunPlaces.{HasRunAt}
use Rattle.engine_core.specs.Stepping.{GoesOnAt, IsRunAt, IsStep}
use Rattle.engine_core.proofs.Answering.{seen}
use Rattle.engine_core.proofs.Numbered.{stands_once}

-- where a run that is out so stands
pub run_at : (o : Option ℕ) (list : List LiveRun) (run : RunState) → (IsSome o ↔ IsOutWith list run.number run.program.program run.machine) → IfSome o (λ place. (it : LiveRun) × (run_of run.number list ≡ Some it) × HasRunAt list place it) → IfSome o (IsRunAt list run)
run_at None list run out at = tt
run_at (Some place) list run out at =
    let w : IsOutWith list run.number run.program.program run.machine = out.0 refl in
    let both : Some w.it ≡ Some at.0 = sym w.found ∙ at.1 in
    let same : w.it ≡ at.0 = cc in
    let number : at.0.number ≡ run.number = found_key run_key run.number list at.0 at.1 in
    record {
      out = record { it = at.0; there = at.2; found = ap (λ (n : ℕ). run_of n list) number ∙ at.1; out = ap (λ (it : LiveRun). it.out) (sym same) ∙ w.recorded.0 };
      number = sym number;
      program = w.recorded.1 ∙ ap (λ (it : LiveRun). it.program) same;
      machine = w.recorded.2 ∙ ap (λ (it : LiveRun). it.machine) same;
    }

-- one stretch, as contracts see the engine
pub steps_of : (setup : Setup) (history later : HistoryState) (transport more : Transport) (runs after : RunsState) (place : ℕ) (progress : Progress) (told : Record) → IsStep setup transport runs place more after progress told → Records (seen setup history transport runs) (seen setup later more after) told → Steps (seen setup history transport runs) place (seen setup later more after) progress
steps_of setup history later transport more runs after place progress told step records = record {
  next = step.next;
  answer = step.answer;
  steps_is = step.steps_is;
  r0_is = step.r0_is;
  recorded = subst (λ (r : Record). Records (seen setup history transport runs) (seen setup later more after) r) step.told_is records;
  goes_on = step.goes_on;
}

pub is_off : (b : Bool) → not b ≡ true → b ≡ false
is_off true e = absurd (let bad : false ≡ true = e in cc)
is_off false e = refl

pub is_on : (b : Bool) → not b ≡ false → b ≡ true
is_on true e = refl
is_on false e = absurd (let bad : true ≡ false = e in cc)

-- the run as it began
pub begins_so : (old : EngineState) (run : RunState) (place left : ℕ) (here : IsRunAt old.world.runs.list run place) → IsReached run → left ≡ (queue_setup old.setup here.out.it.queue).budget → IsDriven old run old place left 0
begins_so old run place left here reached budget = record {
  at = run;
  went = begins;
  here = here;
  program = refl;
  number = refl;
  count = reached.0;
  reached = reached.1;
  budget = omega (arith, budget);
}

-- and as it came back
pub back_so : (old now : EngineState) (run back : RunState) (place left r0 : ℕ) (d : IsDriven old run now place left r0) → back ≡ record run { machine = d.here.out.it.machine } → WentOn old run now back r0
back_so old now run back place left r0 d is =
    let same : d.at ≡ back = (λ i. record { number = d.number i; program = d.program i; machine = d.here.machine i }) ∙ sym is in
    subst (λ (at : RunState). WentOn old run now at r0) same d.went

-- what it did, where it goes on
record Onward (answer : AdvanceAnswer) (run : StoppedState) (it : LiveRun) (after : List LiveRun) (place : ℕ) : Type 0 where
  again : RunState
  r0 : ℕ
  is : answer ≡ Goes again r0
  goes : GoesOnAt true (Goes again r0) run it after place

onward : (b : Bool) (answer : AdvanceAnswer) (run : StoppedState) (it : LiveRun) (after : List LiveRun) (place : ℕ) → b ≡ true → GoesOnAt b answer run it after place → Onward answer run it after place
onward true (Goes again r0) run it after place e goes = record { again = again; r0 = r0; is = refl; goes = goes }
onward true (Ended r0) run it after place e goes = absurd goes
onward false answer run it after place e goes = absurd (let bad : false ≡ true = e in cc)

-- and where it exits
exits : (b : Bool) (answer : AdvanceAnswer) (run : StoppedState) (it : LiveRun) (after : List LiveRun) (place : ℕ) → b ≡ false → GoesOnAt b answer run it after place → run.segment.stop ≡ at_exit (r0_of answer)
exits true answer run it after place e goes = absurd (let bad : true ≡ false = e in cc)
exits false (Goes again r0) run it after place e goes = absurd goes
exits false (Ended r0) run it after place e goes = goes

module _ (old now new : EngineState) (run : RunState) (place left before : ℕ) (progress : Progress) (d : IsDriven old run now place left before) (s : Steps now place new progress) where
  same : s.next.out.it ≡ d.here.out.it
  same = stands_once now.world.runs.list place s.next.out.it d.here.out.it s.next.out.there d.here.out.there

  program : s.next.run.segment.program.program ≡ d.at.program.program
  program = s.next.again.program ∙ (ap (λ (it : LiveRun). it.program) same ∙ sym d.here.program)

  machine : s.next.run.segment.from ≡ d.at.machine
  machine = s.next.again.machine ∙ (ap (λ (it : LiveRun). it.machine) same ∙ sym d.here.machine)

  number : s.next.run.number ≡ d.at.number
  number = s.next.again.number ∙ (ap (λ (it : LiveRun). it.number) same ∙ sym d.here.number)

  stretch : IsStretchOf d.at s.next.run.segment
  stretch = record { segment_is = s.next.stopped.segment; program_is = program; from_is = machine }

  budget : s.next.run.segment.program.budget ≡ (queue_setup now.setup d.here.out.it.queue).budget
  budget = s.next.again.budget ∙ ap (λ (it : LiveRun). (queue_setup now.setup it.queue).budget) same

  reached : Reached s.next.run.segment.program.program d.count s.next.run.segment.from
  reached = subst (λ (p : List Slot). Reached p d.count s.next.run.segment.from) (sym program) (subst (Reached d.at.program.program d.count) (sym machine) d.reached)

  -- it has so many instructions left
  pub few : progress.instructions ≤ left
  few = omega (arith, s.steps_is, s.next.within d.count reached, budget, d.budget)

  pub fewer : left - progress.instructions < left
  fewer = omega (arith, s.steps_is, s.next.stopped.segment.count, few)

  recorded : (stop : StoppedAt) (r0 : ℕ) → stopped_at s.next.run.segment.stop ≡ stop → r0_of s.answer ≡ r0 → Records now new (Advance d.at.number s.next.run.segment.steps stop r0)
  recorded stop r0 stops is = subst (λ (told : Record). Records now new told) (let told : Advance s.next.run.number s.next.run.segment.steps (stopped_at s.next.run.segment.stop) (r0_of s.answer) ≡ Advance d.at.number s.next.run.segment.steps stop r0 = rw (number, stops, is) refl in told) s.recorded

  pub runs_out : progress.goes_on ≡ false → RunsToExit old run progress.r0 new
  runs_out ended =
      let stops = exits progress.goes_on s.answer s.next.run s.next.out.it new.world.runs.list place ended s.goes_on in
      let exit : s.next.run.segment.stop ≡ at_exit progress.r0 = stops ∙ ap at_exit (sym s.r0_is) in
      record {
        between = now;
        at = d.at;
        before = before;
        went = d.went;
        segment = s.next.run.segment;
        last = record { stretch = stretch; recorded = recorded (stopped_at s.next.run.segment.stop) progress.r0 refl (sym s.r0_is); goes = exit };
      }

  pub goes_further : progress.goes_on ≡ true → IsDriven old run new place (left - progress.instructions) progress.r0
  goes_further going =
      let list : List LiveRun = new.world.runs.list in
      let on = onward progress.goes_on s.answer s.next.run s.next.out.it list place going s.goes_on in
      let m : MachineState = on.again.machine in
      let again : RunState = record d.at { machine = m } in
      let it : LiveRun = record d.here.out.it { machine = m } in
      let there : HasRunAt list place it = subst (λ (x : LiveRun). HasRunAt list place (record x { machine = m })) same on.goes.0 in
      let found : run_of it.number list ≡ Some it = subst (λ (x : LiveRun). run_of x.number list ≡ Some (record x { machine = m })) same on.goes.1 in
      let out : IsOut new.world again = record { it = it; found = ap (λ (n : ℕ). run_of n list) d.here.number ∙ found; out = d.here.out.out; program_is = sym d.here.program; machine_is = refl } in
      let setup : (queue_setup new.setup it.queue).budget ≡ (queue_setup now.setup it.queue).budget = ap (λ (x : Setup). (queue_setup x it.queue).budget) s.recorded.setup in
      record {
        at = again;
        went = goes_on now new d.at again before progress.r0 s.next.run.segment d.went (record {
          stretch = stretch;
          recorded = recorded (stopped_at s.next.run.segment.stop) progress.r0 refl (sym s.r0_is);
          goes = (
            refl,
            refl,
            out,
            λ under.
                let both : Some under.out.it ≡ Some d.here.out.it = sym under.out.found ∙ (ap (λ (n : ℕ). run_of n now.world.runs.list) d.here.number ∙ d.here.out.found) in
                let one : under.out.it ≡ d.here.out.it = cc in
                record { out = out; budget = under.budget ∙ ap (λ (x : LiveRun). (queue_setup now.setup x.queue).budget) one; limits = under.limits },
          );
        });
        here = record { out = record { it = it; there = there; found = found; out = d.here.out.out }; number = d.here.number; program = d.here.program; machine = refl };
        program = d.program;
        number = d.number;
        count = d.count + s.next.run.segment.steps;
        reached = subst (λ (p : List Slot). Reached p (d.count + s.next.run.segment.steps) m) program (on.goes.2 d.count reached);
        budget = omega (arith, setup, d.budget, few, s.steps_is);
      }
