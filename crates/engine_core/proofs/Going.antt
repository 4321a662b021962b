-- A segment that was taken over, and a run that goes on after its stop.
use Rattle.std.proofs.Common.{suc, ◌+◌, inr, ◌≡◌, ℕ, List, Some, refl, ap, sym, subst, ◌∙◌}
use Rattle.bpf_insn.specs.declared.program.Slot.{Slot}
use Rattle.bpf_semantics.specs.MachineState.{MachineState}
use Rattle.bpf_semantics.specs.Reached.{Reached}
use Rattle.bpf_accepted.specs.Verdict.{Verdict}
use Rattle.helpers.specs.declared.request.Answer.{Answer}
use Rattle.bpf_semantics.specs.Step.{IsAnswer, answered}
use Rattle.interpreter.proofs.Stops.{segment_calls, segment_reaches}
use Rattle.interpreter.specs.Segments.{SegmentState, IsSegment}
use Rattle.engine_runs.specs.RunsState.{RunsState}
use Rattle.engine_runs.specs.Admits.{IsOutWith}
use Rattle.engine_runs.specs.RunPlaces.{HasRunAt}
use Rattle.engine_core.specs.RunState.{RunState, StoppedState, IsOut, IsOutUnder, IsReached, IsStopped, before_stop}
use Rattle.world_calls.specs.declared.record.Record.{Record}
use Rattle.helpers.specs.declared.request.Request.{Request}
use Rattle.bpf_semantics.specs.declared.stop.Stop.{Stop}
use Rattle.bpf_semantics.specs.declared.stop.Stop.TheVariants.{Helper}
use Rattle.world.specs.World.{Transport, Setup, LiveRun, World, queue_setup}
use Rattle.world.specs.Lookups.{run_of}
use Rattle.engine_core.specs.declared.answers.AdvanceAnswer.{AdvanceAnswer}
use Rattle.engine_core.specs.declared.answers.AdvanceAnswer.TheVariants.{Goes, Ended}
use Rattle.engine_core.specs.Answers.{GoesOrEnds}
use Rattle.engine_core.specs.Invariant.{KeepsEngine}
use Rattle.engine_core.specs.TakingOver.{ArrivesAt, GoesAs, IsAdmitted, RunContinues}
use Rattle.engine_core.proofs.PrivateWays.{with_machine}
use Rattle.engine_core.specs.Performing.{IsPlaced}
use Rattle.engine_core.proofs.Recording.{goes, kept_sound}

pub there : (runs : List LiveRun) (number place : ℕ) (program : List Slot) (machine : MachineState) → (out : IsOutWith runs number program machine) → IsPlaced runs number place → HasRunAt runs place out.it
there runs number place program machine out at =
    let both : Some at.0 ≡ Some out.it = sym at.1 ∙ out.found in
    let same : at.0 ≡ out.it = cc in
    subst (HasRunAt runs place) same at.2

pub is_admitted : (setup : Setup) (history : List Record) (transport : Transport) (runs : RunsState) (number place : ℕ) (segment : SegmentState) → KeepsEngine setup history transport runs → IsOutWith runs.runs.list number segment.program.program segment.from → IsPlaced runs.runs.list number place → IsAdmitted transport runs number place segment
is_admitted setup history transport runs number place segment kept out at = record {
  setup = setup;
  history = history;
  kept = kept;
  program = segment.program.program;
  out = record {
    it = out.it;
    found = out.found;
    out = out.recorded.0;
    next = record { program_is = out.recorded.1; segment_program_is = out.recorded.1; start_is = out.recorded.2 };
  };
  there = there runs.runs.list number place segment.program.program segment.from out at;
}

-- a run that stands at its stop arrives there
pub arrives_at : (setup : Setup) (history : List Record) (transport : Transport) (runs : RunsState) (run : StoppedState) (place : ℕ) (machine : MachineState) (stop : Stop) → KeepsEngine setup history transport runs → IsOutWith runs.runs.list run.number run.segment.program.program run.segment.from → IsPlaced runs.runs.list run.number place → IsStopped run → machine ≡ run.segment.to → run.segment.stop ≡ stop → ArrivesAt transport runs place machine stop
arrives_at setup history transport runs run place machine stop kept out at stopped to stops = record {
  segment = run.segment;
  ends = record { segment_is = stopped.segment; machine_is = sym to; stop_is = stops };
  number = run.number;
  admitted = is_admitted setup history transport runs run.number place run.segment kept out at;
}

-- the same run goes on from there
pub goes_as : (run : StoppedState) (again : RunState) (machine : MachineState) (stop : Stop) (old new : List LiveRun) (place : ℕ) (on : RunContinues machine stop old new place) → machine ≡ run.segment.to → run.segment.stop ≡ stop → again ≡ record (before_stop run) { machine = on.machine } → GoesAs run again old new place
goes_as run again machine stop old new place on to stops is = record {
  on = record {
    machine = on.machine;
    stands = on.stands;
    found = on.found;
    reached = λ segment ends. on.reached segment (record { segment_is = ends.segment_is; machine_is = ends.machine_is ∙ sym to; stop_is = ends.stop_is ∙ stops });
  };
  is = is;
}

-- it is out, and is under the setup if it was before
pub goes_out : (setup : Setup) (before after : World) (run : StoppedState) (place : ℕ) (again : RunState) → IsOutWith before.runs.list run.number run.segment.program.program run.segment.from → IsPlaced before.runs.list run.number place → GoesAs run again before.runs.list after.runs.list place → (again.number ≡ run.number) × (again.program ≡ run.segment.program) × IsOut after again × (IsOutUnder setup before (before_stop run) → IsOutUnder setup after again)
goes_out setup before after run place again with_it at goes =
    let machine : MachineState = goes.on.machine in
    let here = there before.runs.list run.number place run.segment.program.program run.segment.from with_it at in
    let out : IsOut after (record (before_stop run) { machine = machine }) =
    record {
      it = with_machine with_it.it machine;
      found = goes.on.found run.number with_it.it here with_it.found;
      out = with_it.recorded.0;
      program_is = sym with_it.recorded.1;
      machine_is = refl;
    } in
    subst (λ (m : RunState). (m.number ≡ run.number) × (m.program ≡ run.segment.program) × IsOut after m × (IsOutUnder setup before (before_stop run) → IsOutUnder setup after m)) (sym goes.is) (
      refl,
      refl,
      out,
      λ under.
          let both : Some under.out.it ≡ Some with_it.it = sym under.out.found ∙ with_it.found in
          let same : under.out.it ≡ with_it.it = cc in
          record { out = out; budget = under.budget ∙ ap (λ (x : LiveRun). (queue_setup setup x.queue).budget) same; limits = under.limits },
    )

-- the machine of a run that is recorded is one that its program reaches
pub recorded_reached : (setup : Setup) (history : List Record) (transport : Transport) (runs : RunsState) (run : RunState) (machine : MachineState) → KeepsEngine setup history transport runs → IsOutWith runs.runs.list run.number run.program.program machine → IsReached (record run { machine = machine })
recorded_reached setup history transport runs run machine kept out =
    let reached = (kept_sound setup history transport runs kept).reached run.number out.it out.found in
    (reached.0, subst (λ (m : MachineState). Reached run.program.program reached.0 m) (sym out.recorded.2) (subst (λ (p : List Slot). Reached p reached.0 out.it.machine) (sym out.recorded.1) reached.1))

-- a run whose call is answered is in a machine that its program reaches, by as many instructions more
pub answered_reached : (s : SegmentState) (request : Request) (answer : Answer) (machine : MachineState) (is : IsSegment s) (n : ℕ) → Reached s.program.program n s.from → s.stop ≡ Helper request → IsAnswer s.to request answer → machine ≡ answered request answer s.to → Reached s.program.program (suc (n + is.private)) machine
answered_reached s request answer machine is n from stop allowed machine_is =
    let to = segment_reaches s n is from in
    (s.to, to, inr (request, answer, segment_calls s request is stop, (allowed, machine_is)))

-- what becomes of a run at its stop becomes of the run and its segment apart
pub goes_apart : (setup : Setup) (before after : World) (at run : RunState) (s t : SegmentState) (answer : AdvanceAnswer) → at.number ≡ run.number → at.program ≡ run.program → s.stop ≡ t.stop → IsOut before at → GoesOrEnds setup before after at s answer → GoesOrEnds setup before after run t answer
goes_apart setup before after at run s t (Goes again r0) number program stop out goes = (
  goes.0 ∙ number,
  goes.1 ∙ program,
  goes.2,
  λ under.
      let both : Some under.out.it ≡ Some out.it = sym under.out.found ∙ (ap (λ (n : ℕ). run_of n before.runs.list) (sym number) ∙ out.found) in
      let same : under.out.it ≡ out.it = cc in
      goes.3
      (record {
        out = out;
        budget = ap (λ (v : Verdict). v.budget) program ∙ (under.budget ∙ ap (λ (x : LiveRun). (queue_setup setup x.queue).budget) same);
        limits = ap (λ (v : Verdict). v.limits) program ∙ under.limits;
      }),
)
goes_apart setup before after at run s t (Ended r0) number program stop out goes = sym stop ∙ goes
