-- A run that goes on to its next stop where it is recorded: what it did is what its advance would do.
use Rattle.std.proofs.Common.{◌≡◌, ℕ, List, Some, refl, ap, sym, subst, ◌∙◌}
use Rattle.bpf_semantics.specs.MachineState.{MachineState}
use Rattle.bpf_semantics.specs.declared.stop.Stop.{Stop}
use Rattle.bpf_semantics.specs.Reached.{Reached}
use Rattle.bpf_semantics.specs.Stops.{stop_at}
use Rattle.bpf_accepted.specs.Verdict.{Verdict}
use Rattle.interpreter.specs.Segments.{IsSegment, IsWithinBudget, stop_there, stretch}
use Rattle.engine_runs.specs.Admits.{IsOutWith}
use Rattle.engine_runs.specs.RunsState.{RunsState}
use Rattle.world_calls.specs.declared.record.Record.{Record}
use Rattle.world_calls.specs.declared.record.Record.TheVariants.{Advance}
use Rattle.world_calls.specs.declared.record.StoppedAt.{StoppedAt}
use Rattle.world.specs.World.{LiveRun, Setup, Transport, queue_setup}
use Rattle.world.specs.Lookups.{run_of}
use Rattle.engine_core.specs.declared.answers.AdvanceAnswer.{AdvanceAnswer}
use Rattle.engine_core.specs.declared.answers.AdvanceAnswer.TheVariants as advances
use Rattle.engine_core.specs.declared.commit_segment.Onward.{Onward}
use Rattle.engine_core.specs.declared.commit_segment.Onward.TheVariants as onward
use Rattle.engine_core.specs.Answers.{StopsByCode, r0_of, stopped_at}
use Rattle.engine_core.specs.Invariant.{HoldEntries, KeepsEngine}
use Rattle.engine_core.specs.Performing.{IsPlaced, Performs}
use Rattle.engine_core.specs.Replies.{given_advanced}
use Rattle.engine_core.specs.declared.event.Event.TheVariants as events
use Rattle.engine_core.specs.declared.reply.Reply.TheVariants.{Success}
use Rattle.engine_core.specs.RunState.{StoppedState, before_stop}
use Rattle.engine_core.specs.Stepping.{IsOutAt, IsStep, StopsAt}
use Rattle.engine_core.specs.TakingOver.{ArrivesAt, Becomes, Continues, LeadsBy, LeadsFrom, is_going, r0_onward}
use Rattle.engine_core.proofs.Going.{arrives_at, goes_as, is_admitted}
use Rattle.engine_core.proofs.StopEnds.{code_of}
use Rattle.engine_core.proofs.Performing.{given_so, gives_advanced, r0_same, takes_over}

-- what was executed of the run at this place, by the program of its queue
pub stops_at : (setup : Setup) (runs : List LiveRun) (place : ℕ) (out : IsOutAt runs place) (v : Verdict) (from to : MachineState) (steps : ℕ) (stop : Stop) → v.program ≡ out.it.program → v.budget ≡ (queue_setup setup out.it.queue).budget → v.limits ≡ setup.limits → from ≡ out.it.machine → ((n : ℕ) × Reached v.program n from) → IsSegment (stretch v from to steps) → IsWithinBudget (stretch v from to steps) → stop_at v.program to ≡ Some stop → StopsAt setup runs place to steps stop
stops_at setup runs place out v from to steps stop program budget limits machine reached is within stops = record {
  next = record {
    out = out;
    run = record { number = out.it.number; segment = stretch v from to steps };
    again = record { number = refl; program = program; machine = machine; budget = budget; limits = limits };
    stopped = record { segment = is; reached = reached };
    within = within;
  };
  ends = record { segment_is = is; machine_is = refl; stop_is = ap stop_there stops };
  steps_is = refl;
}

module _ (setup : Setup) (transport more : Transport) (runs after : RunsState) (place : ℕ) (to : MachineState) (steps : ℕ) (stop : Stop) (at : StopsAt setup runs.runs.list place to steps stop) where
  run : StoppedState
  run = at.next.run

  found : run_of at.next.run.number runs.runs.list ≡ Some at.next.out.it
  found = ap (λ (n : ℕ). run_of n runs.runs.list) at.next.again.number ∙ at.next.out.found

  pub out_so : IsOutWith runs.runs.list at.next.run.number at.next.run.segment.program.program at.next.run.segment.from
  out_so = record { it = at.next.out.it; found = found; recorded = (at.next.out.out, at.next.again.program, at.next.again.machine) }

  pub placed_so : IsPlaced runs.runs.list at.next.run.number place
  placed_so = (at.next.out.it, found, at.next.out.there)

  performs : (number : ℕ) (told_stop : StoppedAt) (r0 : ℕ) (answer : AdvanceAnswer) → number ≡ at.next.out.it.number → told_stop ≡ stopped_at stop → r0_of answer ≡ r0 → LeadsFrom to stop r0 place transport runs more after → HoldEntries more.freezes after → Becomes at.next.run answer runs.runs.list after.runs.list place
      → Performs setup (events.Advance at.next.run) transport runs more after (Success (given_advanced answer)) (Advance number steps told_stop r0)
  performs number told_stop r0 answer named told r0_is leads holds becomes =
      takes_over setup transport more runs after at.next.run place number steps told_stop r0 (given_advanced answer)
      (named ∙ sym at.next.again.number) (sym at.steps_is) (told ∙ ap stopped_at (sym at.ends.stop_is)) holds (r0_same answer ∙ r0_is) (gives_advanced answer) out_so placed_so
      (subst (λ (s : Stop). LeadsBy (stopped_at s) r0 place at.next.run.segment transport runs more after) (sym at.ends.stop_is) (leads at.next.run.segment at.ends))
      (given_so setup transport more runs after at.next.run place answer out_so placed_so becomes)

  tells : (number : ℕ) (told_stop : StoppedAt) (r0 : ℕ) → number ≡ at.next.out.it.number → told_stop ≡ stopped_at stop → Advance number steps told_stop r0 ≡ Advance at.next.run.number at.next.run.segment.steps (stopped_at at.next.run.segment.stop) r0
  tells number told_stop r0 named told = rw (named, sym at.next.again.number, sym at.steps_is, told, sym at.ends.stop_is) refl

  pub stepped : (onward : Onward) (number : ℕ) (told_stop : StoppedAt) → number ≡ at.next.out.it.number → told_stop ≡ stopped_at stop → LeadsFrom to stop (r0_onward onward) place transport runs more after → Continues onward to stop runs.runs.list after.runs.list place → HoldEntries more.freezes after
      → IsStep setup transport runs place more after (record { instructions = steps; r0 = r0_onward onward; goes_on = is_going onward }) (Advance number steps told_stop (r0_onward onward))
  stepped (onward.Goes r0 spare) number told_stop named told leads on holds = record {
    next = at.next;
    answer = advances.Goes (record (before_stop at.next.run) { machine = on.machine }) r0;
    steps_is = sym at.steps_is;
    r0_is = refl;
    told_is = tells number told_stop r0 named told;
    performs = λ history kept. performs number told_stop r0 (advances.Goes (record (before_stop at.next.run) { machine = on.machine }) r0) named told refl leads holds
        (goes_as at.next.run (record (before_stop at.next.run) { machine = on.machine }) to stop runs.runs.list after.runs.list place on (sym at.ends.machine_is) at.ends.stop_is refl);
    goes_on = (on.stands at.next.out.it at.next.out.there, on.found at.next.out.it.number at.next.out.it at.next.out.there at.next.out.found, on.reached at.next.run.segment at.ends);
  }
  stepped (onward.Ended r0 spare) number told_stop named told leads ends holds = record {
    next = at.next;
    answer = advances.Ended r0;
    steps_is = sym at.steps_is;
    r0_is = refl;
    told_is = tells number told_stop r0 named told;
    performs = λ history kept. performs number told_stop r0 (advances.Ended r0) named told refl leads holds (at.ends.stop_is ∙ ends);
    goes_on = at.ends.stop_is ∙ ends;
  }

  pub arrives_so : (history : List Record) → KeepsEngine setup history transport runs → ArrivesAt transport runs place to stop
  arrives_so history kept = arrives_at setup history transport runs at.next.run place to stop kept out_so placed_so at.next.stopped (sym at.ends.machine_is) at.ends.stop_is

  pub codes_so : (history : List Record) → KeepsEngine setup history transport runs → StopsByCode stop
  codes_so history kept =
      subst StopsByCode at.ends.stop_is (code_of transport runs place at.next.run.segment at.next.stopped.segment at.next.run.number (is_admitted setup history transport runs at.next.run.number place at.next.run.segment kept out_so placed_so))
