-- What an admitted segment leads to: the world of its record, by the kind of its stop.
use Rattle.std.proofs.Common.{◌≡◌, ℕ, List, [], true, Some, refl, ap, sym, subst, ◌∙◌}
use Rattle.helpers.specs.declared.limits.HelperLimits.{HelperLimits}
use Rattle.helpers.specs.declared.request.Request.{Request}
use Rattle.helpers.specs.declared.request.Answer.{Answer}
use Rattle.bpf_semantics.specs.Calls.{meets_rule}
use Rattle.bpf_semantics.specs.declared.stop.Stop.{Stop}
use Rattle.bpf_semantics.specs.declared.stop.Stop.TheVariants.{Helper, Exit}
use Rattle.bpf_semantics.specs.MachineState.{MachineState}
use Rattle.bpf_semantics.specs.Step.{request_at, exit_at, answered}
use Rattle.bpf_semantics.specs.Stops.{stop_at}
use Rattle.bpf_semantics.specs.Reached.{PrivateSteps}
use Rattle.interpreter.specs.Segments.{SegmentState, IsSegment}
use Rattle.engine_core.specs.RunState.{IsOutAs}
use Rattle.bpf_insn.specs.declared.program.Slot.{Slot}
use Rattle.world_calls.specs.declared.record.StoppedAt.{StoppedAt}
use Rattle.world_calls.specs.declared.record.StoppedAt.TheVariants.{Exit as at_exit_stop}
use Rattle.world_calls.specs.declared.record.Record.TheVariants.{Advance}
use Rattle.world.specs.World.{Runs, Transport, Setup, LiveRun, World}
use Rattle.world.specs.Lawful.{IsLawful}
use Rattle.world.specs.Lookups.{run_of, with_run}
use Rattle.world.specs.Told.{Told, plain, traces, finishes, told_of}
use Rattle.world.specs.Event.{Instruction, call, executes, result}
use Rattle.world.specs.RunSteps.{goes_on, answers, ends}
use Rattle.world.specs.WorldRun.{Leads}
use Rattle.world.specs.Flat.{events_of, stop_of}
use Rattle.world.specs.Step.{WorldStep}
use Rattle.world.specs.Laws.FreezeLaws.{entries_of}
use Rattle.world.proofs.Lists.Found.{leave, put_same, put_put, leave_put, found_key}
use Rattle.world.proofs.Steps.Moves.{run_key}
use Rattle.world_laws.proofs.Sound.{IsSound, leads_sound}
use Rattle.engine_core.specs.Answers.{recorded}
use Rattle.engine_core.specs.TakingOver.{LeadsTo, IsCarriedOut, at_stop}
use Rattle.engine_core.proofs.PrivateWays.{with_machine, private_leads, advance_leads}
use Rattle.engine_core.proofs.Standing.{StandsLawfully, at_call, at_exit, stands_lawfully, call_step, exit_step, holds_nothing}

-- A live run that is out, and its segment: that all the world's laws hold where its private instructions lead, and how it
-- goes on from there.
pub record Arrives (setup : Setup) (world : World) (number : ℕ) (segment : SegmentState) (run : LiveRun) : Type 0 where
  pub number_is : run.number ≡ number
  pub out : run.out ≡ true
  pub there : run_of run.number (goes_on world run segment.to).runs.list ≡ Some (at_stop run segment)
  pub sound : IsSound setup (goes_on world run segment.to)
  pub stands : StandsLawfully (at_stop run segment) setup.limits segment.stop
  pub further : (after : World) (stop : StoppedAt) (r0 : ℕ) → WorldStep setup (goes_on world run segment.to) (executes run.number (stop_of stop)) (result r0) after → Leads setup world (events_of (Advance number segment.steps stop r0)) after

pub arrives : (setup : Setup) (world : World) (number : ℕ) (program : List Slot) (segment : SegmentState) → IsLawful setup → IsSound setup world → IsSegment segment → (out : IsOutAs world.runs.list number program segment) → Arrives setup world number segment out.it
arrives setup world number program segment lawful sound is admitted =
    let run : LiveRun = admitted.it in
    let named : run.number ≡ number = found_key run_key number world.runs.list run admitted.found in
    let found : run_of run.number world.runs.list ≡ Some run = subst (λ (n : ℕ). run_of n world.runs.list ≡ Some run) (sym named) admitted.found in
    let way : PrivateSteps run.program is.private run.machine segment.to =
    subst (λ (p : List Slot). PrivateSteps p is.private run.machine segment.to) admitted.next.segment_program_is
    (subst (λ (m : MachineState). PrivateSteps segment.program.program is.private m segment.to) admitted.next.start_is is.way) in
    let between : World = goes_on world run segment.to in
    let leads = private_leads setup is.private world world.runs.greatest run segment.to sound.kept.runs.rising found admitted.out way in
    let there : run_of run.number between.runs.list ≡ Some (at_stop run segment) = put_same run_key (at_stop run segment) world.runs.list run found in
    let sound_there = leads_sound setup world _ between lawful leads sound in
    let at : stop_at run.program segment.to ≡ Some segment.stop = subst (λ (p : List Slot). stop_at p segment.to ≡ Some segment.stop) admitted.next.segment_program_is is.stands in
    record {
      number_is = named;
      out = admitted.out;
      there = there;
      sound = sound_there;
      stands = stands_lawfully setup between run.number (at_stop run segment) segment.stop lawful sound_there there at;
      further = λ after stop r0 step.
          subst (λ (n : ℕ). Leads setup world (events_of (Advance n segment.steps stop r0)) after) named
          (advance_leads setup is.private segment.steps world between after run.number stop r0 is.count leads step);
    }

call_stop : (run : LiveRun) (limits : HelperLimits) (stop : Stop) (request : Request) → stop ≡ Helper request → StandsLawfully run limits stop → (request_at run.program run.machine ≡ Some request) × (meets_rule limits run.machine request ≡ true)
call_stop run limits stop request is (at_call other its call_is rule) =
    let both : Helper other ≡ Helper request = sym its ∙ is in
    let same : other ≡ request = cc in
    (call_is ∙ ap (λ (r : Request). Some r) same, subst (λ (r : Request). meets_rule limits run.machine r ≡ true) same rule)
call_stop run limits stop request is (at_exit r0 its exit_is none) = absurd (let bad : Exit r0 ≡ Helper request = sym its ∙ is in cc)

exit_stop : (run : LiveRun) (limits : HelperLimits) (stop : Stop) (r0 : ℕ) → stop ≡ Exit r0 → StandsLawfully run limits stop → (exit_at run.program run.machine ≡ Some r0) × (run.machine.held ≡ [])
exit_stop run limits stop r0 is (at_call other its call_is rule) = absurd (let bad : Helper other ≡ Exit r0 = sym its ∙ is in cc)
exit_stop run limits stop r0 is (at_exit other its exit_is none) =
    let both : Exit other ≡ Exit r0 = sym its ∙ is in
    let same : other ≡ r0 = cc in
    (exit_is ∙ ap (λ (n : ℕ). Some n) same, none)

-- it stands at its call, whose rule holds
pub called : (setup : Setup) (world : World) (number : ℕ) (segment : SegmentState) (run : LiveRun) (request : Request) → Arrives setup world number segment run → segment.stop ≡ Helper request → (request_at run.program segment.to ≡ Some request) × (meets_rule setup.limits segment.to request ≡ true)
called setup world number segment run request it stop = call_stop (at_stop run segment) setup.limits segment.stop request stop it.stands

-- what is told of a call is what the record of its advance says
told_is : (told : Told) → stop_of (recorded told) ≡ call told
told_is (plain helper) = refl
told_is (traces helper bytes) = refl
told_is (finishes helper code) = refl

-- a call that is carried out, and the run that goes on after it
pub call_leads : (setup : Setup) (world : World) (number : ℕ) (segment : SegmentState) (run : LiveRun) (request : Request) (given : Answer) (transport : Transport) (runs : Runs) → Arrives setup world number segment run → segment.stop ≡ Helper request → IsCarriedOut (goes_on world run segment.to) (at_stop run segment) request given transport (record runs { list = with_run (at_stop run segment) runs.list }) → LeadsTo setup world (events_of (Advance number segment.steps (recorded (told_of request)) given.r0)) transport (record runs { list = with_run (with_machine run (answered request given segment.to)) runs.list })
call_leads setup world number segment run request given transport runs it stop does =
    let standing : LiveRun = at_stop run segment in
    let made : LiveRun = with_machine run (answered request given segment.to) in
    let between : World = goes_on world run segment.to in
    let after : World = goes_on does.world standing (answered request given segment.to) in
    let stands = called setup world number segment run request it stop in
    let step = call_step setup between standing request (answers does.world standing request given) it.there it.out stands.0 stands.1 does.step in
    record {
      world = after;
      leads = it.further after (recorded (told_of request)) given.r0
          (subst (λ (i : Instruction). WorldStep setup between (executes run.number i) (result given.r0) after) (sym (told_is (told_of request))) step);
      is = ap (λ (w : World). record w { runs = record w.runs { list = with_run made w.runs.list } }) does.is
          ∙ ap (λ (list : List LiveRun). record after { transport = transport; runs = record runs { list = list } }) (put_put run_key standing made runs.list refl);
    }

-- the exit: no entry names the run
pub nothing_held : (setup : Setup) (world : World) (number : ℕ) (segment : SegmentState) (run : LiveRun) (r0 : ℕ) → Arrives setup world number segment run → segment.stop ≡ Exit r0 → entries_of run.number world.transport.freezes ≡ []
nothing_held setup world number segment run r0 it stop =
    let stands = exit_stop (at_stop run segment) setup.limits segment.stop r0 stop it.stands in
    holds_nothing setup (goes_on world run segment.to) (at_stop run segment) it.sound it.there stands.1

pub exit_leads : (setup : Setup) (world : World) (number : ℕ) (segment : SegmentState) (run : LiveRun) (r0 : ℕ) → Arrives setup world number segment run → segment.stop ≡ Exit r0 → Leads setup world (events_of (Advance number segment.steps at_exit_stop r0)) (record world { runs = record world.runs { list = leave run_key run.number world.runs.list } })
exit_leads setup world number segment run r0 it stop =
    let standing : LiveRun = at_stop run segment in
    let between : World = goes_on world run segment.to in
    let stands = exit_stop standing setup.limits segment.stop r0 stop it.stands in
    let step = exit_step setup between standing r0 it.there it.out stands.0 in
    let end : ends between standing ≡ record world { runs = record world.runs { list = leave run_key run.number world.runs.list } } =
    ap (λ (runs : List LiveRun). record world { runs = record world.runs { list = runs } }) (leave_put run_key standing world.runs.list) in
    subst (Leads setup world (events_of (Advance number segment.steps at_exit_stop r0))) end (it.further (ends between standing) at_exit_stop r0 step)
