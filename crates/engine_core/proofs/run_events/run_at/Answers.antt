use Rattle.std.proofs.Common.{◌≡◌, List, refl, ap, sym, subst, ◌∙◌, arith}
use Rattle.std.specs.Arc.{arc_value}
use Rattle.bpf_accepted.specs.Verdict.{Verdict}
use Rattle.bpf_insn.specs.declared.program.Slot.{Slot}
use Rattle.bpf_semantics.specs.Reached.{Reached}
use Rattle.engine_runs.specs.RunsState.{RunsState}
use Rattle.engine_runs.specs.RunPlaces.{HasRunAt}
use Rattle.engine_core.proofs.Parking.{known_run}
use Rattle.engine_core.proofs.Numbered.{stands_once}
use Rattle.engine_core.proofs.run_events.run_at.Goals as goal

pub program-requires : goal.program-requires
program-requires c =
    let of = c.requires.of in
    let there = c.requires.place in
    let known = known_run c.args.setting.now of.1 of.0 c.args.runs.now there.0 there.1.0 of.2 there.1.1 in
    omega (arith, known.queue, c.queue.ensures there.1.0 there.1.2)

-- the run stands where it stood while places for its machines were taken

pub new-requires : goal.new-requires
new-requires c =
    let of = c.requires.of in
    let there = c.requires.place in
    let stands = subst (λ (r : RunsState). HasRunAt r.runs.list c.args.place there.1.0) (sym (c.place_for_machine-2.ensures ∙ c.place_for_machine.ensures)) there.1.2 in
    let known = known_run c.args.setting.now of.1 of.0 c.args.runs.now there.0 there.1.0 of.2 there.1.1 in
    let given : (arc_value c.in_ok-program.program).program ≡ (arc_value c.program.result.now).program = ap (λ (v : Verdict). v.program) c.in_ok-program.ensures in
    let program : (arc_value c.in_ok-program.program).program ≡ there.1.0.program = given ∙ (c.program.ensures.program ∙ (rw (c.queue.ensures there.1.0 there.1.2) (sym known.program))) in
    let machine : c.copy_from.new.self ≡ there.1.0.machine = c.copy_from.ensures ∙ c.machine.ensures there.1.0 stands in
    (known.reached.0, subst (λ (p : List Slot). Reached p known.reached.0 c.copy_from.new.self) (sym program) (subst (Reached there.1.0.program known.reached.0) (sym machine) known.reached.1))

pub returns-clause-again : goal.returns-clause-again
returns-clause-again c = λ it here.
    let of = c.requires.of in
    let there = c.requires.place in
    let same = stands_once c.args.runs.now.runs.list c.args.place there.1.0 it there.1.2 here in
    let stands = subst (λ (r : RunsState). HasRunAt r.runs.list c.args.place it) (sym (c.place_for_machine-2.ensures ∙ c.place_for_machine.ensures)) here in
    let known = known_run c.args.setting.now of.1 of.0 c.args.runs.now there.0 there.1.0 of.2 there.1.1 in
    let queue = c.queue.ensures it here in
    let made = c.in_ok-program.ensures in
    rw c.new.ensures (record {
      number = c.number.ensures it stands;
      program = ap (λ (v : Verdict). v.program) made ∙ (c.program.ensures.program ∙ (rw (queue, ← same) (sym known.program)));
      machine = c.copy_from.ensures ∙ c.machine.ensures it stands;
      budget = ap (λ (v : Verdict). v.budget) made ∙ (c.program.ensures.budget ∙ (rw queue refl));
      limits = ap (λ (v : Verdict). v.limits) made ∙ c.program.ensures.limits;
    })
