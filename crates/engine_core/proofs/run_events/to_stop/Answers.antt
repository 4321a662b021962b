use Rattle.std.proofs.Common.{◌≡◌, List, ap, refl, sym, subst, ◌∙◌, arith}
use Rattle.bpf_accepted.specs.Verdict.{Verdict}
use Rattle.bpf_insn.specs.declared.program.Slot.{Slot}
use Rattle.bpf_semantics.specs.Reached.{Reached}
use Rattle.bpf_semantics.specs.Stops.{stop_at}
use Rattle.engine_core.proofs.Parking.{known_run}
use Rattle.engine_core.proofs.Stepping.{stops_at}
use Rattle.engine_core.proofs.run_events.to_stop.Goals as goal

pub program-program-requires : goal.program-program-requires
program-program-requires c =
    let known = known_run c.args.setting.now c.requires.of.1 c.requires.of.0 c.args.runs.now c.requires.out.it.number c.requires.out.it c.requires.of.2 c.requires.out.found in
    omega (arith, known.queue, c.queue.ensures c.requires.out.it c.requires.out.there)

pub go_to_stop-instructions-requires : goal.go_to_stop-instructions-requires
go_to_stop-instructions-requires c =
    let it = c.requires.out.it in
    let known = known_run c.args.setting.now c.requires.of.1 c.requires.of.0 c.args.runs.now it.number it c.requires.of.2 c.requires.out.found in
    let program : c.deref.result.now.program ≡ it.program = ap (λ (v : Verdict). v.program) c.deref.ensures ∙ (c.program-program.ensures.program ∙ (rw (c.queue.ensures it c.requires.out.there) (sym known.program))) in
    let machine : c.copy_from.new.self ≡ it.machine = c.copy_from.ensures ∙ c.machine.ensures it c.requires.out.there in
    (known.reached.0, subst (λ (p : List Slot). Reached p known.reached.0 c.copy_from.new.self) (sym program) (subst (Reached it.program known.reached.0) (sym machine) known.reached.1))

pub returns : goal.returns
returns c =
    let it = c.requires.out.it in
    let known = known_run c.args.setting.now c.requires.of.1 c.requires.of.0 c.args.runs.now it.number it c.requires.of.2 c.requires.out.found in
    let queue = c.queue.ensures it c.requires.out.there in
    let program : c.deref.result.now.program ≡ it.program = ap (λ (v : Verdict). v.program) c.deref.ensures ∙ (c.program-program.ensures.program ∙ (rw queue (sym known.program))) in
    let machine : c.copy_from.new.self ≡ it.machine = c.copy_from.ensures ∙ c.machine.ensures it c.requires.out.there in
    let same : c.deref-2.result.now ≡ c.deref.result.now = c.deref-2.ensures ∙ sym c.deref.ensures in
    stops_at c.args.setting.now c.args.runs.now.runs.list c.args.place c.requires.out c.deref.result.now c.copy_from.new.self c.go_to_stop-instructions.new.machine c.go_to_stop-instructions.result c.stop_of.result
    program
    (ap (λ (v : Verdict). v.budget) c.deref.ensures ∙ (c.program-program.ensures.budget ∙ (rw queue refl)))
    (ap (λ (v : Verdict). v.limits) c.deref.ensures ∙ c.program-program.ensures.limits)
    machine
    (known.reached.0, subst (λ (p : List Slot). Reached p known.reached.0 c.copy_from.new.self) (sym program) (subst (Reached it.program known.reached.0) (sym machine) known.reached.1))
    c.go_to_stop-instructions.ensures.segment
    c.go_to_stop-instructions.ensures.budget
    (ap (λ (v : Verdict). stop_at v.program c.go_to_stop-instructions.new.machine) (sym same) ∙ c.stop_of.ensures)
