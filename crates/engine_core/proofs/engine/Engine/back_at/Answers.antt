use Rattle.std.proofs.Common.{◌≡◌, List, sym, subst}
use Rattle.bpf_insn.specs.declared.program.Slot.{Slot}
use Rattle.bpf_semantics.specs.Reached.{Reached}
use Rattle.engine_runs.specs.RunPlaces.{HasRunAt}
use Rattle.engine_core.specs.EngineState.{EngineState}
use Rattle.engine_core.specs.Stepping.{IsOutAt}
use Rattle.engine_core.specs.Settings.{setup_over}
use Rattle.engine_core.proofs.Parking.{known_run}
use Rattle.engine_core.proofs.engine.Engine.back_at.Goals as goal

pub with_machine-requires : goal.with_machine-requires
with_machine-requires c =
    let out : IsOutAt c.self.inside.parts.runs.runs.list c.args.place = subst (λ (s : EngineState). IsOutAt s.world.runs.list c.args.place) (sym c.self.view_is) c.requires.out in
    let known = known_run (setup_over c.self.inside.config c.self.inside.over.world) c.self.inside.history.records c.self.inside.parts.transport c.self.inside.parts.runs out.it.number out.it c.self.invariant.0 out.found in
    let program : c.args.run.program.program ≡ out.it.program = c.requires.program out.it (subst (λ (s : EngineState). HasRunAt s.world.runs.list c.args.place out.it) c.self.view_is out.there) in
    (known.reached.0, subst (λ (p : List Slot). Reached p known.reached.0 c.machine.result.now) (sym program) (subst (Reached out.it.program known.reached.0) (sym (c.machine.ensures out.it out.there)) known.reached.1))
