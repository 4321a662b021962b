use Rattle.std.proofs.Common.{◌≡◌, IfSome, ap, subst, ◌∙◌}
use Rattle.bpf_accepted.specs.Verdict.{Verdict}
use Rattle.engine_core.specs.EngineState.{EngineState}
use Rattle.engine_core.specs.Stepping.{IsRunAt}
use Rattle.engine_core.proofs.Driven.{run_at}
use Rattle.engine_core.proofs.engine.Engine.place_of_run.Goals as goal

pub returns-clause-place : goal.returns-clause-place
returns-clause-place c =
    let program : c.deref.result.now.program ≡ c.args.run.now.program.program = ap (λ (v : Verdict). v.program) (c.deref.ensures ∙ c.program.ensures) in
    subst (λ (s : EngineState). IfSome c.admit_run.result (IsRunAt s.world.runs.list c.args.run.now)) c.self.view_is
    (run_at c.admit_run.result c.self.inside.parts.runs.runs.list c.args.run.now
    (rw (← c.number.ensures, ← program, ← c.machine.ensures.value) c.admit_run.ensures.admitted)
    (rw (← c.number.ensures) c.admit_run.ensures.place))
