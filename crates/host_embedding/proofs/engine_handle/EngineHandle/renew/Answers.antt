use Rattle.std.proofs.Common.{◌≡◌, ◌∙◌, [], refl, subst}
use Rattle.engine_core.specs.EngineState.{EngineState, IsRun}
use Rattle.engine_core.specs.Settings.{setup_over}
use Rattle.host_embedding.proofs.Following.{fits_itself, its_configuration, renewed}
use Rattle.host_embedding.proofs.engine_handle.EngineHandle.renew.Goals as goal

pub returns-in-Ok : goal.returns-in-Ok
returns-in-Ok c =
    let run : IsRun c.args.self.now = subst IsRun c.self.view_is c.self.invariant.0.run in
    let over : setup_over c.config-config.result.now c.args.self.now.setup.carried ≡ c.args.self.now.setup =
    subst (λ (s : EngineState). setup_over c.config-config.result.now s.setup.carried ≡ s.setup) c.self.view_is c.config-config.ensures in
    renewed c.succeed.result c.args.numbering c.args.self.now c.in-Ok.config c.succeed.new.self run (c.if-not-has_no_run.ensures.0 refl)
    (c.in-Ok.ensures ∙ its_configuration c.args.self.now c.config-config.result.now over c.queues.ensures.alone) c.succeed.ensures

pub returns-in-Err : goal.returns-in-Err
returns-in-Err c =
    let run : IsRun c.args.self.now = subst IsRun c.self.view_is c.self.invariant.0.run in
    let none : c.args.self.now.world.runs.list ≡ [] = c.if-not-has_no_run.ensures.0 refl in
    ((record { no_run = none; fits = fits_itself c.args.self.now run none }, refl), λ told. cc)
