use Rattle.std.proofs.Common.{◌≡◌, ◌∙◌, ap, sym, subst}
use Rattle.std.proofs.lemmas.Result.{err_from_is_err_and}
use Rattle.scenario.specs.Said.{IfFault, IsFaultyLine, Say, lines_of}
use Rattle.world.specs.World.{version_of}
use Rattle.world_calls.specs.Versions.{version_in}
use Rattle.world_calls.specs.declared.trace.Version.{Version}
use Rattle.cli_commands.proofs.Rejected.{of_manifest_beside_scenario, of_run, of_scenario, said_by, scenario_read}
use Rattle.cli_commands.proofs.carrying.carried_out.Goals as goal

pub returns-clause-accepted : goal.returns-clause-accepted
returns-clause-accepted g c =
    scenario_read c.in_ok-manifest.manifest.now c.in_ok-scenario.scenario.now c.args.manifest.1.now c.args.scenario.1.now c.in_ok-manifest-2.manifest.config _ c.in_ok-steps.steps c.of-version.result (c.of-version.ensures ∙ ap version_in c.helpers.ensures)
    c.in_ok-manifest-2.ensures.found c.in_ok-manifest.ensures.0 c.in_ok-steps.ensures.said c.in_ok-scenario.ensures.0

pub returns-clause-said : goal.returns-clause-said
returns-clause-said g c =
    let version = (c.of-version.ensures ∙ ap version_in c.helpers.ensures) ∙ sym c.in_ok-trace.ensures.trace.version_is in
    said_by c.in_ok-scenario.scenario.now c.args.scenario.1.now c.in_ok-steps.steps c.of-version.result c.in_ok-trace.trace.version version c.in_ok-steps.ensures.said c.in_ok-scenario.ensures.0

pub returns-in_err-manifest-2-clause-fault : goal.returns-in_err-manifest-2-clause-fault
returns-in_err-manifest-2-clause-fault g c =
    let answer = err_from_is_err_and c.from_residual-in_err-manifest-2.result c.from_residual-in_err-manifest-2.ensures.1 in
    rw (answer.1, answer.2) (of_manifest_beside_scenario c.in_err-manifest-2.field-0.0 c.in_ok-manifest.manifest.now c.args.manifest.1.now c.args.scenario.1.now c.in_err-manifest-2.ensures.fault c.in_ok-manifest.ensures.0)

pub returns-in_err-steps-clause-fault : goal.returns-in_err-steps-clause-fault
returns-in_err-steps-clause-fault g c =
    let version : c.of-version.result ≡ version_of c.in_ok-manifest-2.manifest.config = c.of-version.ensures ∙ ap version_in c.helpers.ensures in
    let told = subst (λ (v : Version). IfFault (IsFaultyLine v c.in_ok-scenario.scenario.now) c.in_err-steps.field-0.0) version c.in_err-steps.ensures.faulty in
    let answer = err_from_is_err_and c.from_residual-in_err-steps.result c.from_residual-in_err-steps.ensures.1 in
    rw (answer.1, answer.2) (of_scenario c.in_err-steps.field-0.0 c.in_ok-manifest.manifest.now c.in_ok-scenario.scenario.now c.args.manifest.1.now c.args.scenario.1.now c.in_ok-manifest-2.manifest.config _
    told c.in_ok-manifest-2.ensures.found c.in_ok-manifest.ensures.0 c.in_ok-scenario.ensures.0)

pub returns-in_err-trace-clause-fault : goal.returns-in_err-trace-clause-fault
returns-in_err-trace-clause-fault g c =
    let version : c.of-version.result ≡ version_of c.in_ok-manifest-2.manifest.config = c.of-version.ensures ∙ ap version_in c.helpers.ensures in
    let said = subst (λ (v : Version). Say v (lines_of c.in_ok-scenario.scenario.now) c.in_ok-steps.steps) version c.in_ok-steps.ensures.said in
    let error = c.in_err-trace.field-0.0 in
    let told = c.in_err-trace.ensures.fault in
    let answer = err_from_is_err_and c.from_residual-in_err-trace.result c.from_residual-in_err-trace.ensures.1 in
    rw (answer.1, answer.2) (of_run error c.in_ok-manifest.manifest.now c.in_ok-scenario.scenario.now c.args.manifest.1.now c.args.scenario.1.now c.in_ok-manifest-2.manifest.config _ c.in_ok-steps.steps told c.in_ok-manifest-2.ensures.found c.in_ok-manifest.ensures.0 said c.in_ok-scenario.ensures.0)
