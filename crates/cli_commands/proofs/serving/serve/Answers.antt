use Rattle.std.proofs.Common.{refl}
use Rattle.cli_commands.specs.Alone.{none_served, was_served}
use Rattle.cli_commands.proofs.Alone.{no_zero, trace_first}
use Rattle.cli_commands.proofs.Served.{keeps_same}
use Rattle.cli_commands.proofs.serving.serve.Goals as goal

pub returns-in-Ok-clause-served : goal.returns-in-Ok-clause-served
returns-in-Ok-clause-served g c = was_served c.in-Ok.first c.serve_all.ensures.served.0 _ _ _ _ _ _ c.serve_all.result c.in-Ok.ensures.first c.serve_all.ensures.served.1 c.serve_all.ensures.served.2

pub returns-in-Ok-clause-done : goal.returns-in-Ok-clause-done
returns-in-Ok-clause-done g c = λ none. (c.in-Ok.first.config, c.in-Ok.ensures.first.serving.0, c.in-Ok.ensures.first.serving.1)

pub returns-in-Err-clause-served : goal.returns-in-Err-clause-served
returns-in-Err-clause-served g c = none_served _ _ c.report.result (no_zero c.report.result c.report.ensures.status.0)

pub returns-in-Err-clause-nothing : goal.returns-in-Err-clause-nothing
returns-in-Err-clause-nothing g c = λ is. keeps_same (g.S.Outlet.bytes c.args.out.now)

pub returns-in-Ok-clause-accepted : goal.returns-in-Ok-clause-accepted
returns-in-Ok-clause-accepted g c = λ none. trace_first c.args.manifest.1.now c.args.manner c.in-Ok.first _ _ _ _ _ _ _ _ _ _ _ none c.in-Ok.ensures.first refl c.serve_all.ensures.served.2
