use Rattle.std.proofs.Common.{◌≡◌, ℕ, List, Option, refl}
use Rattle.host_live.specs.Answering.{Answer}
use Rattle.host_live.specs.Inputs.{CameState}
use Rattle.cli_commands.specs.Alone.{GoesAlone, begun, not_begun}
use Rattle.cli_commands.specs.declared.serving.Outcome.TheVariants.{Ended, Followed}
use Rattle.cli_commands.proofs.Alone.{ended_alone, kept_answers}
use Rattle.cli_commands.proofs.serving.serve_next.Goals as goal

pub returns-in-Ok-clause-rest : goal.returns-in-Ok-clause-rest
returns-in-Ok-clause-rest g c = λ last at told left status on.
    begun c.args.next c.in-Ok.engine _ _ last c.args.lines.now _ _ (g.S.Outlet.bytes c.put_first.new.out) _ at _ _ told _ _ left _ status c.in-Ok.ensures.first c.in-Ok.ensures.put
    (kept_answers _ _ _ _ _ _ _ _ _ _ _ _ _ _ _ _ _ c.put_first.ensures.answers (rw c.as_slice-own.ensures.value at c.serve_begun.ensures.served)) on

pub returns-clause-rest : goal.returns-clause-rest
returns-clause-rest g c = λ last at told left status on.
    ended_alone c.args.manner (GoesAlone g.M.GivenManifest.may_read c.args.manner (Followed c.args.next) (g.I.Input.came c.args.input.now) c.args.lines.now (g.S.Outlet.bytes c.args.out.now) (g.S.Outlet.answers c.args.out.now) (g.M.MetricsFile.counts c.args.given.now)) c.report.result (Ended c.report.result) _ c.args.lines.now _ _ _ last at told left status refl
    (rw c.report.ensures (rw c.put_first.ensures.answers (not_begun c.args.next _ c.args.lines.now _ (g.S.Outlet.bytes c.put_first.new.out) _ (g.M.MetricsFile.counts c.args.given.now) c.in-Err.ensures.part))) on
