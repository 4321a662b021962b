use Rattle.std.proofs.Common.{◌≡◌, ℕ, List, Option, Some, refl}
use Rattle.host_live.specs.Inputs.{CameState}
use Rattle.host_journal.specs.Disks.{Step}
use Rattle.cli_commands.specs.Journaling.{ServesOn, made, not_made}
use Rattle.cli_commands.specs.declared.serving.Outcome.TheVariants.{Ended, Followed}
use Rattle.cli_commands.proofs.Starting.{ended_of, owned_served}
use Rattle.cli_commands.proofs.journaling.serve_next.Goals as goal

pub returns-in-Ok-clause-rest : goal.returns-in-Ok-clause-rest
returns-in-Ok-clause-rest g c = λ new last left status on.
    made c.args.next _ (g.D.Disk.held c.args.disk) c.in-Ok.recovered (g.D.Disk.steps c.args.disk) (g.D.Disk.steps c.open.new.disk) _ new _ _ last c.args.lines.now _ _ _ left _ status (record { number = refl; config = refl; manifest = c.as_slice-own.ensures.value; carried = refl }) c.in-Ok.ensures.opens c.in-Ok.ensures.steps (owned_served _ _ _ _ _ _ _ _ _ _ _ _ _ _ _ _ _ _ c.as_slice-own.ensures.value c.number.ensures c.serve_engine.ensures.served) on

pub returns-clause-rest : goal.returns-clause-rest
returns-clause-rest g c = λ new last left status on.
    ended_of c.args.terms.manner c.args.terms.is_synced (ServesOn g.M.GivenManifest.may_read c.args.terms.manner c.args.terms.is_synced (Followed c.args.next) (g.D.Disk.steps c.args.disk) (g.I.Input.came c.args.input.now) c.args.lines.now (g.M.MetricsFile.counts c.args.given.now)) c.report.result (Ended c.report.result) _ _ c.args.lines.now _ new last left status refl
    (not_made c.args.next (record { number = c.args.next.number; config = c.args.next.config; manifest = Some (record { ref_ptr = c.as_slice-own.result.ref_ptr; now = c.as_slice-own.result.now }); carried = c.args.next.carried }) (g.D.Disk.held c.args.disk) (g.D.Disk.steps c.args.disk) (g.D.Disk.steps c.open.new.disk) _ c.args.lines.now _ c.in-Err.fault c.report.result (record { number = refl; config = refl; manifest = c.as_slice-own.ensures.value; carried = refl }) c.in-Err.ensures.opens c.in-Err.ensures.steps c.report.ensures) on
