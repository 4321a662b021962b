use Rattle.std.proofs.Common.{◌≡◌, ℕ, List, Option, refl}
use Rattle.std.specs.Prelude.{option_map}
use Rattle.host_live.specs.Inputs.{CameState}
use Rattle.host_journal.specs.Disks.{Step}
use Rattle.cli_commands.specs.Journaling.{Starts, continued, unmade}
use Rattle.cli_commands.specs.declared.serving.Outcome.TheVariants.{Ended}
use Rattle.cli_commands.proofs.Starting.{ended_of}
use Rattle.cli_commands.proofs.journaling.serve_made.Goals as goal

pub returns-in-Ok-clause-starts : goal.returns-in-Ok-clause-starts
returns-in-Ok-clause-starts g c = λ held old own next new last left status on.
    continued c.args.next.now (g.D.Disk.held c.args.disk) c.in-Ok.recovered c.args.own.now (g.D.Disk.steps c.args.disk) (g.D.Disk.steps c.open.new.disk) _ new _ last c.args.lines.now _ _ left _ status next c.in-Ok.ensures.opens c.in-Ok.ensures.steps own c.requires.first c.serve_first.ensures.served on

pub returns-in-Err-clause-starts : goal.returns-in-Err-clause-starts
returns-in-Err-clause-starts g c = λ held old own next new last left status on.
    ended_of c.args.terms.manner c.args.terms.is_synced (Starts g.M.GivenManifest.may_read c.args.terms.manner c.args.terms.is_synced held (option_map (λ bytes. bytes.now) c.args.terms.given) old (g.I.Input.came c.args.input.now) (g.M.MetricsFile.counts c.args.given.now)) c.report.result (Ended c.report.result) _ _ c.args.lines.now _ new last left status refl
    (unmade c.args.next.now (g.D.Disk.held c.args.disk) (g.D.Disk.steps c.args.disk) (g.D.Disk.steps c.open.new.disk) c.in-Err.fault c.report.result next c.in-Err.ensures.opens c.in-Err.ensures.steps c.report.ensures) on
