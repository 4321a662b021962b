use Rattle.std.proofs.Common.{refl}
use Rattle.cli_commands.specs.Journaling.{refused}
use Rattle.cli_commands.proofs.Starting.{no_end, served_then, starts_so}
use Rattle.cli_commands.proofs.journaling.serve_journal.Goals as goal

pub returns-in-Ok-clause-starts : goal.returns-in-Ok-clause-starts
returns-in-Ok-clause-starts g c =
    starts_so c.args.manner c.args.is_synced (g.D.Disk.held c.args.disk) (g.D.Disk.held c.begin.new.disk) _ _ (g.D.Disk.steps c.args.disk) (g.D.Disk.steps c.serve_rest.result.0) _ _ _ _ c.serve_rest.result.1 c.begin.ensures.held c.bytes_of.ensures
    (c.serve_begun-disk.ensures.starts (g.D.Disk.held c.begin.new.disk) (g.D.Disk.steps c.args.disk) refl c.in-Ok.ensures.found c.in-Ok.ensures.steps _ _ _ _ c.serve_rest.ensures.rest)

pub returns-in-Err-clause-starts : goal.returns-in-Err-clause-starts
returns-in-Err-clause-starts g c =
    starts_so c.args.manner c.args.is_synced (g.D.Disk.held c.args.disk) (g.D.Disk.held c.begin.new.disk) _ _ (g.D.Disk.steps c.args.disk) (g.D.Disk.steps c.begin.new.disk) _ _ _ _ c.report.result c.begin.ensures.held c.bytes_of.ensures
    (refused _ c.in-Err.fault _ c.in-Err.ensures.refused c.in-Err.ensures.steps c.report.ensures)

pub returns-in-Err-clause-read : goal.returns-in-Err-clause-read
returns-in-Err-clause-read g c = no_end c.in-Err.fault c.report.result c.report.ensures

pub returns-in-Err-clause-ended : goal.returns-in-Err-clause-ended
returns-in-Err-clause-ended g c = λ told. no_end c.in-Err.fault c.report.result c.report.ensures
