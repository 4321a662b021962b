use Rattle.std.proofs.Common.{◌≡◌, ℕ, List, Option, Ok, Err, refl, subst}
use Rattle.std.specs.Prelude.{option_map}
use Rattle.host_live.specs.Inputs.{CameState}
use Rattle.host_journal.specs.Disks.{Held, Step}
use Rattle.host_journal.specs.Starts.{Opens}
use Rattle.cli_commands.specs.Journaling.{Starts, unopened}
use Rattle.cli_commands.specs.declared.serving.Outcome.TheVariants.{Ended}
use Rattle.cli_commands.proofs.Starting.{ended_of}
use Rattle.cli_commands.proofs.journaling.serve_owned.Goals as goal

pub returns-in-Ok-clause-starts : goal.returns-in-Ok-clause-starts
returns-in-Ok-clause-starts g c = λ held old same own finds entered.
    c.serve_opened.ensures.starts held old own (record {
      found = g.D.Disk.steps c.args.disk;
      finds = finds;
      entered = entered;
      opens = subst (λ (h : Held). Opens c.args.begun.now h (g.D.Disk.steps c.args.disk) (g.D.Disk.steps c.open.new.disk) (Ok c.in-Ok.recovered)) same c.in-Ok.ensures.opens;
      prepares = c.in-Ok.ensures.steps;
    })

pub returns-in-Err-clause-starts : goal.returns-in-Err-clause-starts
returns-in-Err-clause-starts g c = λ held old same own finds entered new last left status on.
    ended_of c.args.terms.manner c.args.terms.is_synced (Starts g.M.GivenManifest.may_read c.args.terms.manner c.args.terms.is_synced held (option_map (λ bytes. bytes.now) c.args.terms.given) old (g.I.Input.came c.args.input.now) (g.M.MetricsFile.counts c.args.given.now)) c.report.result (Ended c.report.result) _ _ c.args.lines.now _ new last left status refl
    (unopened c.args.begun.now (g.D.Disk.steps c.args.disk) (g.D.Disk.steps c.open.new.disk) c.in-Err.fault c.report.result finds entered (subst (λ (h : Held). Opens c.args.begun.now h (g.D.Disk.steps c.args.disk) (g.D.Disk.steps c.open.new.disk) (Err c.in-Err.fault)) same c.in-Err.ensures.opens) c.in-Err.ensures.steps c.report.ensures) on
