use Rattle.std.proofs.Common.{◌≡◌, ◌∙◌, ℕ, List, Option, refl, subst, sym}
use Rattle.std.specs.Prelude.{option_map}
use Rattle.host_live.specs.Inputs.{CameState}
use Rattle.host_journal.specs.Disks.{Held, IsText, Step}
use Rattle.host_journal.specs.Starts.{HasEntered}
use Rattle.cli_commands.specs.Journaling.{Starts, unread}
use Rattle.cli_commands.specs.declared.serving.Outcome.TheVariants.{Ended}
use Rattle.cli_commands.proofs.Starting.{ended_of}
use Rattle.cli_commands.proofs.journaling.serve_found.Goals as goal

pub returns-in-Ok-clause-starts : goal.returns-in-Ok-clause-starts
returns-in-Ok-clause-starts g c = λ held old same finds entered.
    c.serve_owned.ensures.starts held old (c.manifest_of.ensures.held ∙ same)
    (rw c.requires.there (subst (λ (h : Held). IsText (h.manifests c.args.begun.now.number) c.as_slice.result.now) same (subst (λ (bytes : List ℕ). IsText ((g.D.Disk.held c.args.disk).manifests c.args.begun.now.number) bytes) (sym c.as_slice.ensures.value) c.in-Ok.ensures.bytes)))
    finds (subst (HasEntered (option_map (λ bytes. bytes.now) c.args.terms.given) old) (sym c.in-Ok.ensures.steps) entered)

pub returns-in-Err-clause-starts : goal.returns-in-Err-clause-starts
returns-in-Err-clause-starts g c = λ held old same finds entered new last left status on.
    ended_of c.args.terms.manner c.args.terms.is_synced (Starts g.M.GivenManifest.may_read c.args.terms.manner c.args.terms.is_synced held (option_map (λ bytes. bytes.now) c.args.terms.given) old (g.I.Input.came c.args.input.now) (g.M.MetricsFile.counts c.args.given.now)) c.report.result (Ended c.report.result) _ _ c.args.lines.now _ new last left status refl
    (unread c.args.begun.now (g.D.Disk.steps c.args.disk) (g.D.Disk.steps c.manifest_of.new.disk) c.in-Err.fault c.report.result finds entered c.in-Err.ensures.steps c.report.ensures) on
