use Rattle.std.proofs.Common.{◌≡◌, ℕ, List, Option, refl, subst, sym}
use Rattle.std.specs.Prelude.{MatchOption, option_map}
use Rattle.host_live.specs.Inputs.{CameState}
use Rattle.host_journal.specs.Disks.{Step}
use Rattle.cli_commands.specs.Journaling.{Starts, unfollowed}
use Rattle.cli_commands.specs.declared.serving.Outcome.TheVariants.{Ended}
use Rattle.cli_commands.proofs.Starting.{ended_of}
use Rattle.cli_commands.proofs.journaling.serve_following.Goals as goal

pub returns-in-Ok-clause-starts : goal.returns-in-Ok-clause-starts
returns-in-Ok-clause-starts g c = λ held old which opened.
    c.serve_made.ensures.starts held old
    (subst (λ (own : List ℕ). MatchOption c.in-Ok.next.manifest ⊥ (λ bytes. bytes.now ≡ own)) (sym c.bytes.ensures) c.in-Ok.ensures.follows.manifest_is)
    (record { begun = c.args.begun.now; recovered = c.args.recovered.now; opened = opened; is_ended = c.requires.shut; manifest = c.args.manifest; which = which; is_next = c.in-Ok.ensures.follows })

pub returns-in-Err-clause-starts : goal.returns-in-Err-clause-starts
returns-in-Err-clause-starts g c = λ held old which opened new last left status on.
    ended_of c.args.terms.manner c.args.terms.is_synced (Starts g.M.GivenManifest.may_read c.args.terms.manner c.args.terms.is_synced held (option_map (λ bytes. bytes.now) c.args.terms.given) old (g.I.Input.came c.args.input.now) (g.M.MetricsFile.counts c.args.given.now)) c.report.result (Ended c.report.result) _ _ c.args.lines.now _ new last left status refl
    (unfollowed c.args.begun.now c.args.recovered.now (g.D.Disk.steps c.args.disk) c.in-Err.fault c.report.result opened c.requires.shut (record { manifest = c.args.manifest; which = which; not_next = c.in-Err.ensures.refused }) c.report.ensures) on
