-- what was served so far
use Rattle.std.proofs.Common.{◌≡◌, ℕ, Bool, false, List, Option}
use Rattle.std.specs.Prelude.{◌+◌, ◌-◌, ◌^◌, IsTrue}
use Rattle.host_metrics.specs.Counted.{MetricsState}
use Rattle.host_live.specs.Inputs.{CameState}
use Rattle.host_live.specs.Turns.{IsSomewhere}
use Rattle.host_journal.specs.Disks.{Step}
use Rattle.cli_commands.specs.Journaling.{HasStatus, IfEnded, IfFollowed, IfServed, ServesOn}
use Rattle.cli_commands.specs.declared.serving.Outcome.{Outcome}
use Rattle.cli_commands.specs.declared.serving.Outcome.TheVariants.{Ended, Followed}
use Rattle.cli_commands.proofs.journaling.serve_rest.Given as goal

abbrev pub invariant-loop-outcome : goal.invariant-loop-outcome
invariant-loop-outcome g l = record {
  rest : (new : Option (List Step)) (last : Option CameState) (left : MetricsState) (status : ℕ) → ServesOn g.M.GivenManifest.may_read l.terms.manner l.terms.is_synced l.outcome (g.D.Disk.steps l.disk) (g.I.Input.came l.input) l.lines (g.M.MetricsFile.counts l.given) new last left status
      → ServesOn g.M.GivenManifest.may_read l.terms.manner l.terms.is_synced l.fn.outcome (g.D.Disk.steps l.fn.disk) (g.I.Input.came l.fn.input) l.fn.lines (g.M.MetricsFile.counts l.fn.given) new last left status;
  going : IfFollowed l.outcome (IsTrue l.lines.is_ended → IsTrue (g.I.Input.has_ended l.input));
  stands : IfFollowed l.outcome (IsSomewhere (g.I.Input.came l.input) l.lines);
  status : HasStatus l.outcome;
  read : (failed : Bool) → IfServed l.fn.outcome (g.I.Input.has_failed l.fn.input ≡ failed) → IfServed l.outcome (g.I.Input.has_failed l.input ≡ failed);
  ended : l.terms.manner.is_told ≡ false → IfEnded l.fn.outcome (IsTrue (g.I.Input.has_ended l.fn.input)) → IfEnded l.outcome (IsTrue (g.I.Input.has_ended l.input));
}

-- how many numbers are left for what follows
abbrev pub left_for : Outcome → ℕ
left_for (Ended status) = 0
left_for (Followed next) = (2 ^ 64 - next.number) + 1

abbrev pub decreases-loop-outcome : goal.decreases-loop-outcome
decreases-loop-outcome g l = left_for l.outcome
