-- what was served so far
use Rattle.std.proofs.Common.{◌≡◌, ℕ, false, List, Option}
use Rattle.std.specs.Prelude.{◌+◌, ◌-◌, ◌^◌, IsTrue}
use Rattle.host_metrics.specs.Counted.{MetricsState}
use Rattle.host_live.specs.Answering.{Answer}
use Rattle.host_live.specs.Inputs.{CameState}
use Rattle.host_live.specs.Turns.{IsSomewhere}
use Rattle.host_live.specs.declared.lines.Lines.{Lines}
use Rattle.cli_commands.specs.Alone.{GoesAlone, HasStatusAlone}
use Rattle.cli_commands.specs.Journaling.{IfEnded, IfFollowed, IfServed, IsFirstLines}
use Rattle.cli_commands.specs.declared.serving.Outcome.{Outcome}
use Rattle.cli_commands.specs.declared.serving.Outcome.TheVariants.{Ended, Followed}
use Rattle.cli_commands.proofs.serving.serve_all.Given as goal

abbrev pub invariant-loop-outcome : goal.invariant-loop-outcome
invariant-loop-outcome g l = record {
  rest : (lines : Lines) × IsFirstLines (g.I.Input.came l.fn.input) lines × ((last : Option CameState) (at : Option (List ℕ)) (told : Option (List Answer)) (left : MetricsState) (status : ℕ) → GoesAlone g.M.GivenManifest.may_read l.manner l.outcome (g.I.Input.came l.input) l.lines (g.S.Outlet.bytes l.out) (g.S.Outlet.answers l.out) (g.M.MetricsFile.counts l.given) last at told left status
      → GoesAlone g.M.GivenManifest.may_read l.manner (Followed l.fn.first) (g.I.Input.came l.fn.input) lines (g.S.Outlet.bytes l.fn.out) (g.S.Outlet.answers l.fn.out) (g.M.MetricsFile.counts l.fn.given) last at told left status);
  going : IfFollowed l.outcome (IsTrue l.lines.is_ended → IsTrue (g.I.Input.has_ended l.input));
  stands : IfFollowed l.outcome (IsSomewhere (g.I.Input.came l.input) l.lines);
  status : HasStatusAlone l.outcome;
  read : IfServed l.outcome (g.I.Input.has_failed l.input ≡ g.I.Input.has_failed l.fn.input);
  ended : l.manner.is_told ≡ false → IfEnded l.outcome (IsTrue (g.I.Input.has_ended l.input));
}

-- how many numbers are left for what follows
abbrev pub left_for : Outcome → ℕ
left_for (Ended status) = 0
left_for (Followed next) = (2 ^ 64 - next.number) + 1

abbrev pub decreases-loop-outcome : goal.decreases-loop-outcome
decreases-loop-outcome g l = left_for l.outcome
