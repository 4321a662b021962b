use Rattle.std.proofs.Common.{ℕ, Option, List, [], refl, subst}
use Rattle.std.specs.Prelude.{⊤}
use Rattle.host_live.specs.Answering.{with_answers}
use Rattle.host_live.specs.Metering.{CountsTo}
use Rattle.host_live.specs.Served.{ContinuesTurns, IsOwed}
use Rattle.host_live.proofs.Told.{counted_as}
use Rattle.cli_commands.specs.Alone.{alone}
use Rattle.cli_commands.specs.Following.{IsFollowing, MayRefuse}
use Rattle.cli_commands.specs.Journaling.{IsCountedFrom}
use Rattle.cli_commands.proofs.Going.{followed_alone, kept_counts}
use Rattle.cli_commands.proofs.serving.serve_under.Goals as goal

pub returns-clause-served : goal.returns-clause-served
returns-clause-served g c = record {
  result = c.serve-served.result;
  next = c.serve-served.new.reports.next;
  told = c.serve-served.ensures.told [] c.requires.behind refl;
  first = c.serve-served.ensures.turned.0;
  owed_is = subst (λ (o : Option ℕ). IsOwed (alone c.args.manner) o c.serve-served.result (g.S.Outlet.bytes c.args.out.now) c.serve-served.ensures.turned.0) c.owed_by-owed.ensures c.serve-served.ensures.turned.1;
  turned = λ point at.
      counted_as c.args.engine (alone c.args.manner) (MayRefuse g.M.GivenManifest.may_read c.args.begun.now.number c.args.own.now) point (g.I.Input.came c.serve-served.new.input) c.serve-served.new.lines (λ how now. IsFollowing g.M.GivenManifest.may_read c.args.begun.now.number c.args.own.now how now c.serve-served.new.reports.next) (CountsTo c.args.engine c.taken_metrics-metrics.result (λ metrics now. ⊤) c.serve-served.new.metrics)
      (IsCountedFrom c.args.engine (g.M.MetricsFile.counts c.args.given.now) (g.M.MetricsFile.counts c.keep_metrics.new.self)) (kept_counts c.args.engine _ _ _ _ c.taken_metrics-metrics.ensures c.keep_metrics.ensures) [] (g.S.Outlet.bytes c.args.out.now) (g.S.Outlet.bytes c.serve-served.new.out) (with_answers (g.S.Outlet.answers c.args.out.now) c.serve-served.ensures.turned.0) (g.S.Outlet.answers c.serve-served.new.out) c.serve-served.result
      (subst (λ (n : ℕ). ContinuesTurns c.args.engine (alone c.args.manner) (MayRefuse g.M.GivenManifest.may_read n c.args.own.now) point (g.I.Input.came c.serve-served.new.input) c.serve-served.new.lines (λ how now. IsFollowing g.M.GivenManifest.may_read n c.args.own.now how now c.serve-served.new.reports.next) (CountsTo c.args.engine c.taken_metrics-metrics.result (λ metrics now. ⊤) c.serve-served.new.metrics) [] (g.S.Outlet.bytes c.args.out.now) (with_answers (g.S.Outlet.answers c.args.out.now) c.serve-served.ensures.turned.0) c.serve-served.result (g.S.Outlet.bytes c.serve-served.new.out) (g.S.Outlet.answers c.serve-served.new.out)) c.requires.number
      (subst (λ (o : List ℕ). ContinuesTurns c.args.engine (alone c.args.manner) (MayRefuse g.M.GivenManifest.may_read g.F.InForce.number o) point (g.I.Input.came c.serve-served.new.input) c.serve-served.new.lines (λ how now. IsFollowing g.M.GivenManifest.may_read g.F.InForce.number o how now c.serve-served.new.reports.next) (CountsTo c.args.engine c.taken_metrics-metrics.result (λ metrics now. ⊤) c.serve-served.new.metrics) [] (g.S.Outlet.bytes c.args.out.now) (with_answers (g.S.Outlet.answers c.args.out.now) c.serve-served.ensures.turned.0) c.serve-served.result (g.S.Outlet.bytes c.serve-served.new.out) (g.S.Outlet.answers c.serve-served.new.out)) c.requires.own
      (c.serve-served.ensures.turned.2 point [] at c.requires.behind refl)));
  same_clock = c.serve-served.ensures.begun;
  is_outcome = c.outcome_of.ensures.is;
}

pub returns-clause-stands : goal.returns-clause-stands
returns-clause-stands g c = followed_alone _ c.args.begun.now.number c.serve-served.result c.serve-served.new.reports.next c.outcome_of.result c.serve-served.ensures.stands c.outcome_of.ensures.is
