use Rattle.std.proofs.Common.{ℕ, List, subst}
use Rattle.std.specs.Prelude.{⊤}
use Rattle.host_live.specs.Metering.{CountsTo}
use Rattle.host_journal.specs.Journals.{ServesInOrder}
use Rattle.host_journal.specs.Made.{first_line}
use Rattle.cli_commands.specs.Following.{IsFollowing, MayRefuse}
use Rattle.cli_commands.proofs.Going.{followed_on, kept_order}
use Rattle.cli_commands.proofs.journal_engine.serve_under.Goals as goal

pub returns-clause-served : goal.returns-clause-served
returns-clause-served g c = record {
  result = c.serve-disk.result.1;
  next = c.serve-disk.new.reports.next;
  order = λ point at.
      kept_order c.args.recovered.engine c.args.recovered.records c.args.terms.manner _ c.args.owed point _ _ _ _ _ _ _ c.args.terms.is_synced (first_line c.args.begun.now) _ _ c.serve-disk.result.1 c.taken_metrics-metrics.ensures c.keep_metrics.ensures
      (subst (λ (n : ℕ). ServesInOrder c.args.recovered.engine c.args.recovered.records c.args.terms.manner (MayRefuse g.M.GivenManifest.may_read n c.args.own.now) c.args.owed point (g.I.Input.came c.serve-disk.new.input) c.serve-disk.new.lines (λ how now. IsFollowing g.M.GivenManifest.may_read n c.args.own.now how now c.serve-disk.new.reports.next) (CountsTo c.args.recovered.engine c.taken_metrics-metrics.result (λ metrics now. ⊤) c.serve-disk.new.metrics) c.args.terms.is_synced (first_line c.args.begun.now) (g.D.Disk.steps c.args.disk) (g.D.Disk.steps c.serve-disk.result.0) c.serve-disk.result.1) c.requires.number
      (subst (λ (o : List ℕ). ServesInOrder c.args.recovered.engine c.args.recovered.records c.args.terms.manner (MayRefuse g.M.GivenManifest.may_read g.F.InForce.number o) c.args.owed point (g.I.Input.came c.serve-disk.new.input) c.serve-disk.new.lines (λ how now. IsFollowing g.M.GivenManifest.may_read g.F.InForce.number o how now c.serve-disk.new.reports.next) (CountsTo c.args.recovered.engine c.taken_metrics-metrics.result (λ metrics now. ⊤) c.serve-disk.new.metrics) c.args.terms.is_synced (first_line c.args.begun.now) (g.D.Disk.steps c.args.disk) (g.D.Disk.steps c.serve-disk.result.0) c.serve-disk.result.1) c.requires.own
      (c.serve-disk.ensures.order point at)));
  stop = c.serve-disk.ensures.fault;
  is_outcome = c.outcome_of.ensures.is;
}

pub returns-clause-stands : goal.returns-clause-stands
returns-clause-stands g c = followed_on _ c.args.begun.now.number c.serve-disk.result.1 c.serve-disk.new.reports.next c.outcome_of.result c.serve-disk.ensures.stands c.outcome_of.ensures.is
