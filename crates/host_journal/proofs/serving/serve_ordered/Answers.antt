use Rattle.std.proofs.Common.{Option, Some, List, [], ◌++◌, ℕ, ap, subst, sym, ◌∙◌}
use Rattle.host_live.specs.Answering.{Answer}
use Rattle.host_live.specs.Metering.{CountsTo}
use Rattle.host_live.specs.Served.{ContinuesTurns}
use Rattle.host_live.specs.declared.reports.Moment.TheVariants.{End}
use Rattle.host_live.specs.Telling.{Continues}
use Rattle.host_journal.specs.Disks.{kept_so_far}
use Rattle.host_journal.specs.Journals.{HasLost, stood_behind}
use Rattle.host_journal.proofs.Served.{continues_so, in_order_turned}
use Rattle.host_journal.proofs.serving.serve_ordered.Goals as goal

pub returns-clause-order : goal.returns-clause-order
returns-clause-order g c = λ point at.
    in_order_turned c.args.engine c.args.count c.args.manner g.N.Reports.may_refuse c.args.owed point (g.I.Input.came c.serve-served.new.input) c.serve-served.new.lines (g.N.Reports.has_decided c.serve-served.new.reports) (CountsTo c.args.engine c.args.metrics.now (g.N.Reports.has_counted c.serve-served.new.reports End) c.serve-served.new.metrics) g.O.Order.is_synced g.O.Order.first
    g.O.Order.before c.of-out.result.steps c.serve-served.new.out.steps (g.D.Disk.steps c.into_parts-disk.result.0) c.flush-flushed.new.self c.serve-served.new.out.answers c.verdict.result c.serve-served.result c.flush-flushed.result
    c.into_parts-disk.ensures.order c.verdict.ensures.done c.flush-flushed.ensures.all c.flush-flushed.ensures.sure
    (c.of-out.ensures.steps ∙ sym c.requires.before) (ap kept_so_far c.into_parts-disk.ensures.steps ∙ c.flush-flushed.ensures.kept) c.flush-flushed.ensures.answers
    c.serve-served.ensures.turned.0 c.serve-served.ensures.turned.1
    (λ records behind are. subst (λ (a : List Answer). ContinuesTurns c.args.engine c.args.manner g.N.Reports.may_refuse point (g.I.Input.came c.serve-served.new.input) c.serve-served.new.lines (g.N.Reports.has_decided c.serve-served.new.reports) (CountsTo c.args.engine c.args.metrics.now (g.N.Reports.has_counted c.serve-served.new.reports End) c.serve-served.new.metrics) records (kept_so_far c.of-out.result.steps) (Some (stood_behind (kept_so_far g.O.Order.before) a ++ c.serve-served.ensures.turned.0)) c.serve-served.result (kept_so_far c.serve-served.new.out.steps) (Some (stood_behind (kept_so_far g.O.Order.before) c.serve-served.new.out.answers)))
    c.of-out.ensures.answers (c.serve-served.ensures.turned.2 point records at behind are))

pub returns-clause-told : goal.returns-clause-told
returns-clause-told g c = λ records behind are.
    subst (λ (o : Option (List ℕ)). Continues c.args.engine.setup c.args.manner records o c.verdict.result (kept_so_far (g.D.Disk.steps c.into_parts-disk.result.0))) (ap kept_so_far c.of-out.ensures.steps)
    (continues_so c.args.engine.setup c.args.manner records (kept_so_far c.of-out.result.steps) (kept_so_far c.serve-served.new.out.steps) (kept_so_far (g.D.Disk.steps c.into_parts-disk.result.0)) c.verdict.result c.serve-served.result c.flush-flushed.result
    (ap kept_so_far c.into_parts-disk.ensures.steps ∙ c.flush-flushed.ensures.kept) c.verdict.ensures.done (c.serve-served.ensures.told records behind are))

pub returns-clause-fault : goal.returns-clause-fault
returns-clause-fault g c =
    c.verdict.ensures.fault g.O.Order.before (g.D.Disk.steps c.into_parts-disk.result.0)
    (subst (λ (n : ℕ). HasLost n g.O.Order.before (g.D.Disk.steps c.into_parts-disk.result.0) c.into_parts-disk.result.1) c.requires.number c.into_parts-disk.ensures.cause)
    c.into_parts-disk.ensures.done
