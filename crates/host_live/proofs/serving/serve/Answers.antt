use Rattle.std.proofs.Common.{ℕ, Bool, Option, List, [], subst}
use Rattle.trace.specs.Sinks.{HasFailed}
use Rattle.host_live.specs.Answering.{with_answers}
use Rattle.host_live.specs.Metering.{CountsTo}
use Rattle.host_live.specs.Telling.{Continues}
use Rattle.host_live.proofs.Outcomes.{none_given}
use Rattle.host_live.proofs.Told.{behind_owed, continues_none, is_owed, none_owed, unturned}
use Rattle.host_live.specs.declared.reports.Moment.TheVariants.{End}
use Rattle.host_live.proofs.Metering.{counts_to_none, may_now}
use Rattle.host_live.proofs.serving.serve.Goals as goal

pub returns-in-Ok-clause-told : goal.returns-in-Ok-clause-told
returns-in-Ok-clause-told g c = λ records behind are. subst (λ (b : Option (List ℕ)). Continues c.args.engine.setup c.args.manner records b c.serve_here.result (g.S.Outlet.bytes c.serve_here.new.out)) c.answer_owed.ensures.bytes (c.serve_here.ensures.told records behind are)

pub returns-in-Ok-clause-turned : goal.returns-in-Ok-clause-turned
returns-in-Ok-clause-turned g c = (
  c.in-Ok.ensures.answers.0,
  is_owed (Unit {0}) c.args.manner c.args.owed tt c.serve_here.result (g.S.Outlet.bytes c.args.out.now) c.in-Ok.ensures.answers.0 c.in-Ok.ensures.answers.1,
  λ point records at behind are. behind_owed c.args.engine c.args.manner g.N.Reports.may_refuse point (g.I.Input.came c.serve_here.new.input) c.serve_here.new.lines (g.N.Reports.has_decided c.serve_here.new.reports) (CountsTo c.args.engine c.args.metrics.now (g.N.Reports.has_counted c.serve_here.new.reports End) c.serve_here.new.metrics) records _ _ _ _ _ _ c.in-Ok.ensures.answers.0 c.serve_here.result c.answer_owed.ensures.bytes c.in-Ok.ensures.answers.2 (c.serve_here.ensures.turned point records at behind are),
)

pub returns-in-Err-clause-told : goal.returns-in-Err-clause-told
returns-in-Err-clause-told g c = λ records behind are. rw c.answer_owed.ensures.bytes (continues_none c.args.engine c.args.manner records (g.S.Outlet.bytes c.args.out.now) behind)

pub returns-in-Err-clause-turned : goal.returns-in-Err-clause-turned
returns-in-Err-clause-turned g c = (
  [],
  none_owed Bool c.args.manner c.args.owed c.in-Err.fault (g.S.Outlet.bytes c.args.out.now),
  λ point records at behind are. rw c.answer_owed.ensures.bytes (rw c.in-Err.ensures.answers (rw (← none_given (g.S.Outlet.answers c.args.out.now)) (unturned c.args.engine c.args.manner g.N.Reports.may_refuse point (g.I.Input.came c.args.input.now) c.args.lines.now (g.N.Reports.has_decided c.counted.new.self) (CountsTo c.args.engine c.args.metrics.now (g.N.Reports.has_counted c.counted.new.self End) c.args.metrics.now) records (g.S.Outlet.bytes c.args.out.now) (g.S.Outlet.answers c.args.out.now) (counts_to_none c.args.engine c.args.metrics.now (g.N.Reports.has_counted c.counted.new.self End) c.counted.ensures.counted) at behind))),
)

pub counted-requires : goal.counted-requires
counted-requires g c = may_now g.N.Reports.may_count c.args.engine c.args.metrics.now c.requires.counts
