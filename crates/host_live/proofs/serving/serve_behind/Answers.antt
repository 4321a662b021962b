use Rattle.host_live.specs.Served.{in_turns}
use Rattle.host_live.proofs.Finishing.{ends_with, finishes}
use Rattle.host_live.proofs.Growing.{has_as}
use Rattle.host_live.proofs.Metering.{has_both, may_now, may_on}
use Rattle.host_live.proofs.Outcomes.{with_these}
use Rattle.host_live.proofs.serving.serve_behind.Goals as goal

pub report_counted-requires : goal.report_counted-requires
report_counted-requires g c = may_now g.N.Reports.may_count _ _ (may_on g.N.Reports.may_count _ _ _ _ c.requires.counts (has_both _ _ _ _ _ _ c.in-Ok.ensures.counted (has_as _ _ _ _ _ _ c.finish-finished.ensures.grown)))

pub report_counted-requires-in-Err : goal.report_counted-requires-in-Err
report_counted-requires-in-Err g c = may_now g.N.Reports.may_count _ _ (may_on g.N.Reports.may_count _ _ _ _ c.requires.counts c.in-Err.ensures.counted)

pub returns-in-Ok-clause-grown : goal.returns-in-Ok-clause-grown
returns-in-Ok-clause-grown g c = λ point is.
    let ends = with_these _ _ _ _ _ _ _ _ (λ records answers it. ends_with c.args.manner g.N.Reports.may_refuse c.args.host.now.engine.engine _ point (g.I.Input.came c.serve_lines.new.input) c.serve_lines.new.lines (g.N.Reports.has_decided c.serve_lines.new.reports) (g.N.Reports.has_decided c.report_counted.new.reports) c.in-Ok.is_followed records answers c.report_counted.ensures.decided it) (c.in-Ok.ensures.grown point is) in
    finishes c.args.manner g.N.Reports.may_refuse point (g.I.Input.came c.serve_lines.new.input) c.serve_lines.new.lines (g.N.Reports.has_decided c.report_counted.new.reports) c.args.host.now.engine c.serve_lines.new.host.engine c.finish-finished.new.host.engine _ _ _ _ _ _ _ _ _ c.in-Ok.is_followed c.finish-finished.result c.finish-finished.ensures.followed ends c.finish-finished.ensures.grown c.finish-finished.ensures.answers

pub returns-in-Ok-clause-counted : goal.returns-in-Ok-clause-counted
returns-in-Ok-clause-counted g c = has_both _ _ _ _ _ _ c.in-Ok.ensures.counted (has_as _ _ _ _ _ _ c.finish-finished.ensures.grown)

pub returns-in-Err-clause-grown : goal.returns-in-Err-clause-grown
returns-in-Err-clause-grown g c = λ point is. with_these _ _ _ _ _ _ _ _ (λ records answers stops. in_turns records answers stops) (c.in-Err.ensures.grown point is)
