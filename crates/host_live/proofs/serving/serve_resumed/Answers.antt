use Rattle.host_live.proofs.Finishing.{goes_behind, not_driven_first}
use Rattle.host_live.proofs.Growing.{has_as}
use Rattle.host_live.proofs.Metering.{has_both, may_now, may_on}
use Rattle.host_live.proofs.serving.serve_resumed.Goals as goal

pub returns-in-Ok-clause-grown : goal.returns-in-Ok-clause-grown
returns-in-Ok-clause-grown g c = λ point is. goes_behind c.args.manner g.N.Reports.may_refuse point (g.I.Input.came c.serve_behind.new.input) c.serve_behind.new.lines (g.N.Reports.has_decided c.serve_behind.new.reports) c.args.host.now.engine c.drive_first.new.host.engine c.serve_behind.new.host.engine _ _ _ _ _ _ _ _ _ c.serve_behind.result c.in-Ok.ensures.grown c.drive_first.ensures.answers (c.serve_behind.ensures.grown point is)

pub returns-in-Err-clause-grown : goal.returns-in-Err-clause-grown
returns-in-Err-clause-grown g c = λ point is. not_driven_first c.args.manner g.N.Reports.may_refuse point (g.I.Input.came c.args.input.now) c.args.host.now.engine c.drive_first.new.host.engine _ _ _ _ _ _ c.in-Err.ensures.grown c.drive_first.ensures.answers

pub serve_behind-requires-clause-counts : goal.serve_behind-requires-clause-counts
serve_behind-requires-clause-counts g c = may_on g.N.Reports.may_count _ _ _ _ c.requires.counts (has_as _ _ _ _ _ _ c.in-Ok.ensures.grown)

pub returns-in-Ok-clause-counted : goal.returns-in-Ok-clause-counted
returns-in-Ok-clause-counted g c = has_both _ _ _ _ _ _ (has_as _ _ _ _ _ _ c.in-Ok.ensures.grown) c.serve_behind.ensures.counted

pub returns-in-Err-clause-counted : goal.returns-in-Err-clause-counted
returns-in-Err-clause-counted g c = has_as _ _ _ _ _ _ c.in-Err.ensures.grown

pub report_counted-requires : goal.report_counted-requires
report_counted-requires g c = may_now g.N.Reports.may_count _ _ (may_on g.N.Reports.may_count _ _ _ _ c.requires.counts (has_as _ _ _ _ _ _ c.in-Err.ensures.grown))
