use Rattle.host_live.proofs.Growing.{by_none, has_by}
use Rattle.host_live.proofs.Outcomes.{waits_from}
use Rattle.host_live.proofs.Metering.{may_now, may_on}
use Rattle.host_live.proofs.serving.take_next.Goals as goal

pub returns-in-Ok-clause-taken : goal.returns-in-Ok-clause-taken
returns-in-Ok-clause-taken g c = λ base told stands. c.if-take_next.ensures.takes base told stands

pub returns-in-Ok-clause-grown : goal.returns-in-Ok-clause-grown
returns-in-Ok-clause-grown g c = by_none _ _ _

pub returns-in-Ok-settle-clause-taken : goal.returns-in-Ok-settle-clause-taken
returns-in-Ok-settle-clause-taken g c = λ base told stands. let before = c.if-take_next.ensures.takes base told stands in waits_from base told c.wait_next.result (g.I.Input.came c.wait_next.new.input) c.args.lines.now c.take_next.new.self c.wait_next.new.lines before.1 (c.wait_next.ensures.waits base told before.0 before.3)

pub report_waiting-requires : goal.report_waiting-requires
report_waiting-requires g c = may_now g.N.Reports.may_count _ _ (may_on g.N.Reports.may_count _ _ _ _ c.requires.counts (has_by _ _ _ _ _ _ _ c.settle.ensures.printed))

pub returns-in-Err-clause-grown : goal.returns-in-Err-clause-grown
returns-in-Err-clause-grown g c = by_none _ _ _
