use Rattle.std.proofs.Common.{sym, ◌∙◌}
use Rattle.host_live.proofs.Spelled.{ccbs_reads, drain_reads, drive_reads, none_reads, step_reads, succeed_reads, totals_reads}
use Rattle.host_live.proofs.request.own_request.Goals as goal

pub returns-then-eq : goal.returns-then-eq
returns-then-eq c = drain_reads c.args.line.now (sym c.eq.ensures ∙ c.if-eq.true)

pub returns-then-eq-2 : goal.returns-then-eq-2
returns-then-eq-2 c = totals_reads c.args.line.now (sym c.eq-2.ensures ∙ c.if-eq-2.true)

pub returns-then-eq-3 : goal.returns-then-eq-3
returns-then-eq-3 c = ccbs_reads c.args.line.now (sym c.eq-3.ensures ∙ c.if-eq-3.true)

pub returns-in-Some : goal.returns-in-Some
returns-in-Some c = succeed_reads c.args.line.now c.in-Some.how c.in-Some.ensures

pub returns-in-Some-step_request : goal.returns-in-Some-step_request
returns-in-Some-step_request c = step_reads c.args.line.now c.in-Some-step_request.stepped c.in-Some-step_request.ensures

pub returns-in-Some-drive_request : goal.returns-in-Some-drive_request
returns-in-Some-drive_request c = drive_reads c.args.line.now c.in-Some-drive_request.driven c.in-Some-drive_request.ensures

pub returns-in-None-drive_request : goal.returns-in-None-drive_request
returns-in-None-drive_request c = none_reads c.args.line.now (sym c.eq.ensures ∙ c.if-eq.false) (sym c.eq-2.ensures ∙ c.if-eq-2.false) (sym c.eq-3.ensures ∙ c.if-eq-3.false) c.in-None.ensures c.in-None-step_request.ensures c.in-None-drive_request.ensures
