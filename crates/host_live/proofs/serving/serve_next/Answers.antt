use Rattle.std.proofs.Common.{ℕ, subst}
use Rattle.host_live.specs.declared.serving.LiveFault.{LiveFault}
use Rattle.host_live.proofs.Outcomes.{line_now, served_so, stopped_so, unserved_so}
use Rattle.host_live.specs.Served.{AnswersDecided}
use Rattle.host_live.proofs.Growing.{has_by}
use Rattle.host_live.proofs.Metering.{has_both}
use Rattle.host_live.proofs.serving.serve_next.Goals as goal

pub returns-in-Ok-carry_out-clause-turned : goal.returns-in-Ok-carry_out-clause-turned
returns-in-Ok-carry_out-clause-turned g c = λ base told stands. served_so LiveFault LiveFault c.args.manner g.N.Reports.may_refuse base told (g.I.Input.came c.take_next.new.input) c.args.lines.now c.take_next.new.lines (g.N.Reports.has_decided c.answer_decided.new.reports) c.in-Ok.next (c.in-Ok.ensures.taken base told stands) c.in-Ok-carry_out.turn c.answer_decided.result c.args.host.now.engine _ c.carry_out.new.host.engine c.answer_decided.new.host.engine _ _ _ _ _ _ _ _ _ _ _ _ c.in-Ok.ensures.grown c.take_next.ensures.answers (c.in-Ok-carry_out.ensures.carried (line_now base told (g.I.Input.came c.take_next.new.input) c.args.lines.now c.take_next.new.lines c.in-Ok.next (c.in-Ok.ensures.taken base told stands)).0 (line_now base told (g.I.Input.came c.take_next.new.input) c.args.lines.now c.take_next.new.lines c.in-Ok.next (c.in-Ok.ensures.taken base told stands)).1) c.carry_out.ensures.answers c.answer_decided.ensures.grown c.answer_decided.ensures.engine (subst (λ (n : ℕ). AnswersDecided c.args.manner n c.in-Ok-carry_out.turn g.N.Reports.may_refuse (g.N.Reports.has_decided c.answer_decided.new.reports) c.carry_out.new.host.engine.engine (g.S.Outlet.answers c.carry_out.new.out) c.answer_decided.result (g.S.Outlet.answers c.answer_decided.new.out) c.answer_decided.new.host.engine.printed (g.S.Outlet.bytes c.answer_decided.new.out)) c.number.ensures c.answer_decided.ensures.answers)

pub returns-in-Err-carry_out-clause-turned : goal.returns-in-Err-carry_out-clause-turned
returns-in-Err-carry_out-clause-turned g c = λ base told stands. stopped_so LiveFault LiveFault c.args.manner g.N.Reports.may_refuse base told (g.I.Input.came c.take_next.new.input) c.args.lines.now c.take_next.new.lines (g.N.Reports.has_decided c.carry_out.new.reports) c.in-Ok.next (c.in-Ok.ensures.taken base told stands) c.in-Err-carry_out.fault c.stop.result c.args.host.now.engine _ c.carry_out.new.host.engine c.stop.new.host.engine _ _ _ _ _ _ _ _ _ _ _ _ c.in-Ok.ensures.grown c.take_next.ensures.answers (c.in-Err-carry_out.ensures.carried (line_now base told (g.I.Input.came c.take_next.new.input) c.args.lines.now c.take_next.new.lines c.in-Ok.next (c.in-Ok.ensures.taken base told stands)).0 (line_now base told (g.I.Input.came c.take_next.new.input) c.args.lines.now c.take_next.new.lines c.in-Ok.next (c.in-Ok.ensures.taken base told stands)).1) c.carry_out.ensures.answers c.stop.ensures.grown c.stop.ensures.answers

pub returns-in-Err-clause-turned : goal.returns-in-Err-clause-turned
returns-in-Err-clause-turned g c = λ base told stands. unserved_so c.args.manner g.N.Reports.may_refuse base told (g.I.Input.came c.args.input.now) (g.I.Input.came c.take_next.new.input) c.args.lines.now c.take_next.new.lines (g.N.Reports.has_decided c.args.reports.now) c.in-Err.fault c.args.host.now.engine c.take_next.new.host.engine _ _ _ _ _ _ c.in-Err.ensures.grown c.take_next.ensures.answers c.in-Err.ensures.unmoved stands

pub returns-in-Ok-carry_out-clause-counted : goal.returns-in-Ok-carry_out-clause-counted
returns-in-Ok-carry_out-clause-counted g c = has_both _ _ _ _ _ _ (has_by _ _ _ _ _ _ _ c.in-Ok.ensures.grown) (has_both _ _ _ _ _ _ c.carry_out.ensures.counted (has_by _ _ _ _ _ _ _ c.answer_decided.ensures.grown))

pub returns-in-Err-carry_out-clause-counted : goal.returns-in-Err-carry_out-clause-counted
returns-in-Err-carry_out-clause-counted g c = has_both _ _ _ _ _ _ (has_by _ _ _ _ _ _ _ c.in-Ok.ensures.grown) (has_both _ _ _ _ _ _ c.carry_out.ensures.counted (has_by _ _ _ _ _ _ _ c.stop.ensures.grown))

pub returns-in-Err-clause-counted : goal.returns-in-Err-clause-counted
returns-in-Err-clause-counted g c = has_by _ _ _ _ _ _ _ c.in-Err.ensures.grown
