use Rattle.std.proofs.Common.{Bool, false, true, subst}
use Rattle.std.proofs.lemmas.Result.{err_from_is_err_and}
use Rattle.host_decision.specs.Steps.{RanOn}
use Rattle.host_decision.proofs.Whole.{no_end, no_instructions, whole_ended, whole_instructions, whole_led, whole_records}
use Rattle.host_decision.proofs.WhyNone.{unfailed}
use Rattle.host_decision.proofs.ran.run_from.Goals as goal

pub go_on-requires : goal.go_on-requires
go_on-requires c = no_instructions c.args.config.now c.args.lines.now c.args.completion.now c.in_ok-ran.ran c.fail.new.self c.in_ok-ran.ensures.fresh c.in_ok-fail.ensures.failed

pub returns-then-ended : goal.returns-then-ended
returns-then-ended c =
    let it : RanOn true c.fail.new.self c.go_on.new.self = subst (λ (ended : Bool). RanOn ended c.fail.new.self c.go_on.new.self) c.if-ended.true c.in_ok-ended.ensures in
    record {
      undecided = tt;
      led = whole_led c.args.config.now c.args.lines.now c.args.completion.now c.in_ok-ran.ran c.fail.new.self c.in_ok-ran.ensures.fresh c.in_ok-fail.ensures.failed true c.go_on.new.self it;
      records = whole_records c.args.config.now c.args.lines.now c.args.completion.now c.in_ok-ran.ran c.fail.new.self c.in_ok-ran.ensures.fresh c.in_ok-fail.ensures.failed true c.go_on.new.self it;
      ended = whole_ended c.args.config.now c.args.lines.now c.args.completion.now c.in_ok-ran.ran c.fail.new.self c.in_ok-ran.ensures.fresh c.in_ok-fail.ensures.failed c.go_on.new.self it;
      instructions = whole_instructions c.args.config.now c.args.lines.now c.args.completion.now c.in_ok-ran.ran c.fail.new.self c.in_ok-ran.ensures.fresh c.in_ok-fail.ensures.failed true c.go_on.new.self it;
    }

pub unreachable-requires : goal.unreachable-requires
unreachable-requires c =
    let it : RanOn false c.fail.new.self c.go_on.new.self = subst (λ (ended : Bool). RanOn ended c.fail.new.self c.go_on.new.self) c.if-ended.false c.in_ok-ended.ensures in
    no_end c.args.config.now c.args.lines.now c.args.completion.now c.in_ok-ran.ran c.fail.new.self c.in_ok-ran.ensures.fresh c.in_ok-fail.ensures.failed c.go_on.new.self c.headline.ensures.within_budget c.queues.ensures.lawful it

pub returns-in_err-fail-clause-undecided : goal.returns-in_err-fail-clause-undecided
returns-in_err-fail-clause-undecided c =
    let answer = c.from_residual-in_err-fail in
    let p = err_from_is_err_and answer.result answer.ensures.1 in
    rw (p.1, p.2) (unfailed c.args.config.now c.args.lines.now c.args.completion.now c.in_ok-ran.ran _ c.in_ok-ran.ensures.fresh c.in_err-fail.ensures.refused)
