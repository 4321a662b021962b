use Rattle.std.proofs.Common.{subst, sym}
use Rattle.ccb.specs.Completion.{Outcome}
use Rattle.world_calls.specs.declared.call.Call.TheVariants.{Complete}
use Rattle.engine_core.specs.ByNumber.{AnswersCall}
use Rattle.host_decision.proofs.Failing.{cannot_fail}
use Rattle.host_decision.proofs.ran.Ran.fail.Goals as goal

pub returns-in-None-clause-refused : goal.returns-in-None-clause-refused
returns-in-None-clause-refused c =
    let old = c.args.self.now.engine in
    let new = c.call.new.self in
    let answered : AnswersCall old (Complete c.args.completion.now) c.in_ok-answer.answer new =
    subst (λ (outcome : Outcome). AnswersCall old (Complete outcome) c.in_ok-answer.answer new) c.in_ok-completion.ensures.value c.in_ok-answer.ensures.answered in
    cannot_fail old new c.args.completion.now c.in_ok-answer.answer (sym c.in-None.ensures) answered c.in_ok-answer.ensures.setup
