use Rattle.std.proofs.Common.{Option, subst}
use Rattle.world_calls.specs.declared.call_answer.CallAnswer.{CallAnswer}
use Rattle.engine_core.specs.ByNumber.{AnswersCall}
use Rattle.replay.proofs.Followed.{answered_so}
use Rattle.replay.proofs.following.follows_call.Goals as goal

pub returns-in-Some-clause-follows : goal.returns-in-Some-clause-follows
returns-in-Some-clause-follows c =
    answered_so c.is_same_answer.result c.args.engine.now c.call.new.self c.args.call.now c.in-Some.answer c.args.told
    (subst (λ (o : Option CallAnswer). AnswersCall c.args.engine.now c.args.call.now o c.call.new.self) c.in-Some.is c.in_ok-answer.ensures.answered) c.call.ensures.setup c.is_same_answer.ensures

pub returns-in-None-clause-follows : goal.returns-in-None-clause-follows
returns-in-None-clause-follows c =
    let told = subst (λ (o : Option CallAnswer). AnswersCall c.args.engine.now c.args.call.now o c.call.new.self) c.in-None.is c.in_ok-answer.ensures.answered in
    told.1 c.args.told
