use Rattle.std.proofs.Common.{◌∙◌, refl, sym}
use Rattle.host_embedding.proofs.Taking.{advanced_so, has_ended, is_back, went_on}
use Rattle.host_embedding.proofs.run_calls.advance.Goals as goal

pub returns-in-Ok-Goes-clause-recorded : goal.returns-in-Ok-Goes-clause-recorded
returns-in-Ok-Goes-clause-recorded c =
    advanced_so c.in-Stopped.stopped c.args.engine.now c.go_on.new.self (sym c.take.ensures.taken ∙ c.in-Stopped.is) refl c.put.ensures refl refl
    (went_on c.in-Stopped.stopped c.args.engine.now c.go_on.new.self c.in-Ok-Goes.field-0 c.in-Ok-Goes.again c.in-Ok-Goes.value c.in-Ok-Goes.field-0-is c.in-Ok-Goes.ensures.answered c.in-Ok-Goes.ensures.admitted c.in-Ok-Goes.ensures.goes)

pub returns-in-Ok-Ended-clause-recorded : goal.returns-in-Ok-Ended-clause-recorded
returns-in-Ok-Ended-clause-recorded c =
    advanced_so c.in-Stopped.stopped c.args.engine.now c.go_on.new.self (sym c.take.ensures.taken ∙ c.in-Stopped.is) refl c.take.ensures.spent refl refl
    (has_ended c.in-Stopped.stopped c.args.engine.now c.go_on.new.self c.in-Ok-Ended.field-0 c.in-Ok-Ended.value c.in-Ok-Ended.field-0-is c.in-Ok-Ended.ensures.answered c.in-Ok-Ended.ensures.admitted c.in-Ok-Ended.ensures.goes)

pub returns-in-Err-clause-recorded : goal.returns-in-Err-clause-recorded
returns-in-Err-clause-recorded c =
    advanced_so c.in-Stopped.stopped c.args.engine.now c.go_on.new.self (sym c.take.ensures.taken ∙ c.in-Stopped.is) refl c.put-in-Err.ensures refl refl
    (is_back c.in-Err.fault c.advanced.result c.in-Stopped.stopped c.in-Err.back c.args.engine.now c.go_on.new.self _ _ c.advanced.ensures c.in-Err.ensures.back.0 c.in-Err.ensures.back.1 c.in-Err.ensures.admitted)
