use Rattle.check_helper_calls.proofs.Calling.{answered_by}
use Rattle.check_helper_calls.proofs.Leaving.{answer_left}
use Rattle.check_helper_calls.proofs.calls.answer.Goals as goal

pub returns-clause-passes : goal.returns-clause-passes
returns-clause-passes c = λ numbers callers r0 m is holds. answered_by numbers callers r0 c.args.description.now c.after_call-description.result c.args.kind m c.after_call-description.ensures holds is

pub returns-clause-leaves : goal.returns-clause-leaves
returns-clause-leaves c = answer_left c.args.description.now c.after_call-description.result c.args.kind c.after_call-description.ensures
