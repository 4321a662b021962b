use Rattle.check_local_calls.proofs.LocalCalls.{saved_at_call}
use Rattle.check_local_calls.proofs.saved.at_call.Goals as goal

pub returns-clause-holds : goal.returns-clause-holds
returns-clause-holds c = λ numbers run o held holds. saved_at_call numbers c.args.kind c.copies_of.result o (λ name number same its. c.copies_of.ensures.has name number numbers run same held its) holds
