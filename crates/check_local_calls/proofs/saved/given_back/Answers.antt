use Rattle.std.proofs.Common.{rules}
use Rattle.check_local_calls.specs.Entering.{kind_back}
use Rattle.check_local_calls.proofs.LocalCalls.{four_back, four_made}
use Rattle.check_local_calls.proofs.saved.given_back.Goals as goal

pub returns-clause-holds : goal.returns-clause-holds
returns-clause-holds c = λ numbers run os held are.
    four_back numbers c.args.saved.now.registers os _ _ _ _ _ _ _ _ are (search rules)
    (λ o its. c.register_back.ensures.holds numbers run o held its) (λ o its. c.register_back-2.ensures.holds numbers run o held its) (λ o its. c.register_back-3.ensures.holds numbers run o held its) (λ o its. c.register_back-4.ensures.holds numbers run o held its)

pub returns-clause-is : goal.returns-clause-is
returns-clause-is c =
    four_made (kind_back c.args.held.now) c.args.saved.now.registers _ _ _ _ c.register_back.result c.register_back-2.result c.register_back-3.result c.register_back-4.result (search rules) c.register_back.ensures.is c.register_back-2.ensures.is c.register_back-3.ensures.is c.register_back-4.ensures.is
