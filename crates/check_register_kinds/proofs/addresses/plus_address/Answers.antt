use Rattle.check_register_kinds.proofs.Sums.{number_first}
use Rattle.check_register_kinds.proofs.addresses.plus_address.Goals as goal

pub returns-in-Add-clause-means : goal.returns-in-Add-clause-means
returns-in-Add-clause-means c = rw c.in-Bits64.is (rw c.in-Add.is (number_first _ _ _ _ c.ahead.ensures.means))
