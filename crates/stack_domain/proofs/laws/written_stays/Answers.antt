use Rattle.stack_domain.proofs.Stores.{covers_stored}
use Rattle.stack_domain.proofs.laws.written_stays.Goals as goal

pub returns : goal.returns
returns c stack frames k offset bytes covers live inside = covers_stored stack frames covers k offset bytes live inside
