use Rattle.host_opening.proofs.Counted.{none_is}
use Rattle.host_opening.proofs.opening.none_yet.Goals as goal

pub returns : goal.returns
returns c = none_is c.new.result c.new.ensures
