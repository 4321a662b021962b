use Rattle.engine_succession.proofs.Refused.{none_is_refused}
use Rattle.engine_succession.proofs.laws.refused_lines_have_no_world.Goals as goal

pub returns : goal.returns
returns c = none_is_refused
