use Rattle.trace.proofs.FirstFaulty.{one_faulty_line}
use Rattle.trace.proofs.laws.one_faulty_line.Goals as goal

pub returns : goal.returns
returns c = one_faulty_line
