use Rattle.whole_trace.proofs.Faults.{one_faulty_line}
use Rattle.whole_trace.proofs.laws.one_faulty_line.Goals as goal

pub returns : goal.returns
returns c = one_faulty_line
