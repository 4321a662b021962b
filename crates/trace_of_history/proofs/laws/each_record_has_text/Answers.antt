use Rattle.trace_of_history.proofs.Each.{each_record_has_text}
use Rattle.trace_of_history.proofs.laws.each_record_has_text.Goals as goal

pub returns : goal.returns
returns c = each_record_has_text
