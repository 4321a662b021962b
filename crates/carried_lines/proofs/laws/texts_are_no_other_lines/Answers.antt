use Rattle.carried_lines.proofs.NoMarks.{no_line_feed, no_record, no_end}
use Rattle.carried_lines.proofs.laws.texts_are_no_other_lines.Goals as goal

pub returns-clause-one : goal.returns-clause-one
returns-clause-one c = no_line_feed

pub returns-clause-record_line : goal.returns-clause-record_line
returns-clause-record_line c = no_record

pub returns-clause-last_line : goal.returns-clause-last_line
returns-clause-last_line c = no_end
