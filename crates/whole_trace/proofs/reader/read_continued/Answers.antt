use Rattle.whole_trace.proofs.Faults.{read_none, read_on, said_none, said_on}
use Rattle.whole_trace.proofs.reader.read_continued.Goals as goal

pub returns-in-Ok-clause-said : goal.returns-in-Ok-clause-said
returns-in-Ok-clause-said c = said_on c.args.version c.args.text.now c.read_lines.new.lines.items c.in-Ok.rest.now c.read_after.result c.in-Ok.ensures c.read_after.ensures.said

pub returns-in-Ok-clause-back : goal.returns-in-Ok-clause-back
returns-in-Ok-clause-back c = read_on c.args.version c.args.text.now c.read_lines.new.lines.items c.in-Ok.rest.now c.read_after.result c.in-Ok.ensures c.read_after.ensures.back

pub returns-in-Err-clause-said : goal.returns-in-Err-clause-said
returns-in-Err-clause-said c = said_none c.args.version c.args.text.now c.read_lines.new.lines.items c.in-Err.fault c.in-Err.ensures

pub returns-in-Err-clause-back : goal.returns-in-Err-clause-back
returns-in-Err-clause-back c = read_none c.args.version c.args.text.now c.read_lines.new.lines.items c.in-Err.fault c.in-Err.ensures
