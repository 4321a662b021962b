use Rattle.whole_trace.proofs.Whole.{none_of, plain_back, plain_said}
use Rattle.whole_trace.proofs.reader.read_later.Goals as goal

pub returns-in-None-clause-said : goal.returns-in-None-clause-said
returns-in-None-clause-said c = plain_said c.args.text.now (none_of c.args.text.now c.requires.later c.in_default.ensures c.in-None.ensures) c.read_plain.result c.read_plain.ensures.said

pub returns-in-None-clause-back : goal.returns-in-None-clause-back
returns-in-None-clause-back c = plain_back c.args.text.now (none_of c.args.text.now c.requires.later c.in_default.ensures c.in-None.ensures) c.read_plain.result c.read_plain.ensures.back
