use Rattle.trace.proofs.SoFar.{none_of, no_header}
use Rattle.trace.proofs.FromSecond.{whole}
use Rattle.world_calls.specs.declared.trace.Version.TheVariants.{Three, Two}
use Rattle.trace.proofs.reader.read_later.Goals as goal

pub returns-in-Some-clause-said : goal.returns-in-Some-clause-said
returns-in-Some-clause-said c = whole Two c.args.text.now c.in-Some.lines.now c.read_lines.result c.in-Some.ensures c.read_lines.ensures.said

pub returns-in-Some-behind-clause-said : goal.returns-in-Some-behind-clause-said
returns-in-Some-behind-clause-said c = whole Three c.args.text.now c.in-Some-behind.lines.now c.read_lines-in-Some-behind.result c.in-Some-behind.ensures c.read_lines-in-Some-behind.ensures.said

pub returns-in-None-clause-said : goal.returns-in-None-clause-said
returns-in-None-clause-said c = none_of c.args.text.now c.requires.later c.in_default.ensures c.in-None.ensures

pub returns-in-None-clause-back : goal.returns-in-None-clause-back
returns-in-None-clause-back c = no_header c.args.text.now (none_of c.args.text.now c.requires.later c.in_default.ensures c.in-None.ensures)
