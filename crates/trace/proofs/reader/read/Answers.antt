use Rattle.trace.proofs.FromSecond.{whole}
use Rattle.world_calls.specs.declared.trace.Version.TheVariants.{One}
use Rattle.trace.proofs.reader.read.Goals as goal

pub returns-in-Some-clause-said : goal.returns-in-Some-clause-said
returns-in-Some-clause-said c = whole One c.args.text.now c.in-Some.lines.now c.read_lines.result c.in-Some.ensures c.read_lines.ensures.said
