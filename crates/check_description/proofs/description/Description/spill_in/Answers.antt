use Rattle.check_description.proofs.Respilled.{spilled_word}
use Rattle.check_description.proofs.description.Description.spill_in.Goals as goal

pub returns-clause-writes : goal.returns-clause-writes
returns-clause-writes c = spilled_word c.put.result c.args.self.now c.write_in.new.self c.put.new.self c.args.frame c.args.word c.args.kind c.of.result c.requires.live c.requires.inside c.write_in.ensures.writes c.of.ensures.holds c.of.ensures.near c.put.ensures.put c.put.ensures.others
