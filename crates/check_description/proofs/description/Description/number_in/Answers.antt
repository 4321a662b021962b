use Rattle.std.proofs.Common.{refl}
use Rattle.check_description.proofs.KeptNumbers.{found_if}
use Rattle.check_description.proofs.description.Description.number_in.Goals as goal

pub returns-then-offsets : goal.returns-then-offsets
returns-then-offsets c = found_if c.args.self.now (record { frame = c.args.frame; offset = c.args.offsets.least; bytes = c.args.count }) c.args.offsets c.find.result c.if-offsets.true refl c.requires.inside c.find.ensures
