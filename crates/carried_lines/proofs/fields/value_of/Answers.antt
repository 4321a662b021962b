use Rattle.carried_lines.proofs.Numerals.{one_reading}
use Rattle.carried_lines.proofs.fields.value_of.Goals as goal

pub returns : goal.returns
returns c = one_reading c.args.word.now c.long_number.result c.long_number.ensures
