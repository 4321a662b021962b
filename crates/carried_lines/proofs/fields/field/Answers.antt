use Rattle.std.proofs.Common.{None, lit<}
use Rattle.std.proofs.lemmas.Str.Pattern.{strip_prefix_char}
use Rattle.carried_lines.proofs.Cuts.{no_field}
use Rattle.carried_lines.proofs.fields.field.Goals as goal

pub returns-in_err-text : goal.returns-in_err-text
returns-in_err-text c = rw c.from_residual.ensures (no_field c.args.text.now (strip_prefix_char 32 c.args.text.now None c.in_err-text.ensures.cases (lit< tt)))
