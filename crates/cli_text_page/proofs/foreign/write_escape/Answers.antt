use Rattle.std.proofs.Common.{arith, false}
use Rattle.std.proofs.lemmas.Fmt.{hex_byte}
use Rattle.cli_text_page.proofs.foreign.write_escape.Goals as goal

pub returns-in_default : goal.returns-in_default
returns-in_default g c = let hex = hex_byte false c.args.character (omega (arith, c.if-code-lt128.true, c.from-code.ensures)) in grind (arith, hex)
