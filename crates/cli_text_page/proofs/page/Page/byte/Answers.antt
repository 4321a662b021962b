use Rattle.std.proofs.Common.{arith, false}
use Rattle.std.proofs.lemmas.Fmt.{hex_byte}
use Rattle.cli_text_page.proofs.page.Page.byte.Goals as goal

pub returns-else-is_err : goal.returns-else-is_err
returns-else-is_err c = let hex = hex_byte false c.args.byte (omega (arith, c.ranges.byte.fits)) in grind (arith, hex)
