use Rattle.std.proofs.Common.{arith}
use Rattle.cli_text_page.proofs.page.Page.word.Goals as goal

pub returns-else-is_err : goal.returns-else-is_err
returns-else-is_err c = grind arith
