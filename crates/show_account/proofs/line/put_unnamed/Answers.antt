use Rattle.std.proofs.Common.{codes}
use Rattle.cli_text_page.specs.Page.{byte_digits}
use Rattle.show_account.proofs.Putting.{puts_both}
use Rattle.show_account.proofs.line.put_unnamed.Goals as goal

pub returns : goal.returns
returns c = puts_both c.args.page.now c.text.new.self c.byte.new.self (codes "code ") (byte_digits c.args.code) c.text.ensures c.byte.ensures
