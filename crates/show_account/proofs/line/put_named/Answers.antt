use Rattle.std.proofs.Common.{◌++◌, codes}
use Rattle.cli_text_page.specs.Page.{byte_digits}
use Rattle.show_account.proofs.Putting.{puts_both}
use Rattle.show_account.proofs.line.put_named.Goals as goal

pub returns : goal.returns
returns c =
    let digits = byte_digits c.args.code in
    puts_both c.args.page.now c.text.new.self c.text-3.new.self c.args.name.now (codes " (" ++ (digits ++ codes ")")) c.text.ensures
    (puts_both c.text.new.self c.text-2.new.self c.text-3.new.self (codes " (") (digits ++ codes ")") c.text-2.ensures
    (puts_both c.text-2.new.self c.byte.new.self c.text-3.new.self digits (codes ")") c.byte.ensures c.text-3.ensures))
