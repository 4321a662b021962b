use Rattle.std.proofs.Common.{◌++◌, codes}
use Rattle.std.specs.Fmt.{decimal}
use Rattle.show_account.proofs.Putting.{puts_both}
use Rattle.show_account.proofs.line.put_advice_named.Goals as goal

pub returns : goal.returns
returns c =
    let digits = decimal c.args.word in
    puts_both c.args.page.now c.text.new.self c.text-3.new.self c.args.name.now (codes " (" ++ (digits ++ codes ")")) c.text.ensures
    (puts_both c.text.new.self c.text-2.new.self c.text-3.new.self (codes " (") (digits ++ codes ")") c.text-2.ensures
    (puts_both c.text-2.new.self c.number.new.self c.text-3.new.self digits (codes ")") c.number.ensures c.text-3.ensures))
