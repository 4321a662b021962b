use Rattle.std.proofs.Common.{◌++◌, codes, refl}
use Rattle.show_account.proofs.Putting.{puts_both}
use Rattle.show_decision.proofs.words.put_finished.Goals as goal

pub returns : goal.returns
returns c =
    let named = c.put_code.ensures in
    (codes "finished, " ++ named.0, (named.0, named.1, refl), puts_both c.args.page.now c.text.new.self c.put_code.new.page (codes "finished, ") named.0 c.text.ensures named.2)
