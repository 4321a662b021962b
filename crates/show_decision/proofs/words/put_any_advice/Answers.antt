use Rattle.std.proofs.Common.{codes}
use Rattle.show_account.specs.Names.{advice_text}
use Rattle.show_account.proofs.Putting.{puts_both}
use Rattle.show_decision.proofs.words.put_any_advice.Goals as goal

pub returns : goal.returns
returns c = puts_both c.args.page.now c.text.new.self c.put_advice.new.page (codes ", advised ") (advice_text c.args.word) c.text.ensures c.put_advice.ensures
