use Rattle.show_decision.specs.Words.{other_text}
use Rattle.show_account.proofs.Putting.{puts_none}
use Rattle.show_decision.proofs.Written.{put_all, put_more}
use Rattle.show_decision.proofs.words.put_others.Goals as goal

pub loop-other-init : goal.loop-other-init
loop-other-init c = puts_none c.args.page.now

pub loop-other-preserved : goal.loop-other-preserved
loop-other-preserved c = put_more other_text c.args.others.now c.loop-other.other-index _ c.args.page.now c.loop-other.page c.put_other.new.page c.loop-other-test.true c.loop-other.invariant c.put_other.ensures

pub returns : goal.returns
returns c = put_all other_text c.args.others.now c.loop-other.other-index c.args.page.now c.loop-other.page c.loop-other-test.false c.loop-other.invariant
