use Rattle.cli_text_page.specs.Page.{byte_digits}
use Rattle.show_account.proofs.Putting.{puts_none}
use Rattle.show_decision.proofs.Written.{put_all, put_more}
use Rattle.show_decision.proofs.words.put_digits.Goals as goal

pub loop-byte-init : goal.loop-byte-init
loop-byte-init c = puts_none c.args.page.now

pub loop-byte-preserved : goal.loop-byte-preserved
loop-byte-preserved c = put_more byte_digits c.args.bytes.now c.loop-byte.byte-index _ c.args.page.now c.loop-byte.page c.byte.new.self c.loop-byte-test.true c.loop-byte.invariant c.byte.ensures

pub returns : goal.returns
returns c = put_all byte_digits c.args.bytes.now c.loop-byte.byte-index c.args.page.now c.loop-byte.page c.loop-byte-test.false c.loop-byte.invariant
