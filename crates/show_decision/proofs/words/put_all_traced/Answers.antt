use Rattle.std.proofs.Common.{subst}
use Rattle.world_calls.specs.declared.record.Record.{Record}
use Rattle.cli_text_page.specs.Page.{Puts}
use Rattle.show_decision.specs.Words.{traced_text}
use Rattle.show_account.proofs.Putting.{puts_none}
use Rattle.show_decision.proofs.Written.{put_all, put_more}
use Rattle.show_decision.proofs.words.put_all_traced.Goals as goal

pub loop-told-init : goal.loop-told-init
loop-told-init c = puts_none c.args.page.now

pub loop-told-preserved : goal.loop-told-preserved
loop-told-preserved c =
    put_more traced_text c.args.records.now c.loop-told.told-index c.told-item.result c.args.page.now c.loop-told.page c.put_traced.new.page c.loop-told-test.true c.loop-told.invariant
    (subst (λ (told : Record). Puts c.loop-told.page (traced_text told) c.put_traced.new.page) c.told-item.is c.put_traced.ensures)

pub returns : goal.returns
returns c = put_all traced_text c.args.records.now c.loop-told.told-index c.args.page.now c.loop-told.page c.loop-told-test.false c.loop-told.invariant
