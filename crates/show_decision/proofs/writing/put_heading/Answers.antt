use Rattle.std.proofs.Common.{◌++◌, ℕ, codes, subst}
use Rattle.ccb.specs.Status.{code_of}
use Rattle.cli_text_page.specs.Page.{Puts, byte_digits}
use Rattle.show_account.proofs.Putting.{puts_both}
use Rattle.show_decision.specs.RowTexts.{key_text}
use Rattle.show_decision.proofs.writing.put_heading.Goals as goal

pub returns : goal.returns
returns c =
    let it = c.args.heading in
    let status = codes "status " ++ byte_digits (code_of it.status) in
    let scsi = codes " scsi " ++ byte_digits it.scsi in
    let response = codes " code " ++ byte_digits it.response in
    let key = codes " key " ++ key_text it.key in
    let status_put : Puts c.args.page.now status c.put_byte.new.page =
    subst (λ (code : ℕ). Puts c.args.page.now (codes "status " ++ byte_digits code) c.put_byte.new.page) c.code.ensures c.put_byte.ensures in
    puts_both c.args.page.now c.put_byte.new.page c.put_key.new.page status (scsi ++ (response ++ key)) status_put
    (puts_both c.put_byte.new.page c.put_byte-2.new.page c.put_key.new.page scsi (response ++ key) c.put_byte-2.ensures
    (puts_both c.put_byte-2.new.page c.put_byte-3.new.page c.put_key.new.page response key c.put_byte-3.ensures
    (puts_both c.put_byte-3.new.page c.text.new.self c.put_key.new.page (codes " key ") (key_text it.key) c.text.ensures c.put_key.ensures)))
