use Rattle.std.proofs.Common.{◌++◌, [], ◌∷◌, codes}
use Rattle.std.specs.List.{flat_map}
use Rattle.cli_text_page.specs.Page.{byte_digits}
use Rattle.show_account.proofs.Putting.{puts_both}
use Rattle.show_decision.specs.Words.{character}
use Rattle.show_decision.proofs.words.put_bytes.Goals as goal

pub returns : goal.returns
returns c =
    let digits = flat_map byte_digits c.args.bytes.now in
    let characters = flat_map character c.args.bytes.now in
    puts_both c.args.page.now c.text.new.self c.text-3.new.self (codes "; traced ") (digits ++ (32 ∷ 34 ∷ [] ++ (characters ++ 34 ∷ []))) c.text.ensures
    (puts_both c.text.new.self c.put_digits.new.page c.text-3.new.self digits (32 ∷ 34 ∷ [] ++ (characters ++ 34 ∷ [])) c.put_digits.ensures
    (puts_both c.put_digits.new.page c.text-2.new.self c.text-3.new.self (32 ∷ 34 ∷ []) (characters ++ 34 ∷ []) c.text-2.ensures
    (puts_both c.text-2.new.self c.put_characters.new.page c.text-3.new.self characters (34 ∷ []) c.put_characters.ensures c.text-3.ensures)))
