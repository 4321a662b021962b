-- those so far are put
use Rattle.std.proofs.Common.{take}
use Rattle.std.specs.List.{flat_map}
use Rattle.cli_text_page.specs.Page.{byte_digits, Puts}
use Rattle.show_decision.proofs.words.put_digits.Given as goal

abbrev pub invariant-loop-byte : goal.invariant-loop-byte
invariant-loop-byte l = Puts l.fn.page (flat_map byte_digits (take l.byte-index l.bytes)) l.page
