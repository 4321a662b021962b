-- those so far are put
use Rattle.std.proofs.Common.{take}
use Rattle.std.specs.List.{flat_map}
use Rattle.cli_text_page.specs.Page.{Puts}
use Rattle.show_decision.specs.Words.{character}
use Rattle.show_decision.proofs.words.put_characters.Given as goal

abbrev pub invariant-loop-byte : goal.invariant-loop-byte
invariant-loop-byte l = Puts l.fn.page (flat_map character (take l.byte-index l.bytes)) l.page
