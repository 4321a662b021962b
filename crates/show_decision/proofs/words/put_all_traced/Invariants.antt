-- those so far are put
use Rattle.std.proofs.Common.{take}
use Rattle.std.specs.List.{flat_map}
use Rattle.cli_text_page.specs.Page.{Puts}
use Rattle.show_decision.specs.Words.{traced_text}
use Rattle.show_decision.proofs.words.put_all_traced.Given as goal

abbrev pub invariant-loop-told : goal.invariant-loop-told
invariant-loop-told l = Puts l.fn.page (flat_map traced_text (take l.told-index l.records)) l.page
