-- those so far are put
use Rattle.std.proofs.Common.{take}
use Rattle.std.specs.List.{flat_map}
use Rattle.cli_text_page.specs.Page.{Puts}
use Rattle.show_decision.specs.Words.{other_text}
use Rattle.show_decision.proofs.words.put_others.Given as goal

abbrev pub invariant-loop-other : goal.invariant-loop-other
invariant-loop-other l = Puts l.fn.page (flat_map other_text (take l.other-index l.others)) l.page
