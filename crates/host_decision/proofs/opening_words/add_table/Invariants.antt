-- the lines of the words so far are added
use Rattle.std.proofs.Common.{◌≡◌, ◌++◌, [], get_or, take}
use Rattle.engine_beginning.specs.Lines.{words_from}
use Rattle.host_decision.proofs.opening_words.add_table.Given as goal

abbrev pub invariant-loop-index : goal.invariant-loop-index
invariant-loop-index l = l.lines.items ≡ l.fn.lines.items ++ words_from l.table 0 (take l.index (get_or l.tables l.table []))
