use Rattle.std.proofs.Common.{◌≡◌, ◌++◌, take}
use Rattle.engine_beginning.specs.Lines.{words_from}
use Rattle.engine_carried.specs.TakenOver.{first_words}
use Rattle.engine_carried.proofs.carried_words.add_first.Given as goal

-- the lines of the words so far are added
abbrev pub invariant-loop-index : goal.invariant-loop-index
invariant-loop-index l = l.lines.items ≡ l.fn.lines.items ++ words_from l.table 0 (take l.index (first_words l.new l.table))
