use Rattle.std.proofs.Common.{◌≡◌, ◌++◌, length, map, take}
use Rattle.std.specs.List.{range_with_len}
use Rattle.engine_beginning.specs.Lines.{tables_from}
use Rattle.engine_carried.specs.TakenOver.{words_over}
use Rattle.engine_carried.proofs.carried_words.add_words.Given as goal

-- the lines of the tables so far are added
abbrev pub invariant-loop-table : goal.invariant-loop-table
invariant-loop-table l = l.lines.items ≡ l.fn.lines.items ++ tables_from 0 (take l.table (map (words_over l.old l.new l.runs.runs.tables) (range_with_len 0 (length l.new.limits.table_lengths))))
