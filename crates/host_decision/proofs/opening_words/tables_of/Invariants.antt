-- the words so far are written, and the tables are as long as they were
use Rattle.std.proofs.Common.{◌≡◌, length, map, take}
use Rattle.host_decision.specs.Asked.{written}
use Rattle.host_decision.proofs.opening_words.tables_of.Given as goal

abbrev pub invariant-loop-word : goal.invariant-loop-word
invariant-loop-word l = record {
  so : l.tables ≡ written l.config.tables (take l.word-index l.words);
  lengths : map (λ table. length table) l.tables ≡ l.config.limits.table_lengths;
}
