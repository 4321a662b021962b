use Rattle.std.proofs.Common.{◌≡◌, true}
use Rattle.engine_carried.specs.TakenOver.{are_same_words, first_words}
use Rattle.engine_carried.proofs.carried_words.begins_alike.Given as goal

-- the words so far are the same
abbrev pub invariant-loop-index : goal.invariant-loop-index
invariant-loop-index l = are_same_words l.index (first_words l.old l.table) (first_words l.new l.table) ≡ true
