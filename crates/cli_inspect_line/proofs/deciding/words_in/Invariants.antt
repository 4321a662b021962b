-- the texts so far say the words so far
use Rattle.std.proofs.Common.{map, take}
use Rattle.cli_inspect_line.specs.Deciding.{AreWords}
use Rattle.cli_inspect_line.proofs.deciding.words_in.Given as goal

abbrev pub invariant-loop-text : goal.invariant-loop-text
invariant-loop-text l = AreWords (take l.text-index (map (λ text. text.now) l.texts)) l.words.items
