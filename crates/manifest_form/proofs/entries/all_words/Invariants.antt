-- the words so far
use Rattle.std.proofs.Common.{◌≡◌, map, take}
use Rattle.toml.specs.View.{view}
use Rattle.manifest_form.specs.Entries.{word_at}
use Rattle.manifest_form.proofs.entries.all_words.Given as goal

abbrev pub invariant-loop-value : goal.invariant-loop-value
invariant-loop-value l = l.words.items ≡ map word_at (map view (take l.value-index l.values))
