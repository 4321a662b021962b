-- the first words of the tables so far
use Rattle.std.proofs.Common.{◌≡◌, map}
use Rattle.engine_config.specs.Configured.{firsts_of}
use Rattle.manifest_form.specs.Seen.{table_seen}
use Rattle.manifest.proofs.Configured.{line_words}
use Rattle.manifest.proofs.setup.first_words.Given as goal

abbrev pub invariant-loop-table : goal.invariant-loop-table
invariant-loop-table l = firsts_of l.lists.items ≡ map line_words (map table_seen l.yielded)
