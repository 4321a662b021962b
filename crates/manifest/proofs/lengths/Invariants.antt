-- the lengths so far
use Rattle.std.proofs.Common.{◌≡◌, map, take}
use Rattle.manifest_form.specs.Seen.{table_seen}
use Rattle.manifest.proofs.Configured.{line_size}
use Rattle.manifest.proofs.lengths.Given as goal

abbrev pub invariant-loop-table : goal.invariant-loop-table
invariant-loop-table l = l.lengths.items ≡ map line_size (map table_seen (take l.table-index l.tables))
