-- the entries so far
use Rattle.std.proofs.Common.{◌≡◌, map, take}
use Rattle.toml.specs.View.{view}
use Rattle.manifest_form.specs.Migration.{entry_kept}
use Rattle.manifest_form.proofs.migration.entries_kept.Given as goal

abbrev pub invariant-loop-entry : goal.invariant-loop-entry
invariant-loop-entry l = map view l.all.items ≡ map (entry_kept l.controllers l.kind) (map view (take l.entry-index l.entries))
