-- the entries so far and those that are left say, and are at fault, as all of them
use Rattle.std.proofs.Common.{◌≡◌, ◌++◌, None, map, filter_map, drop}
use Rattle.toml.specs.View.{view}
use Rattle.manifest_form.specs.Entries.{table_of}
use Rattle.manifest_form.specs.Faults.{lower, lowest_among, table_fault}
use Rattle.manifest_form.specs.Seen.{table_seen}
use Rattle.manifest_form.proofs.form.tables.Given as goal

abbrev pub invariant-loop-entry : goal.invariant-loop-entry
invariant-loop-entry l = record {
  fault : lower l.lowest (lowest_among (table_fault l.version) (map view (drop l.entry-index l.entries))) ≡ lower l.fn.lowest (lowest_among (table_fault l.version) (map view l.entries));
  says : l.lowest ≡ None → map table_seen l.tables.items ++ filter_map (table_of l.version) (map view (drop l.entry-index l.entries)) ≡ filter_map (table_of l.version) (map view l.entries);
}
