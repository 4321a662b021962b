-- the entries so far and those that are left say, and are at fault, as all of them
use Rattle.std.proofs.Common.{◌≡◌, ◌++◌, None, map, filter_map, drop}
use Rattle.toml.specs.View.{view}
use Rattle.manifest_form.specs.Entries.{program_of}
use Rattle.manifest_form.specs.Faults.{lower, lowest_among, program_fault}
use Rattle.manifest_form.specs.Seen.{program_seen}
use Rattle.manifest_form.proofs.form.programs.Given as goal

abbrev pub invariant-loop-entry : goal.invariant-loop-entry
invariant-loop-entry l = record {
  fault : lower l.lowest (lowest_among program_fault (map view (drop l.entry-index l.entries))) ≡ lower l.fn.lowest (lowest_among program_fault (map view l.entries));
  says : l.lowest ≡ None → map program_seen l.programs.items ++ filter_map program_of (map view (drop l.entry-index l.entries)) ≡ filter_map program_of (map view l.entries);
}
