-- the entries so far and those that are left say, and are at fault, as all of them
use Rattle.std.proofs.Common.{◌≡◌, ◌++◌, None, map, filter_map, drop}
use Rattle.toml.specs.View.{view}
use Rattle.manifest_form.specs.Entries.{queue_of}
use Rattle.manifest_form.specs.Faults.{lower, lowest_among, queue_fault}
use Rattle.manifest_form.specs.Seen.{queue_seen}
use Rattle.manifest_form.proofs.form.queues.Given as goal

abbrev pub invariant-loop-entry : goal.invariant-loop-entry
invariant-loop-entry l = record {
  fault : lower l.lowest (lowest_among (queue_fault l.controllers) (map view (drop l.entry-index l.entries))) ≡ lower l.fn.lowest (lowest_among (queue_fault l.controllers) (map view l.entries));
  says : l.lowest ≡ None → map queue_seen l.queues.items ++ filter_map (queue_of l.controllers) (map view (drop l.entry-index l.entries)) ≡ filter_map (queue_of l.controllers) (map view l.entries);
}
