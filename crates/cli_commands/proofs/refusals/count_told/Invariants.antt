use Rattle.std.proofs.Common.{◌≡◌, ◌≤◌, length, take}
use Rattle.std.specs.Prelude.{filter}
use Rattle.cli_commands.specs.Refusals.{tells}
use Rattle.cli_commands.proofs.refusals.count_told.Given as goal

abbrev pub invariant-loop-before : goal.invariant-loop-before
invariant-loop-before l = (l.count ≡ length (filter (tells l.call) (take l.before l.records.items))) × (l.count ≤ l.before)
