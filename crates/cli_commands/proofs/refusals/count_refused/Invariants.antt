use Rattle.std.proofs.Common.{◌≡◌, ◌≤◌, take}
use Rattle.cli_commands.specs.Refusals.{refused_count}
use Rattle.cli_commands.proofs.refusals.count_refused.Given as goal

abbrev pub invariant-loop-place : goal.invariant-loop-place
invariant-loop-place l = (l.count ≡ refused_count (take l.place l.records.items)) × (l.count ≤ l.place)
