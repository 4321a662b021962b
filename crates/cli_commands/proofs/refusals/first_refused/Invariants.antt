use Rattle.std.proofs.Common.{◌≡◌, take}
use Rattle.cli_commands.specs.Refusals.{refused_count}
use Rattle.cli_commands.proofs.refusals.first_refused.Given as goal

abbrev pub invariant-loop-place : goal.invariant-loop-place
invariant-loop-place l = refused_count (take l.place l.records.items) ≡ 0
