use Rattle.std.proofs.Common.{◌≤◌, length}
use Rattle.engine_carried.proofs.carried_numbers.live_count.Given as goal

-- so many are live at least
abbrev pub invariant-loop-place : goal.invariant-loop-place
invariant-loop-place l = l.place ≤ length l.transport.live
