-- so many are live at least
use Rattle.std.proofs.Common.{◌≤◌, length}
use Rattle.host_trial.proofs.ending.live.Given as goal

abbrev pub invariant-loop-place : goal.invariant-loop-place
invariant-loop-place l = l.place ≤ length l.engine.transport.live
