-- so many of those before were counted
use Rattle.std.proofs.Common.{◌≡◌, ◌≤◌, take}
use Rattle.host_trial.specs.Submitted.{submissions}
use Rattle.host_trial.proofs.submissions.submissions.Given as goal

abbrev pub invariant-loop-place : goal.invariant-loop-place
invariant-loop-place l = (l.count ≡ submissions l.queue (take l.place l.records.items)) × (l.count ≤ l.place)
