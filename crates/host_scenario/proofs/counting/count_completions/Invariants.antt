use Rattle.std.proofs.Common.{◌≡◌, ◌≤◌, length, take}
use Rattle.workers.specs.Recorded.{completions_of}
use Rattle.host_scenario.proofs.counting.count_completions.Given as goal

abbrev pub invariant-loop-place : goal.invariant-loop-place
invariant-loop-place l = (l.count ≡ length (completions_of (take l.place l.records.items))) × (l.count ≤ l.place)
