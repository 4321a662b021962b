use Rattle.std.proofs.Common.{◌≡◌, ◌≤◌, length, take}
use Rattle.host_scenario.specs.Asked.{by_host}
use Rattle.host_scenario.proofs.counting.count_by_host.Given as goal

abbrev pub invariant-loop-place : goal.invariant-loop-place
invariant-loop-place l = (l.count ≡ length (by_host (take l.place l.records.items))) × (l.count ≤ l.place)
