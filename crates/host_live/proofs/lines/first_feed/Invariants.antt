-- no line feed as yet
use Rattle.std.proofs.Common.{◌-◌, ◌≤◌, length, take}
use Rattle.host_live.specs.LinesCome.{IsOneLine}
use Rattle.host_live.proofs.lines.first_feed.Given as goal

abbrev pub invariant-loop-place : goal.invariant-loop-place
invariant-loop-place l = record {
  within : l.place ≤ length l.bytes;
  one_line : IsOneLine (take l.place l.bytes);
}

abbrev pub decreases-loop-place : goal.decreases-loop-place
decreases-loop-place l = length l.bytes - l.place
