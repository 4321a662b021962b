-- what the lines in front say, and the number of the next line
use Rattle.std.proofs.Common.{◌≤◌, ◌+◌, length}
use denote.Shadow.{shadow}
use denote.Text.{Utf8}
use Rattle.scenario.proofs.SoFar.{AreSaidSoFar}
use Rattle.scenario.proofs.reading.read.Given as goal

abbrev pub invariant-loop-line : goal.invariant-loop-line
invariant-loop-line l = record {
  so_far : AreSaidSoFar l.fn.version l.fn.text l.calls.items l.rest l.number;
  fits : l.number + length l.rest ≤ length l.fn.text + 1;
  text : shadow (Utf8 l.rest);
}

abbrev pub decreases-loop-line : goal.decreases-loop-line
decreases-loop-line l = length l.rest
