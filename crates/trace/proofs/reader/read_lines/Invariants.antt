-- the records so far, and the number of the next line
use Rattle.std.proofs.Common.{◌≡◌, ◌≤◌, ◌+◌, length}
use denote.Shadow.{shadow}
use denote.Text.{Utf8}
use Rattle.trace.proofs.SoFar.{IsReadSoFar}
use Rattle.trace.proofs.reader.read_lines.Given as goal

abbrev pub invariant-loop-line : goal.invariant-loop-line
invariant-loop-line l = record {
  so_far : IsReadSoFar l.version l.text l.records.items l.rest;
  place : l.number ≡ length l.records.items + l.first;
  fits : l.number + length l.rest ≤ length l.text + l.first;
  text : shadow (Utf8 l.rest);
}

abbrev pub decreases-loop-line : goal.decreases-loop-line
decreases-loop-line l = length l.rest
