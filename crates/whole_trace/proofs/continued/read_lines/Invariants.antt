-- the lines so far, and the number of the next one
use Rattle.std.proofs.Common.{◌≡◌, ◌≤◌, ◌+◌, Some, length}
use Rattle.std.specs.Fmt.{option_append}
use denote.Shadow.{shadow}
use denote.Text.{Utf8}
use Rattle.carried_lines.specs.Following.{HasTaken}
use Rattle.whole_trace.specs.Continued.{carried_texts}
use Rattle.whole_trace.proofs.continued.read_lines.Given as goal

abbrev pub invariant-loop-line : goal.invariant-loop-line
invariant-loop-line l = record {
  taken : HasTaken l.lines.items l.order;
  front : option_append (carried_texts l.fn.version l.lines.items) (Some l.rest) ≡ Some l.text;
  place : l.number ≡ length l.lines.items + 2;
  fits : length l.lines.items + length l.rest ≤ length l.text;
  text : shadow (Utf8 l.rest);
}

abbrev pub decreases-loop-line : goal.decreases-loop-line
decreases-loop-line l = length l.rest
