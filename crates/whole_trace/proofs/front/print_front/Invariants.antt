-- the front of the lines so far
use Rattle.std.proofs.Common.{◌≡◌, Some, take}
use Rattle.whole_trace.specs.Front.{front_text}
use Rattle.whole_trace.proofs.front.print_front.Given as goal

abbrev pub invariant-loop-line : goal.invariant-loop-line
invariant-loop-line l = front_text l.fn.version (take l.line-index l.lines) ≡ Some l.bytes.items
