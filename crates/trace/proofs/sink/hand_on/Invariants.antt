-- so much was taken
use Rattle.std.proofs.Common.{◌≡◌, ◌-◌, ◌≤◌, length, take}
use Rattle.std.specs.Io.KnownBytes.{Appends}
use Rattle.trace.proofs.sink.hand_on.Given as goal

abbrev pub invariant-loop-taken : goal.invariant-loop-taken
invariant-loop-taken g l = record {
  within : l.taken ≤ length l.text;
  told : Appends (g.S.Sink.bytes l.fn.out) (g.S.Sink.bytes l.out) (take l.taken l.text);
  none : g.S.Sink.failures l.out ≡ g.S.Sink.failures l.fn.out;
  same : g.S.Sink.origin l.out ≡ g.S.Sink.origin l.fn.out;
}

abbrev pub decreases-loop-taken : goal.decreases-loop-taken
decreases-loop-taken g l = length l.text - l.taken
