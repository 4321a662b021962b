-- the line so far, and how many turns are left
use Rattle.std.proofs.Common.{◌≡◌, ◌≤◌, length}
use Rattle.trace.specs.declared.laws.TheConstants.{LONGEST_LINE}
use Rattle.host_recovery.proofs.Turns.{IsSoFar, turns}
use Rattle.host_recovery.proofs.lines.Lines.next.Given as goal

abbrev pub invariant-loop-byte : goal.invariant-loop-byte
invariant-loop-byte g l = record {
  so_far : IsSoFar (g.S.Source.remaining l.fn.source) (g.S.Source.remaining l.source) l.fn.self.ahead l.self.line l.self.ahead;
  few : length l.self.line ≤ LONGEST_LINE;
  still : g.S.Source.failures l.source ≡ g.S.Source.failures l.fn.source;
}

abbrev pub decreases-loop-byte : goal.decreases-loop-byte
decreases-loop-byte g l = turns l.self.line l.self.ahead
