use Rattle.std.proofs.Common.{arith, ap, length, ◌∙◌}
use Rattle.host_recovery.specs.LinesRead.{LinesState}
use Rattle.host_recovery.proofs.Turns.{filled_so, long_so}
use Rattle.host_recovery.proofs.lines.Lines.next.Goals as goal

pub returns-then-len-ge-LONGEST_LINE : goal.returns-then-len-ge-LONGEST_LINE
returns-then-len-ge-LONGEST_LINE g c =
    let its = long_so (g.S.Source.remaining c.args.source.now) (g.S.Source.remaining c.loop-byte.source) c.args.self.now.ahead c.loop-byte.self.line c.loop-byte.self.ahead c.next_byte.new.self.ahead c.in-Some.byte
    c.loop-byte.invariant.so_far c.in-Some.ensures.byte c.if-byte-eq10.false (omega (arith, c.if-len-ge-LONGEST_LINE.true, c.len.ensures.count, ap (λ (s : LinesState). length s.line) c.self-in-Some.view_is, ap length c.in-Some.ensures.line)) in
    (its.0, its.1, its.2, its.3, its.4, its.5, its.6, c.loop-byte.invariant.still)

pub loop-byte-preserved : goal.loop-byte-preserved
loop-byte-preserved g c =
    let line = c.fill.ensures.line ∙ c.in-None.ensures.line in
    record {
      so_far = filled_so (g.S.Source.remaining c.args.source.now) (g.S.Source.remaining c.loop-byte.source) (g.S.Source.remaining c.fill.new.source) c.args.self.now.ahead c.loop-byte.self.line c.fill.new.self.line c.loop-byte.self.ahead c.fill.new.self.ahead
          c.loop-byte.invariant.so_far c.in-None.ensures.byte.0 line c.in-Some-fill.ensures.filled.0;
      few = omega (arith, ap length line, c.loop-byte.invariant.few);
      still = c.in-Some-fill.ensures.filled.2 ∙ c.loop-byte.invariant.still;
    }
