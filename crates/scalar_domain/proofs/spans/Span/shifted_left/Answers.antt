-- A word no greater, shifted by no more, is no greater, as nothing is lost.
use Rattle.std.proofs.Common.{arith}
use Rattle.scalar_domain.proofs.Shifting.{kept_below, shifted_left_le, shifted_left_fits}
use Rattle.scalar_domain.proofs.spans.Span.shifted_left.Goals as goal

pub returns-then-self-counts : goal.returns-then-self-counts
returns-then-self-counts c = λ w k h counts.
    let kept = kept_below c.args.self.most c.args.counts.most c.if-self-counts.true in
    record {
      from_least = shifted_left_le _ _ _ _ h.from_least counts.from_least (shifted_left_fits w c.args.self.most k c.args.counts.most h.to_most counts.to_most kept);
      to_most = shifted_left_le _ _ _ _ h.to_most counts.to_most kept;
    }

pub returns-else-self-counts : goal.returns-else-self-counts
returns-else-self-counts c = λ w k h counts. c.any.ensures _ (omega arith)
