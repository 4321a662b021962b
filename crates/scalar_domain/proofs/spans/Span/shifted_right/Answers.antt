-- A word no greater, shifted by no less, is no greater.
use Rattle.scalar_domain.proofs.Shifting.{shifted_right_le}
use Rattle.scalar_domain.proofs.spans.Span.shifted_right.Goals as goal

pub returns : goal.returns
returns c = λ w k h counts. record {
  from_least = shifted_right_le _ _ _ _ h.from_least counts.to_most;
  to_most = shifted_right_le _ _ _ _ h.to_most counts.from_least;
}
