-- The place of a signed word shifted right, by that of the word.
use Rattle.std.proofs.Common.{arith}
use Rattle.scalar_domain.specs.Scalar.{place}
use Rattle.scalar_domain.proofs.Shifting.{shifted_right_le, signed_right_place, right_place_fits}
use Rattle.scalar_domain.proofs.spans.Span.signed_shifted_right.Goals as goal

pub returns : goal.returns
returns c = λ w fits h.
    let k = c.args.count in
    let is = signed_right_place w k c.requires fits in
    let lower = shifted_right_le c.args.self.least (place w) k k h.from_least (omega arith) in
    let upper = shifted_right_le (place w) c.args.self.most k k h.to_most (omega arith) in
    let small = right_place_fits (place w) k c.requires (omega arith) in
    let small_most = right_place_fits c.args.self.most k c.requires (omega arith) in
    record { from_least = omega (arith, is, lower, small); to_most = omega (arith, is, upper, small, small_most) }
