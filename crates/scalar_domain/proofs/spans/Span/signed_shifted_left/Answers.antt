-- Places above the least that keeps its sign are shifted as words are.
use Rattle.std.proofs.Common.{◌≤◌, ◌<◌, ◌-◌, ◌*◌, ◌/◌, ◌^◌, arith}
use Rattle.scalar_domain.specs.Scalar.{place}
use Rattle.scalar_domain.proofs.Shifting.{kept_below, shifted_left_le, shifted_left_fits, shifted_place}
use Rattle.scalar_domain.proofs.spans.Span.signed_shifted_left.Goals as goal

pub returns-then-lost-self-2 : goal.returns-then-lost-self-2
returns-then-lost-self-2 c = λ w fits h.
    let k = c.args.count in
    let lost = 2 ^ 63 - 2 ^ 63 / 2 ^ k in
    let m = c.args.self.most - lost in
    let l = c.args.self.least - lost in
    let kept : m * 2 ^ k < 2 ^ 64 = kept_below m k (omega arith) in
    let d = place w - lost in
    let from : l ≤ d = omega arith in
    let to : d ≤ m = omega arith in
    let word_kept : d * 2 ^ k < 2 ^ 64 = shifted_left_fits d m k k to (omega arith) kept in
    let is = shifted_place w k c.requires fits (omega arith) word_kept in
    let lower = shifted_left_le l d k k from (omega arith) word_kept in
    let upper = shifted_left_le d m k k to (omega arith) kept in
    record { from_least = omega (arith, is, lower); to_most = omega (arith, is, upper) }

pub returns-else-lost-self : goal.returns-else-lost-self
returns-else-lost-self c = λ w fits h. c.any.ensures _ (omega arith)
