-- The range holds by the premises, the rest of any word.
use Rattle.std.proofs.Common.{arith}
use Rattle.scalar_domain.proofs.scalars.Scalar.within.Goals as goal

pub returns-clause-has : goal.returns-clause-has
returns-clause-has c = λ w from to.
    let all = c.any.ensures w (omega arith) in
    c.tightened.ensures.has w (record { fits = omega arith; in_unsigned = record { from_least = from; to_most = to }; in_signed = all.in_signed; in_bits = all.in_bits })
