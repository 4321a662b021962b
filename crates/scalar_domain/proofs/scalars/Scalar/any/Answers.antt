-- Each part holds of every word.
use Rattle.std.proofs.Common.{arith}
use Rattle.scalar_domain.proofs.scalars.Scalar.any.Goals as goal

pub returns : goal.returns
returns c = λ w fits. record { fits = fits; in_unsigned = c.any.ensures w fits; in_signed = c.any-2.ensures _ (omega arith); in_bits = c.any-3.ensures w fits }
