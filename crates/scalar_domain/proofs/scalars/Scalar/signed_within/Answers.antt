-- The places of signed words are ordered as they are.
use Rattle.std.proofs.Common.{◌∙◌, ap}
use Rattle.std.specs.Int.{w64, cast_unsigned}
use Rattle.std.proofs.lemmas.Int.{to_z-of_z}
use Rattle.scalar_domain.proofs.Places.{least_place, most_place}
use Rattle.scalar_domain.proofs.scalars.Scalar.signed_within.Goals as goal

pub returns-clause-has : goal.returns-clause-has
returns-clause-has c = λ w fits from to.
    let all = c.any.ensures w fits in
    let least_bits = c.cast_unsigned.ensures ∙ ap (cast_unsigned w64) (to_z-of_z w64 c.args.least c.ranges.least) in
    let most_bits = c.cast_unsigned-2.ensures ∙ ap (cast_unsigned w64) (to_z-of_z w64 c.args.most c.ranges.most) in
    c.tightened.ensures.has w (record {
      fits = fits;
      in_unsigned = all.in_unsigned;
      in_signed = record { from_least = least_place c.args.least _ w c.ranges.least least_bits fits from; to_most = most_place c.args.most _ w c.ranges.most most_bits fits to };
      in_bits = all.in_bits;
    })
