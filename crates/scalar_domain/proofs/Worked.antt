-- Worked rows of places: the least signed word stands first, -1 just below 0, and the greatest last.
use Rattle.std.proofs.Common.{◌≡◌, refl}
use Rattle.scalar_domain.specs.Scalar.{place}

least_first : place 0x8000000000000000 ≡ 0
least_first = refl

minus_one : place 0xffffffffffffffff ≡ 0x7fffffffffffffff
minus_one = refl

zero_in_the_middle : place 0 ≡ 0x8000000000000000
zero_in_the_middle = refl

greatest_last : place 0x7fffffffffffffff ≡ 0xffffffffffffffff
greatest_last = refl
