-- The bits that a word must have are among those that it may have.
use Rattle.std.proofs.Common.{ap}
use Rattle.std.specs.Prelude.{not}
use Rattle.std.proofs.lemmas.Bool.{eq-eqb}
use Rattle.scalar_domain.proofs.Subsets.{must_in_may}
use Rattle.scalar_domain.proofs.bits.KnownBits.is_empty.Goals as goal

pub returns : goal.returns
returns c = λ w h. ap not (eq-eqb _ _ (must_in_may _ _ w h.has h.has_only))
