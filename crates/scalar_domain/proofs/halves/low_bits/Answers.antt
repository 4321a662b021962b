-- The low half is the AND with 32 ones.
use Rattle.std.proofs.Common.{sym}
use Rattle.std.proofs.lemmas.Nat.{and_mask}
use Rattle.scalar_domain.proofs.Moved.{moved_agrees}
use Rattle.scalar_domain.proofs.halves.low_bits.Goals as goal

pub returns : goal.returns
returns c = λ w h. moved_agrees _ _ _ (sym (and_mask w 32)) (c.and.ensures w _ h c.exactly.ensures.agrees)
