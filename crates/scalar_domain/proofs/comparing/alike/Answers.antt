-- Words whose test for equality fails differ.
use Rattle.std.proofs.Common.{sym}
use Rattle.scalar_domain.proofs.SignedOrder.{differ}
use Rattle.scalar_domain.proofs.comparing.alike.Goals as goal

pub returns-else-are_equal-clause-has : goal.returns-else-are_equal-clause-has
returns-else-are_equal-clause-has c = λ a b h k e.
    let apart = differ a b _ e c.if-are_equal.false in
    (c.differing.ensures.has a b h k apart, c.differing-else-are_equal.ensures.has b a k h (λ same. apart (sym same)))
