-- The test of a common bit, as a fact on the AND.
use Rattle.std.proofs.Common.{◌∙◌}
use Rattle.std.proofs.lemmas.Nat.{and_comm}
use Rattle.scalar_domain.proofs.SignedOrder.{is_some, is_none}
use Rattle.scalar_domain.proofs.comparing.sharing.Goals as goal

pub returns-then-is_shared-clause-has : goal.returns-then-is_shared-clause-has
returns-then-is_shared-clause-has c = λ a b h k e.
    let some = is_some _ _ e c.if-is_shared.true in
    (c.sharing_some.ensures.has a b h k some, c.sharing_some-then-is_shared.ensures.has b a k h (λ none. some (and_comm a b ∙ none)))

pub returns-else-is_shared-clause-has : goal.returns-else-is_shared-clause-has
returns-else-is_shared-clause-has c = λ a b h k e.
    let none = is_none _ _ e c.if-is_shared.false in
    (c.sharing_none.ensures.has a b h k none, c.sharing_none-else-is_shared.ensures.has b a k h (and_comm b a ∙ none))
