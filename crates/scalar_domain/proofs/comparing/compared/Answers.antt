-- Each condition as an order, with the sides as they stand or changed for one another.
use Rattle.std.proofs.Common.{ap, sym, subst, ◌∙◌}
use Rattle.std.specs.Int.{w64}
use Rattle.bpf_words.specs.Words.{holds}
use Rattle.scalar_domain.specs.declared.scalars.Scalar.{Scalar}
use Rattle.scalar_domain.specs.Scalar.{Has}
use Rattle.scalar_domain.proofs.SignedOrder.{not_less, signed_less, signed_no_more}
use Rattle.scalar_domain.proofs.comparing.compared.Goals as goal

pub returns-in-GreaterOrEqual-clause-has : goal.returns-in-GreaterOrEqual-clause-has
returns-in-GreaterOrEqual-clause-has c = λ a b h k e.
    let is = sym (ap (λ x. holds w64 x a b) c.in-GreaterOrEqual.is) ∙ e in
    c.ordered-in-GreaterOrEqual.ensures.has a b h k (not_less a b c.args.taken is)

pub returns-in-LessOrEqual-clause-has : goal.returns-in-LessOrEqual-clause-has
returns-in-LessOrEqual-clause-has c = λ a b h k e.
    let is = sym (ap (λ x. holds w64 x a b) c.in-LessOrEqual.is) ∙ e in
    let p = c.ordered-in-LessOrEqual.ensures.has b a k h (not_less b a c.args.taken is) in
    (subst (λ (s : Scalar). Has s a) (sym c.turned-in-LessOrEqual.ensures.left) p.1, subst (λ (s : Scalar). Has s b) (sym c.turned-in-LessOrEqual.ensures.right) p.0)

pub returns-in-SignedLess-clause-has : goal.returns-in-SignedLess-clause-has
returns-in-SignedLess-clause-has c = λ a b h k e.
    let is = sym (ap (λ x. holds w64 x a b) c.in-SignedLess.is) ∙ e in
    c.signed_ordered.ensures.has a b h k (signed_less a b c.args.taken h.fits k.fits is)

pub returns-in-SignedGreaterOrEqual-clause-has : goal.returns-in-SignedGreaterOrEqual-clause-has
returns-in-SignedGreaterOrEqual-clause-has c = λ a b h k e.
    let is = sym (ap (λ x. holds w64 x a b) c.in-SignedGreaterOrEqual.is) ∙ e in
    c.signed_ordered-in-SignedGreaterOrEqual.ensures.has a b h k (not_less _ _ c.args.taken (signed_no_more b a c.args.taken k.fits h.fits is))

pub returns-in-SignedGreater-clause-has : goal.returns-in-SignedGreater-clause-has
returns-in-SignedGreater-clause-has c = λ a b h k e.
    let is = sym (ap (λ x. holds w64 x a b) c.in-SignedGreater.is) ∙ e in
    let p = c.signed_ordered-in-SignedGreater.ensures.has b a k h (signed_less b a c.args.taken k.fits h.fits is) in
    (subst (λ (s : Scalar). Has s a) (sym c.turned-in-SignedGreater.ensures.left) p.1, subst (λ (s : Scalar). Has s b) (sym c.turned-in-SignedGreater.ensures.right) p.0)

pub returns-in-SignedLessOrEqual-clause-has : goal.returns-in-SignedLessOrEqual-clause-has
returns-in-SignedLessOrEqual-clause-has c = λ a b h k e.
    let is = sym (ap (λ x. holds w64 x a b) c.in-SignedLessOrEqual.is) ∙ e in
    let p = c.signed_ordered-in-SignedLessOrEqual.ensures.has b a k h (not_less _ _ c.args.taken (signed_no_more a b c.args.taken h.fits k.fits is)) in
    (subst (λ (s : Scalar). Has s a) (sym c.turned-in-SignedLessOrEqual.ensures.left) p.1, subst (λ (s : Scalar). Has s b) (sym c.turned-in-SignedLessOrEqual.ensures.right) p.0)
