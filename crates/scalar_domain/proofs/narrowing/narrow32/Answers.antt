-- The low halves are compared as words of 64 bits, and each narrows its word.
use Rattle.std.proofs.Common.{sym, ◌∙◌}
use Rattle.scalar_domain.specs.Halves.{compared_half}
use Rattle.scalar_domain.proofs.Moved.{moved_has}
use Rattle.scalar_domain.proofs.ComparedHalves.{halves_hold, low_of_compared, left_through, right_through}
use Rattle.scalar_domain.proofs.narrowing.narrow32.Goals as goal

pub returns-in-Some-clause-kept : goal.returns-in-Some-clause-kept
returns-in-Some-clause-kept c = λ a b h k e.
    let condition = c.args.condition in
    let p = c.in-Some.ensures.kept (compared_half condition a) (compared_half condition b) (c.compared_half-left_half.ensures a h) (c.compared_half-right_half.ensures b k) (sym (halves_hold condition a b) ∙ e) in
    c.possible.ensures.kept a b
    (c.with_low_half.ensures.has a h (moved_has _ _ _ (sym (low_of_compared condition a)) (c.low_half.ensures _ p.0)))
    (c.with_low_half-in-Some.ensures.has b k (moved_has _ _ _ (sym (low_of_compared condition b)) (c.low_half-in-Some.ensures _ p.1)))

pub returns-in-Some-clause-left_only : goal.returns-in-Some-clause-left_only
returns-in-Some-clause-left_only c = left_through c.possible.result _ c.args.left c.possible.ensures.left_only c.with_low_half.ensures.only

pub returns-in-Some-clause-right_only : goal.returns-in-Some-clause-right_only
returns-in-Some-clause-right_only c = right_through c.possible.result _ c.args.right c.possible.ensures.right_only c.with_low_half-in-Some.ensures.only

pub returns-in-None-clause-kept : goal.returns-in-None-clause-kept
returns-in-None-clause-kept c = λ a b h k e.
    let condition = c.args.condition in
    c.in-None.ensures.kept (compared_half condition a) (compared_half condition b) (c.compared_half-left_half.ensures a h) (c.compared_half-right_half.ensures b k) (sym (halves_hold condition a b) ∙ e)
