use Rattle.std.proofs.Common.{refl, rules}
use Rattle.std.specs.Int.{w16}
use Rattle.std.proofs.lemmas.Int.{to_z-of_z}
use Rattle.reg_domain.proofs.Ways.{goes_way}
use Rattle.reg_domain.proofs.following.follow.Goals as goal

pub returns-in_ok-store_operand-in-Store-clause-unstuck : goal.returns-in_ok-store_operand-in-Store-clause-unstuck
returns-in_ok-store_operand-in-Store-clause-unstuck c = rw c.in-Store.is ((rw (to_z-of_z w16 c.in-Store.offset (search rules)) at c.in_ok-store_operand-in-Store.ensures.goes).unstuck c.args.limits.now c.args.callers.now)

pub returns-in_ok-store_operand-in-Store-clause-follows : goal.returns-in_ok-store_operand-in-Store-clause-follows
returns-in_ok-store_operand-in-Store-clause-follows c = rw (c.is_taken.ensures, c.in-Store.is) (goes_way c.args.callers.now _ c.args.way c.args.description.now c.store_operand.new.description (λ m. refl) (rw (to_z-of_z w16 c.in-Store.offset (search rules)) at c.in_ok-store_operand-in-Store.ensures.goes))
