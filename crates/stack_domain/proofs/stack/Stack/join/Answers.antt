use Rattle.std.proofs.Common.{List, Bool, subst, sym}
use Rattle.stack_domain.specs.Stack.{Knows}
use Rattle.stack_domain.proofs.Covered.{knows_both}
use Rattle.stack_domain.proofs.stack.Stack.join.Goals as goal

pub returns-clause-knows : goal.returns-clause-knows
returns-clause-knows c k offset first second =
    knows_both c.self.inside.sets c.other.inside.sets c.intersect.new.sets c.self.invariant c.other.invariant
    (λ j i live. c.intersect.ensures.both j i live)
    k offset (subst (λ (s : List (List Bool)). Knows s k offset) (sym c.self.view_is) first) (subst (λ (s : List (List Bool)). Knows s k offset) (sym c.other.view_is) second)
