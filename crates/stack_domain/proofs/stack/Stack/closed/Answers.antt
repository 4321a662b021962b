use Rattle.std.proofs.Common.{◌≡◌, ◌<◌, ◌+◌, ◌-◌, Bool, List, [], length, take, subst, sym, ◌∙◌, arith}
use Rattle.std.specs.Prelude.{slice_index_or}
use Rattle.stack_domain.specs.Stack.{Knows}
use Rattle.stack_domain.proofs.Places.{split_last}
use Rattle.stack_domain.proofs.Covered.{known_less}
use Rattle.stack_domain.proofs.stack.Stack.closed.Goals as goal

pub returns-clause-knows : goal.returns-clause-knows
returns-clause-knows c k offset live knows =
    let sets = c.self.inside.sets in
    let less = length sets - 1 in
    let at : less + 1 ≡ length sets = omega (arith, c.self.invariant.some) in
    let front : List (List Bool) = take less sets in
    let known = subst (λ (s : List (List Bool)). Knows s k offset) (sym c.self.view_is ∙ split_last sets less at) knows in
    subst (λ (s : List (List Bool)). Knows s k offset) (sym c.remove_last.ensures)
    (known_less front (slice_index_or sets less []) k offset (c.self.invariant.whole less (omega (arith, at))) (subst (λ (s : List (List Bool)). k < length s) c.remove_last.ensures live) known)
