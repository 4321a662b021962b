use Rattle.std.proofs.Common.{◌≡◌, true, false, List, Bool, [], ◌∷◌, ◌++◌, subst, sym, ap, ◌∙◌}
use Rattle.bpf_stack_frame.specs.ByteSet.{no_bytes}
use Rattle.stack_domain.specs.Sets.{AreSets}
use Rattle.stack_domain.specs.Stack.{MarksCover}
use Rattle.stack_domain.proofs.Places.{kept_one, nothing_marked}
use Rattle.stack_domain.proofs.Covered.{covers_more, covers_none}
use Rattle.stack_domain.proofs.stack.Stack.outermost.Goals as goal

pub invariant_of-result : goal.invariant_of-result
invariant_of-result c =
    subst AreSets (sym (c.push_blank.ensures ∙ ap (λ (s : List (List Bool)). s ++ no_bytes ∷ []) c.none-sets.ensures)) kept_one

pub returns-clause-covers : goal.returns-clause-covers
returns-clause-covers c frame long =
    subst (λ (s : List (List Bool)). MarksCover s (frame ∷ [])) (sym (c.push_blank.ensures ∙ ap (λ (s : List (List Bool)). s ++ no_bytes ∷ []) c.none-sets.ensures))
    (covers_more [] no_bytes [] frame covers_none long (λ offset has. let none : false ≡ true = sym (nothing_marked offset) ∙ has in absurd (cc)))
