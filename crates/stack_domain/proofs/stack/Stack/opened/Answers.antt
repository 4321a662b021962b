use Rattle.std.proofs.Common.{◌≡◌, Bool, true, false, List, [], ◌∷◌, ◌++◌, subst, sym, ap, ◌∙◌}
use Rattle.bpf_stack_frame.specs.ByteSet.{no_bytes}
use Rattle.stack_domain.specs.Sets.{AreSets}
use Rattle.stack_domain.specs.Stack.{MarksCover}
use Rattle.stack_domain.proofs.Places.{kept_more, nothing_marked}
use Rattle.stack_domain.proofs.Covered.{covers_more, covers_less, last_whole}
use Rattle.stack_domain.proofs.stack.Stack.opened.Goals as goal

pub invariant_of-result : goal.invariant_of-result
invariant_of-result c = subst AreSets (sym c.push_blank.ensures) (kept_more c.self.inside.sets c.self.invariant.whole)

pub returns-clause-covers : goal.returns-clause-covers
returns-clause-covers c frames frame =
    let stack = c.args.self.now in
    let is = c.push_blank.ensures ∙ ap (λ (s : List (List Bool)). s ++ no_bytes ∷ []) c.self.view_is in (
      λ covers.
          let more : MarksCover (stack ++ no_bytes ∷ []) (frames ++ frame ∷ []) = subst (λ (s : List (List Bool)). MarksCover s (frames ++ frame ∷ [])) is covers in
          (covers_less stack no_bytes frames frame more, last_whole stack no_bytes frames frame more),
      λ both. subst (λ (s : List (List Bool)). MarksCover s (frames ++ frame ∷ [])) (sym is)
          (covers_more stack no_bytes frames frame both.0 both.1 (λ offset has. let none : false ≡ true = sym (nothing_marked offset) ∙ has in absurd (cc))),
    )
