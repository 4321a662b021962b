use Rattle.std.proofs.Common.{◌≡◌, ◌<◌, ℕ, Bool, List, [], length, set, get_or, subst, sym, ap, ◌∙◌}
use Rattle.std.specs.Prelude.{slice_index_or, false, ◌&&◌}
use Rattle.std.proofs.lemmas.List.{get_or_default}
use Rattle.stack_domain.specs.Sets.{AreSets}
use Rattle.stack_domain.specs.Stack.{MarksCover, Knows}
use Rattle.stack_domain.proofs.Forgetting.{still_covers, still_knows, forgotten, are_left, inside}
use Rattle.stack_domain.proofs.stack.Stack.forget_word.Goals as goal

-- the frame's set is read, and put back with fewer bytes
left_of : (sets stack : List (List Bool)) (frame : ℕ) (read left others : List Bool) → sets ≡ stack → frame < length stack → read ≡ slice_index_or sets frame read
    → ((k : ℕ) → slice_index_or left k false ≡ (slice_index_or read k false && slice_index_or others k false))
    → (k : ℕ) → slice_index_or left k false ≡ (slice_index_or (slice_index_or stack frame []) k false && slice_index_or others k false)
left_of sets stack frame read left others view live at both k =
    let there : read ≡ slice_index_or stack frame [] = at ∙ (ap (λ (s : List (List Bool)). get_or s frame read) view ∙ get_or_default stack frame read [] live) in
    both k ∙ ap (λ (s : List Bool). slice_index_or s k false && slice_index_or others k false) there

pub invariant_of-self : goal.invariant_of-self
invariant_of-self c =
    let stack = c.args.self.now in
    let both = left_of c.self.inside.sets stack c.args.frame c.at.result.now c.intersection-left.result c.all_but-others.result c.self.view_is c.requires.live c.at.ensures c.intersection-left.ensures.bytes in
    subst AreSets (sym (c.set.ensures ∙ ap (λ (s : List (List Bool)). set s c.args.frame c.intersection-left.result) c.self.view_is))
    (are_left stack (subst AreSets c.self.view_is c.self.invariant) c.args.frame c.requires.live c.all_but-others.result c.intersection-left.result c.intersection-left.ensures.len both)

pub returns-clause-covers : goal.returns-clause-covers
returns-clause-covers c frames covers =
    let stack = c.args.self.now in
    let both = left_of c.self.inside.sets stack c.args.frame c.at.result.now c.intersection-left.result c.all_but-others.result c.self.view_is c.requires.live c.at.ensures c.intersection-left.ensures.bytes in
    subst (λ (s : List (List Bool)). MarksCover s frames) (sym (c.set.ensures ∙ ap (λ (s : List (List Bool)). set s c.args.frame c.intersection-left.result) c.self.view_is))
    (still_covers stack (subst AreSets c.self.view_is c.self.invariant) c.args.frame c.requires.live c.all_but-others.result c.intersection-left.result c.intersection-left.ensures.len both frames covers)

pub returns-clause-knows : goal.returns-clause-knows
returns-clause-knows c k offset outside knows =
    let stack = c.args.self.now in
    let are : AreSets stack = subst AreSets c.self.view_is c.self.invariant in
    let both = left_of c.self.inside.sets stack c.args.frame c.at.result.now c.intersection-left.result c.all_but-others.result c.self.view_is c.requires.live c.at.ensures c.intersection-left.ensures.bytes in
    let few = inside stack are c.args.frame c.requires.live c.all_but-others.result c.intersection-left.result c.intersection-left.ensures.len both k offset knows in
    subst (λ (s : List (List Bool)). Knows s k offset) (sym (c.set.ensures ∙ ap (λ (s : List (List Bool)). set s c.args.frame c.intersection-left.result) c.self.view_is))
    (still_knows stack are c.args.frame c.requires.live c.all_but-others.result c.intersection-left.result c.intersection-left.ensures.len both k offset (λ same. c.all_but-others.ensures.others offset few (outside same)) knows)

pub returns-clause-forgets : goal.returns-clause-forgets
returns-clause-forgets c offset from to knows =
    let stack = c.args.self.now in
    let both = left_of c.self.inside.sets stack c.args.frame c.at.result.now c.intersection-left.result c.all_but-others.result c.self.view_is c.requires.live c.at.ensures c.intersection-left.ensures.bytes in
    forgotten stack (subst AreSets c.self.view_is c.self.invariant) c.args.frame c.requires.live c.all_but-others.result c.intersection-left.result c.intersection-left.ensures.len both offset (c.all_but-others.ensures.none offset from to)
    (subst (λ (s : List (List Bool)). Knows s c.args.frame offset) (c.set.ensures ∙ ap (λ (s : List (List Bool)). set s c.args.frame c.intersection-left.result) c.self.view_is) knows)
