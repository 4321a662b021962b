use Rattle.std.proofs.Common.{◌≡◌, ◌+◌, Bool, List, [], get_or, ap, subst, sym, ◌∙◌, arith}
use Rattle.std.specs.Prelude.{slice_index_or}
use Rattle.std.proofs.lemmas.List.{get_or_default}
use Rattle.bpf_stack_frame.specs.ByteSet.{Has}
use Rattle.stack_domain.specs.Sets.{AreSets}
use Rattle.stack_domain.proofs.Covered.{all_known, all_marked}
use Rattle.stack_domain.proofs.stack.Stack.is_written.Goals as goal

pub returns : goal.returns
returns c =
    let stack = c.args.self.now in
    let frame = c.args.frame in
    let read = c.at.result.now in
    let end = c.args.most + c.args.count in
    let order = c.requires.order in
    let are : AreSets stack = subst AreSets c.self.view_is c.self.invariant in
    let is : read ≡ slice_index_or stack frame [] = c.at.ensures ∙ ap (λ (s : List (List Bool)). get_or s frame read) c.self.view_is ∙ get_or_default stack frame read [] c.requires.live in (
      λ all. all_known stack are frame c.args.least end (λ i from to. subst (λ (s : List Bool). Has s i) is (c.contains_all.ensures.0 all i from (omega arith))),
      λ all. c.contains_all.ensures.1 (λ i from to. subst (λ (s : List Bool). Has s i) (sym is) (all_marked stack are frame c.args.least end all i from (omega arith))),
    )
