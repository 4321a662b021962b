use Rattle.std.proofs.Common.{◌∙◌, ◌++◌, List, ap, arith, drop}
use Rattle.base_chunked_list.specs.Chunks.{items_of}
use Rattle.base_chunked_list.proofs.Chunks.{are_some, first_full, left_of_first, others_not_empty, slice_from}
use Rattle.base_chunked_list.proofs.iter.Iter.new.Goals as goal

pub invariant_of-t-8 : goal.invariant_of-t-8
invariant_of-t-8 g c = others_not_empty c.args.full.now c.in-Some.behind.now c.in-Some.chunk.now (are_some c.args.full.now c.requires.full) c.in-Some.ensures.cases.0

pub returns-in-Some : goal.returns-in-Some
returns-in-Some g c =
    let first = first_full c.args.full.now c.in-Some.behind.now c.in-Some.chunk.now c.requires.full c.in-Some.ensures.cases.0 in
    ap (λ (l : List g.row.T.Denot). l ++ (items_of c.in-Some.behind.now ++ c.args.last.now)) (slice_from c.args.gone c.deref.result.now ∙ ap (λ (l : List g.row.T.Denot). drop c.args.gone l) c.deref.ensures.value)
    ∙ left_of_first c.args.gone c.args.full.now c.in-Some.behind.now c.in-Some.chunk.now c.args.last.now c.in-Some.ensures.cases.0 (omega (arith, first, c.requires.first))
