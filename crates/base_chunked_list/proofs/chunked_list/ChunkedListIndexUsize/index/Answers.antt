use Rattle.std.proofs.Common.{◌+◌, ◌<◌, ◌++◌, length, subst, sym, ◌∙◌, arith}
use Rattle.std.proofs.lemmas.List.{get_or-drop}
use Rattle.base_chunked_list.specs.ChunkedState.{ChunkedState}
use Rattle.base_chunked_list.specs.Chunks.{items_of}
use Rattle.base_chunked_list.proofs.Chunks.{count_from, in_full, in_last}
use Rattle.base_chunked_list.proofs.chunked_list.ChunkedListIndexUsize.index.Goals as goal

pub index-requires-else-chunk-len : goal.index-requires-else-chunk-len
index-requires-else-chunk-len g c =
    let within = subst (λ (s : ChunkedState g.row.T.Denot). c.args.place < length s.items) (sym c.self.view_is) c.requires in
    let left = count_from c.self.inside.gone c.self.inside.full c.self.inside.last c.self.inside.spare c.self.invariant in
    omega (arith, within, left.0, left.1)

pub returns-then-chunk-len : goal.returns-then-chunk-len
returns-then-chunk-len g c =
    rw (← c.self.view_is)
    (in_full c.self.inside.full.items c.self.inside.last.items (c.self.inside.gone + c.args.place) c.index.result.now _ c.self.invariant.chunks.full (omega arith) c.index.ensures c.index-then-chunk-len.ensures
    ∙ sym (get_or-drop c.self.inside.gone (items_of c.self.inside.full.items ++ c.self.inside.last.items) c.args.place _))

pub returns-else-chunk-len : goal.returns-else-chunk-len
returns-else-chunk-len g c =
    let within = subst (λ (s : ChunkedState g.row.T.Denot). c.args.place < length s.items) (sym c.self.view_is) c.requires in
    let left = count_from c.self.inside.gone c.self.inside.full c.self.inside.last c.self.inside.spare c.self.invariant in
    rw (← c.self.view_is)
    (in_last c.self.inside.full.items c.self.inside.last.items (c.self.inside.gone + c.args.place) _ c.self.invariant.chunks.full c.self.invariant.chunks.within (omega arith) (omega (arith, within, left.0, left.1)) c.index-else-chunk-len.ensures
    ∙ sym (get_or-drop c.self.inside.gone (items_of c.self.inside.full.items ++ c.self.inside.last.items) c.args.place _))

pub overflow_add-place : goal.overflow_add-place
overflow_add-place g c =
    let within = subst (λ (s : ChunkedState g.row.T.Denot). c.args.place < length s.items) (sym c.self.view_is) c.requires in
    let left = count_from c.self.inside.gone c.self.inside.full c.self.inside.last c.self.inside.spare c.self.invariant in
    omega (arith, within, left.0, left.1, c.self.invariant.chunks.few, c.self.invariant.chunks.within)
