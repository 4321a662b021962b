use Rattle.std.proofs.Common.{◌≤◌, length, subst, sym, arith}
use Rattle.base_chunked_list.specs.ChunkedState.{ChunkedState}
use Rattle.base_chunked_list.proofs.Chunks.{count_from, still_keeps}
use Rattle.base_chunked_list.proofs.chunked_list.ChunkedList.forget_first.Goals as goal

pub overflow_add-self-inside : goal.overflow_add-self-inside
overflow_add-self-inside g c =
    let within = subst (λ (s : ChunkedState g.row.T.Denot). c.args.count ≤ length s.items) (sym c.self.view_is) c.requires in
    let left = count_from c.self.inside.gone c.self.inside.full c.self.inside.last c.self.inside.spare c.self.invariant in
    omega (arith, within, left.0, left.1, c.self.invariant.chunks.few, c.self.invariant.chunks.within)

pub invariant_of-self-else-self-len : goal.invariant_of-self-else-self-len
invariant_of-self-else-self-len g c =
    let within = subst (λ (s : ChunkedState g.row.T.Denot). c.args.count ≤ length s.items) (sym c.self.view_is) c.requires in
    let left = count_from c.self.inside.gone c.self.inside.full c.self.inside.last c.self.inside.spare c.self.invariant in
    let its = c.drop_chunks-self-inside.ensures in
    still_keeps c.drop_chunks-self-inside.result c.self.inside.full c.drop_chunks-self-inside.new.full c.self.inside.last c.self.inside.spare c.self.invariant.chunks its.full
    (omega (arith, its.count, its.fewer)) its.capacity (omega (arith, its.count, within, left.0, left.1)) (omega (arith, its.count, its.first, within, left.0, left.1, c.self.invariant.chunks.within))

pub invariant_of-self-else-len-eq0 : goal.invariant_of-self-else-len-eq0
invariant_of-self-else-len-eq0 g c =
    let within = subst (λ (s : ChunkedState g.row.T.Denot). c.args.count ≤ length s.items) (sym c.self.view_is) c.requires in
    let left = count_from c.self.inside.gone c.self.inside.full c.self.inside.last c.self.inside.spare c.self.invariant in
    let its = c.drop_chunks-self-inside.ensures in
    still_keeps c.drop_chunks-self-inside.result c.self.inside.full c.drop_chunks-self-inside.new.full c.self.inside.last c.self.inside.spare c.self.invariant.chunks its.full
    (omega (arith, its.count, its.fewer)) its.capacity (omega (arith, its.count, within, left.0, left.1)) (omega (arith, its.count, its.first, within, left.0, left.1, c.self.invariant.chunks.within))
