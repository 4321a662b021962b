use Rattle.std.proofs.Common.{◌<◌, length, subst, sym, arith}
use Rattle.base_chunked_list.specs.ChunkedState.{ChunkedState}
use Rattle.base_chunked_list.proofs.Chunks.{count_from}
use Rattle.base_chunked_list.proofs.chunked_list.ChunkedList.push_reserved.Goals as goal

pub make_place-requires-clause-room : goal.make_place-requires-clause-room
make_place-requires-clause-room g c =
    let room = subst (λ (s : ChunkedState g.row.T.Denot). length s.items < s.capacity) (sym c.self.view_is) c.requires in
    let left = count_from c.self.inside.gone c.self.inside.full c.self.inside.last c.self.inside.spare c.self.invariant in
    omega (arith, room, left.0, left.1)
