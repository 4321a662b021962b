use Rattle.std.proofs.Common.{arith}
use Rattle.base_chunked_list.proofs.Chunks.{count_from}
use Rattle.base_chunked_list.proofs.chunked_list.ChunkedList.len.Goals as goal

pub returns : goal.returns
returns g c =
    let left = count_from c.self.inside.gone c.self.inside.full c.self.inside.last c.self.inside.spare c.self.invariant in
    rw (← c.self.view_is) (omega (arith, left.0, left.1))
